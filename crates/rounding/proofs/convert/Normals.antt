-- An f64 as a normal f32: half a unit less one and the even bit added, and one shift, give what `packed` gives.
-- Assumes nothing.
use Rattle.std.proofs.Common.{◌≡◌, ℕ, suc, ◌+◌, ◌-◌, ◌*◌, ◌/◌, ◌%◌, ◌^◌, ◌<◌, ◌≤◌, min, max, sym, refl, ap, ◌∙◌, subst, inl, inr, mod-lt, mod-eq_of_lt, mul_assoc, arith, pow_pos}
use Prim.Native.Nat.{Ordering}
use native.Mathlib.Nat.{min-eq_left}
use lib.Bits.{bit_and, bit_or, and_mask, or_zero_l}
use lib.Ieee.{binary32, binary64, of_bits, nearest}
use lib.Ieee.Nearest.{closest, closest_same}
use Rattle.rounding.specs.Narrow.{narrow}
use Rattle.rounding.specs.Fields.{exponent_field_of, exponent_of}
use Rattle.rounding.specs.Packed.{packed, Encodes}
use Rattle.rounding.proofs.Naturals.{lt_or_ge, compare_lt, compare_eq, compare_gt}
use Rattle.rounding.proofs.nearest.Normalising.{IsLeadingZeros}
use Rattle.rounding.proofs.decode.Reading.{significand_normal}
use Rattle.rounding.proofs.convert.Narrowing.{sign, narrow_encodes}

-- ---- m / 2 ^ 29 to the nearest whole number, by one sum and one shift
abbrev summed : ℕ → ℕ
summed m = (m + (2 ^ 28 - 1) + m / 2 ^ 29 % 2) / 2 ^ 29

closest_by_sum : (m : ℕ) → closest m (2 ^ 29) ≡ summed m
closest_by_sum m =
    elim (lt_or_ge r (2 ^ 29)) [
      | inl l ↦ ap (λ (o : Ordering). nearest q o) (compare_lt r (2 ^ 29) l) ∙ under m l
      | inr g ↦
          elim (lt_or_ge (2 ^ 29) r) [
            | inl l ↦ ap (λ (o : Ordering). nearest q o) (compare_gt r (2 ^ 29) l) ∙ over m l
            | inr k ↦ ap (λ (o : Ordering). nearest q o) (compare_eq r (2 ^ 29) (half m g k)) ∙ even m g k
          ]
    ]
  where
    q : ℕ
    q = m / 2 ^ 29

    r : ℕ
    r = m % 2 ^ 29 * 2

    under : (m : ℕ) → m % 2 ^ 29 * 2 < 2 ^ 29 → m / 2 ^ 29 ≡ summed m
    under m l = omega arith

    over : (m : ℕ) → 2 ^ 29 < m % 2 ^ 29 * 2 → suc (m / 2 ^ 29) ≡ summed m
    over m l = omega arith

    half : (m : ℕ) → 2 ^ 29 ≤ m % 2 ^ 29 * 2 → m % 2 ^ 29 * 2 ≤ 2 ^ 29 → m % 2 ^ 29 * 2 ≡ 2 ^ 29
    half m g k = omega arith

    even : (m : ℕ) → 2 ^ 29 ≤ m % 2 ^ 29 * 2 → m % 2 ^ 29 * 2 ≤ 2 ^ 29 → m / 2 ^ 29 + m / 2 ^ 29 % 2 ≡ summed m
    even m g k = omega arith

-- ---- the exponent's field x and the fraction t of an f64 whose nearest f32 is normal, or the infinity
module _ (x t : ℕ) (lo : 897 ≤ x) (hi : x ≤ 1150) (T : t < 2 ^ 52) where
  abbrev m : ℕ
  m = 2 ^ 52 + t

  normalised : IsLeadingZeros m 11
  normalised = omega arith

  normal_packed : packed 24 255 (m * 2 ^ 11) (x - 1) (11 + 925) ≡ (x - 897) * 2 ^ 23 + summed m
  unfolding packed
  normal_packed =
      (λ i. min (field_is x lo i * 2 ^ 23 + closest (m * 2 ^ 11) (2 ^ dropped x lo i)) (255 * 2 ^ 23))
      ∙ ap (λ (y : ℕ). min ((x - 897) * 2 ^ 23 + y) (255 * 2 ^ 23)) (closest_same (m * 2 ^ 11) (2 ^ 40) m (2 ^ 29) (pow_pos 40) (pow_pos 29) (mul_assoc m (2 ^ 11) (2 ^ 29)) ∙ closest_by_sum m)
      ∙ min-eq_left (up_to_infinity x t hi T)
    where
      field_is : (x : ℕ) → 897 ≤ x → 64 + (x - 1) - (11 + 925 + 24) ≡ x - 897
      field_is x l = omega arith

      dropped : (x : ℕ) → 897 ≤ x → max (64 - 24) (11 + 925 - (x - 1)) ≡ 40
      dropped x l = omega arith

      up_to_infinity : (x t : ℕ) → x ≤ 1150 → t < 2 ^ 52 → (x - 897) * 2 ^ 23 + summed (2 ^ 52 + t) ≤ 255 * 2 ^ 23
      up_to_infinity x t l k = omega arith

-- ---- the pattern n of a positive f64
abbrev rebiased : ℕ → ℕ
rebiased n = n - 896 * 2 ^ 52 + (2 ^ 28 - 1) + bit_and (n / 2 ^ 29) 1

abbrev pub NarrowsTo : ℕ → Type 0
NarrowsTo n = Encodes binary32 (rebiased n / 2 ^ 29) (narrow (of_bits binary64 n))

module _ (n : ℕ) (h : n < 2 ^ 63) (lo : 897 ≤ exponent_field_of n) (hi : exponent_field_of n ≤ 1150) where
  pub pattern_ge : 896 * 2 ^ 52 ≤ n
  unfolding exponent_field_of
  pattern_ge = omega arith

  rounded_is : rebiased n / 2 ^ 29 ≡ (exponent_field_of n - 897) * 2 ^ 23 + summed (2 ^ 52 + n % 2 ^ 52)
  unfolding exponent_field_of
  rounded_is =
      (λ i. (fields n h i - 896 * 2 ^ 52 + (2 ^ 28 - 1) + (and_mask (n / 2 ^ 29) 1 ∙ even_bit n) i) / 2 ^ 29)
      ∙ rebias (n / 2 ^ 52 % 2 ^ 11) (n % 2 ^ 52) ((2 ^ 52 + n % 2 ^ 52) / 2 ^ 29 % 2) lo
    where
      fields : (n : ℕ) → n < 2 ^ 63 → n ≡ n / 2 ^ 52 % 2 ^ 11 * 2 ^ 52 + n % 2 ^ 52
      fields n h = omega arith

      even_bit : (n : ℕ) → n / 2 ^ 29 % 2 ≡ (2 ^ 52 + n % 2 ^ 52) / 2 ^ 29 % 2
      even_bit n = omega arith

      rebias : (x t b : ℕ) → 897 ≤ x → (x * 2 ^ 52 + t - 896 * 2 ^ 52 + (2 ^ 28 - 1) + b) / 2 ^ 29 ≡ (x - 897) * 2 ^ 23 + (2 ^ 52 + t + (2 ^ 28 - 1) + b) / 2 ^ 29
      rebias x t b l = omega arith

  pub narrow_normal_encodes : NarrowsTo n
  unfolding exponent_of
  narrow_normal_encodes =
      let x = exponent_field_of n in
      let t = n % 2 ^ 52 in
      let T = mod-lt n (pow_pos 52) in
      let z = normalised x t lo hi T in
      subst (λ (r : ℕ). Encodes binary32 r (narrow (of_bits binary64 n))) (ap (λ (s : ℕ). bit_or s (rebiased n / 2 ^ 29)) (no_sign n h) ∙ or_zero_l (rebiased n / 2 ^ 29))
      (narrow_encodes n (wider n h) (finite x hi) (2 ^ 52 + t) (x - 1) 11 (rebiased n / 2 ^ 29) (significand_normal n (normal x lo)) refl z
      (rounded_is ∙ sym (ap (λ (y : ℕ). packed 24 255 y (x - 1) (11 + 925)) (mod-eq_of_lt z.2) ∙ normal_packed x t lo hi T)))
    where
      no_sign : (n : ℕ) → n < 2 ^ 63 → sign n ≡ 0
      no_sign n h = omega arith

      wider : (n : ℕ) → n < 2 ^ 63 → n < 2 ^ 64
      wider n h = omega arith

      finite : (x : ℕ) → x ≤ 1150 → x ≡ 2047 → ⊥
      finite x h e = omega arith

      normal : (x : ℕ) → 897 ≤ x → x ≡ 0 → ⊥
      normal x h e = omega arith
