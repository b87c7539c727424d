-- The test of `is_unit_or_zero` on the bits, and what it says: a value of 0, 1 or -1. Assumes nothing.
use mathlib.Core.Path.{◌≡◌, refl, sym, ap, ◌∙◌, subst}
use mathlib.Core.Logic.{◌⊎◌, inl, inr}
use mathlib.Core.Bool.{Bool, true, false, ◌||◌}
use Prim.Native.Nat.{ℕ, ◌+◌, ◌-◌, ◌*◌, ◌/◌, ◌%◌, ◌^◌, ◌≤◌, ◌<◌, zero-le}
use native.Mathlib.Nat.{le_refl, mod-lt, mod-eq_of_lt, add-mul-mod_self_left, div-add-mod'}
use native.Mathlib.Omega.{arith}
use lib.Bits.{bit_and, bit_or, and_mask}
use lib.Dec.{T, eqb, eqb→eq}
use lib.Pow.{pow_pos}
use lib.Ieee.{Float, nan, binary64, fits, of_bits, to_bits}
use lib.Ieee.Bits.{of_bits-to_bits, to_bits-lt}
use lib.Ieee.Fits.{eq→eqb}
use Rattle.rounding.specs.Fields.{exponent_field_of}
use Rattle.fused.specs.Units.{unit_or_zero}
use Rattle.rounding.proofs.Naturals.{lt_or_ge}
use Rattle.fused.proofs.Naturals.{same_test, or_zero, zero_or}
use Rattle.rounding.proofs.decode.Reading.{field_lt}
use Rattle.fused.proofs.multiply_add.ExactProduct.{Unit}

abbrev one : ℕ
one = 0x3ff0_0000_0000_0000

either : (a b : Bool) → T (a || b) → T a ⊎ T b
either true b t = inl tt
either false b t = inr t

or_l : (a b : Bool) → T a → T (a || b)
or_l true b t = tt
or_l false b t = absurd t

or_r : (a b : Bool) → T b → T (a || b)
or_r true b t = tt
or_r false b t = t

-- ---- 1023 is its own inverse modulo 2048, so that 1023 times a field gives the field back
zero_or_1023 : (f : ℕ) → f < 2 ^ 11 → f * 1023 % 2 ^ 11 / 2 ≡ 0 → (f ≡ 0) ⊎ (f ≡ 1023)
zero_or_1023 f h e = pick (lt_or_ge (f * 1023 % 2 ^ 11) 1)
  where
    scaled : (f q g : ℕ) → q * 2 ^ 11 + g ≡ f * 1023 → f + 2 ^ 11 * (511 * f) ≡ 1023 * g + 2 ^ 11 * (1023 * q)
    scaled f q g e = omega arith

    inverse : f ≡ 1023 * (f * 1023 % 2 ^ 11) % 2 ^ 11
    inverse =
        sym (mod-eq_of_lt h)
        ∙ sym (add-mul-mod_self_left f (2 ^ 11) (511 * f))
        ∙ ap (λ (x : ℕ). x % 2 ^ 11) (scaled f (f * 1023 / 2 ^ 11) (f * 1023 % 2 ^ 11) (div-add-mod' (f * 1023) (2 ^ 11)))
        ∙ add-mul-mod_self_left (1023 * (f * 1023 % 2 ^ 11)) (2 ^ 11) (1023 * (f * 1023 / 2 ^ 11))

    none : (g : ℕ) → g < 1 → g ≡ 0
    none g a = omega arith

    once : (g : ℕ) → g / 2 ≡ 0 → 1 ≤ g → g ≡ 1
    once g a b = omega arith

    pick : (f * 1023 % 2 ^ 11 < 1) ⊎ (1 ≤ f * 1023 % 2 ^ 11) → (f ≡ 0) ⊎ (f ≡ 1023)
    pick (inl a) = inl (inverse ∙ ap (λ (g : ℕ). 1023 * g % 2 ^ 11) (none (f * 1023 % 2 ^ 11) a))
    pick (inr a) = inr (inverse ∙ ap (λ (g : ℕ). 1023 * g % 2 ^ 11) (once (f * 1023 % 2 ^ 11) e a))

-- ---- the test
module _ (n field : ℕ) (F : field ≡ exponent_field_of n) where
  abbrev other : ℕ
  other = bit_and (field * 1023) 2047 / 2

  abbrev fraction : ℕ
  fraction = bit_and n (2 ^ 52 - 1)

  other_is : other ≡ n / 2 ^ 52 % 2 ^ 11 * 1023 % 2 ^ 11 / 2
  unfolding exponent_field_of
  other_is = ap (λ (x : ℕ). bit_and (x * 1023) 2047 / 2) F ∙ ap (λ (x : ℕ). x / 2) (and_mask (n / 2 ^ 52 % 2 ^ 11 * 1023) 11)

  fraction_is : fraction ≡ n % 2 ^ 52
  fraction_is = and_mask n 52

  there : T (eqb (bit_or other fraction) 0) → T (eqb (n % 2 ^ 63) 0 || eqb (n % 2 ^ 63) one)
  there t =
      let z = or_zero other fraction (eqb→eq (bit_or other fraction) 0 t) in
      pick (of_field n (zero_or_1023 (n / 2 ^ 52 % 2 ^ 11) (mod-lt (n / 2 ^ 52) (pow_pos 11)) (sym other_is ∙ z.0)) (sym fraction_is ∙ z.1))
    where
      zero : (n : ℕ) → n / 2 ^ 52 % 2 ^ 11 ≡ 0 → n % 2 ^ 52 ≡ 0 → n % 2 ^ 63 ≡ 0
      zero n a b = omega arith

      unit : (n : ℕ) → n / 2 ^ 52 % 2 ^ 11 ≡ 1023 → n % 2 ^ 52 ≡ 0 → n % 2 ^ 63 ≡ one
      unit n a b = omega arith

      of_field : (n : ℕ) → (n / 2 ^ 52 % 2 ^ 11 ≡ 0) ⊎ (n / 2 ^ 52 % 2 ^ 11 ≡ 1023) → n % 2 ^ 52 ≡ 0 → (n % 2 ^ 63 ≡ 0) ⊎ (n % 2 ^ 63 ≡ one)
      of_field n (inl a) b = inl (zero n a b)
      of_field n (inr a) b = inr (unit n a b)

      pick : (n % 2 ^ 63 ≡ 0) ⊎ (n % 2 ^ 63 ≡ one) → T (eqb (n % 2 ^ 63) 0 || eqb (n % 2 ^ 63) one)
      pick (inl e) = or_l (eqb (n % 2 ^ 63) 0) (eqb (n % 2 ^ 63) one) (eq→eqb e)
      pick (inr e) = or_r (eqb (n % 2 ^ 63) 0) (eqb (n % 2 ^ 63) one) (eq→eqb e)

  back : T (eqb (n % 2 ^ 63) 0 || eqb (n % 2 ^ 63) one) → T (eqb (bit_or other fraction) 0)
  back t = eq→eqb (zero_or other fraction (other_is ∙ (go n which).0) (fraction_is ∙ (go n which).1))
    where
      which : (n % 2 ^ 63 ≡ 0) ⊎ (n % 2 ^ 63 ≡ one)
      which = pick (either (eqb (n % 2 ^ 63) 0) (eqb (n % 2 ^ 63) one) t)
        where
          pick : T (eqb (n % 2 ^ 63) 0) ⊎ T (eqb (n % 2 ^ 63) one) → (n % 2 ^ 63 ≡ 0) ⊎ (n % 2 ^ 63 ≡ one)
          pick (inl e) = inl (eqb→eq (n % 2 ^ 63) 0 e)
          pick (inr e) = inr (eqb→eq (n % 2 ^ 63) one e)

      zeros : (n : ℕ) → n % 2 ^ 63 ≡ 0 → (n / 2 ^ 52 % 2 ^ 11 ≡ 0) × (n % 2 ^ 52 ≡ 0)
      zeros n e = omega arith

      ones : (n : ℕ) → n % 2 ^ 63 ≡ one → (n / 2 ^ 52 % 2 ^ 11 ≡ 1023) × (n % 2 ^ 52 ≡ 0)
      ones n e = omega arith

      go : (n : ℕ) → (n % 2 ^ 63 ≡ 0) ⊎ (n % 2 ^ 63 ≡ one) → (n / 2 ^ 52 % 2 ^ 11 * 1023 % 2 ^ 11 / 2 ≡ 0) × (n % 2 ^ 52 ≡ 0)
      go n (inl e) = let k = zeros n e in (ap (λ (f : ℕ). f * 1023 % 2 ^ 11 / 2) k.0, k.1)
      go n (inr e) = let k = ones n e in (ap (λ (f : ℕ). f * 1023 % 2 ^ 11 / 2) k.0, k.1)

  pub product_fits : field * 1023 < 2 ^ 64
  product_fits = go field (subst (λ (x : ℕ). x < 2 ^ 11) (sym F) (field_lt n))
    where
      go : (f : ℕ) → f < 2 ^ 11 → f * 1023 < 2 ^ 64
      go f h = omega arith

  pub pattern_test : eqb (bit_or other fraction) 0 ≡ eqb (n % 2 ^ 63) 0 || eqb (n % 2 ^ 63) one
  pattern_test = same_test (eqb (bit_or other fraction) 0) (eqb (n % 2 ^ 63) 0 || eqb (n % 2 ^ 63) one) there back

pub nan_is_none : (v : Float) → v ≡ nan → false ≡ unit_or_zero v
unfolding unit_or_zero to_bits
nan_is_none v e = sym (ap unit_or_zero e)

-- ---- what it says: there are four such patterns
unit_pattern : (n : ℕ) → n < 2 ^ 64 → (n % 2 ^ 63 ≡ 0) ⊎ (n % 2 ^ 63 ≡ one) → Unit (of_bits binary64 n)
unfolding of_bits
unit_pattern n h (inl e) = go (sign n h e (lt_or_ge n (2 ^ 63)))
  where
    sign : (n : ℕ) → n < 2 ^ 64 → n % 2 ^ 63 ≡ 0 → (n < 2 ^ 63) ⊎ (2 ^ 63 ≤ n) → (n ≡ 0) ⊎ (n ≡ 2 ^ 63)
    sign n h e (inl l) = inl (omega arith)
    sign n h e (inr g) = inr (omega arith)

    go : (n ≡ 0) ⊎ (n ≡ 2 ^ 63) → Unit (of_bits binary64 n)
    go (inl p) = subst (λ (x : ℕ). Unit (of_bits binary64 x)) (sym p) (record { sign = false; size = 0; small = zero-le; value = (refl, refl) })
    go (inr p) = subst (λ (x : ℕ). Unit (of_bits binary64 x)) (sym p) (record { sign = true; size = 0; small = zero-le; value = (refl, refl) })
unit_pattern n h (inr e) = go (sign n h e (lt_or_ge n (2 ^ 63)))
  where
    sign : (n : ℕ) → n < 2 ^ 64 → n % 2 ^ 63 ≡ one → (n < 2 ^ 63) ⊎ (2 ^ 63 ≤ n) → (n ≡ one) ⊎ (n ≡ 2 ^ 63 + one)
    sign n h e (inl l) = inl (omega arith)
    sign n h e (inr g) = inr (omega arith)

    go : (n ≡ one) ⊎ (n ≡ 2 ^ 63 + one) → Unit (of_bits binary64 n)
    go (inl p) = subst (λ (x : ℕ). Unit (of_bits binary64 x)) (sym p) (record { sign = false; size = 1; small = le_refl 1; value = (refl, refl) })
    go (inr p) = subst (λ (x : ℕ). Unit (of_bits binary64 x)) (sym p) (record { sign = true; size = 1; small = le_refl 1; value = (refl, refl) })

pub unit_of_test : (v : Float) → T (fits binary64 v) → T (unit_or_zero v) → Unit v
unfolding unit_or_zero
unit_of_test v F t = subst Unit (of_bits-to_bits binary64 v F) (unit_pattern n (to_bits-lt binary64 v F) (pick (either (eqb (n % 2 ^ 63) 0) (eqb (n % 2 ^ 63) one) t)))
  where
    n : ℕ
    n = to_bits binary64 v

    pick : T (eqb (n % 2 ^ 63) 0) ⊎ T (eqb (n % 2 ^ 63) one) → (n % 2 ^ 63 ≡ 0) ⊎ (n % 2 ^ 63 ≡ one)
    pick (inl e) = inl (eqb→eq (n % 2 ^ 63) 0 e)
    pick (inr e) = inr (eqb→eq (n % 2 ^ 63) one e)
