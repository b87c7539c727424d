-- `packed` as the code works it out: where no digit is dropped, and where the exponent's field is above 0.
-- Assumes nothing.
use Rattle.std.proofs.Common.{◌≡◌, ℕ, ◌+◌, ◌-◌, ◌*◌, ◌/◌, ◌%◌, ◌^◌, ◌<◌, ◌≤◌, min, max, sym, ap, ◌∙◌, subst, le_trans, le-add_right, lt_of_le_of_lt, le_of_lt, mul-le-mul_right, mod-eq_of_lt, zero-add, zero-mul, arith, pow_mono, shr_lt}
use Prim.Native.Nat.{compare}
use native.Mathlib.Nat.{min-eq_right}
use lib.Ieee.Fits.{nearest-le}
use lib.Ieee.Nearest.{closest}
use Rattle.rounding.specs.Packed.{packed}

abbrev pub Room : ℕ → ℕ → ℕ → ℕ → Type 0
Room x b p o = (2 ≤ p) × (p ≤ 62) × (x < 2 ^ 32) × (b < 2 ^ 32) × (o * 2 ^ (p - 1) < 2 ^ 63)

module _ (m x b p o : ℕ) (P : Room x b p o) where
  abbrev cap : ℕ
  cap = o * 2 ^ (p - 1) % 2 ^ 64

  cap_is : cap ≡ o * 2 ^ (p - 1)
  cap_is = mod-eq_of_lt (wider (o * 2 ^ (p - 1)) P.4)
    where
      wider : (a : ℕ) → a < 2 ^ 63 → a < 2 ^ 64
      wider a h = omega arith

  -- few digits: none is dropped
  pub low_is : 64 + x ≤ b + p → (t : ℕ) → t ≡ closest m (2 ^ (b - x)) → packed p o m x b ≡ min t cap
  unfolding packed
  low_is g t e =
      ap (λ (k : ℕ). min (k * 2 ^ (p - 1) + closest m (2 ^ max (64 - p) (b - x))) (o * 2 ^ (p - 1))) (none p g)
      ∙ ap (λ (d : ℕ). min (0 * 2 ^ (p - 1) + closest m (2 ^ d)) (o * 2 ^ (p - 1))) (most p P.1 g)
      ∙ ap (λ (k : ℕ). min k (o * 2 ^ (p - 1))) (ap (λ (y : ℕ). y + closest m (2 ^ (b - x))) (zero-mul (2 ^ (p - 1))) ∙ zero-add (closest m (2 ^ (b - x))) ∙ sym e)
      ∙ ap (λ (k : ℕ). min t k) (sym cap_is)
    where
      none : (p : ℕ) → 64 + x ≤ b + p → 64 + x - (b + p) ≡ 0
      none p g = omega arith

      most : (p : ℕ) → p ≤ 62 → 64 + x ≤ b + p → max (64 - p) (b - x) ≡ b - x
      most p h g = omega arith

  high_is : b + p < 64 + x → packed p o m x b ≡ min ((64 + x - (b + p)) * 2 ^ (p - 1) + closest m (2 ^ (64 - p))) (o * 2 ^ (p - 1))
  unfolding packed
  high_is g = ap (λ (d : ℕ). min ((64 + x - (b + p)) * 2 ^ (p - 1) + closest m (2 ^ d)) (o * 2 ^ (p - 1))) (most p P.1 g)
    where
      most : (p : ℕ) → p ≤ 62 → b + p < 64 + x → max (64 - p) (b - x) ≡ 64 - p
      most p h g = omega arith

  pub past_infinity : b + p < 64 + x → o ≤ 64 + x - (b + p) → cap ≡ packed p o m x b
  past_infinity g l =
      cap_is
      ∙ sym (high_is g ∙ min-eq_right (le_trans (mul-le-mul_right (2 ^ (p - 1)) l) (le-add_right ((64 + x - (b + p)) * 2 ^ (p - 1)) (closest m (2 ^ (64 - p))))))

  -- the field below that of an infinity
  module _ (g : b + p < 64 + x) (l : 64 + x - (b + p) < o) (t : ℕ) (e : t ≡ closest m (2 ^ (64 - p))) (H : m < 2 ^ 64) where
    abbrev field : ℕ
    field = (64 + x - (b + p)) * 2 ^ (p - 1) % 2 ^ 64

    field_lt : (64 + x - (b + p)) * 2 ^ (p - 1) < 2 ^ 63
    field_lt = lt_of_le_of_lt (mul-le-mul_right (2 ^ (p - 1)) (le_of_lt l)) P.4

    field_is : field ≡ (64 + x - (b + p)) * 2 ^ (p - 1)
    field_is = mod-eq_of_lt (wider ((64 + x - (b + p)) * 2 ^ (p - 1)) field_lt)
      where
        wider : (a : ℕ) → a < 2 ^ 63 → a < 2 ^ 64
        wider a h = omega arith

    digits_le : closest m (2 ^ (64 - p)) ≤ 2 ^ 62
    digits_le =
        le_trans (nearest-le (m / 2 ^ (64 - p)) (compare (m % 2 ^ (64 - p) * 2) (2 ^ (64 - p))))
        (le_trans (shr_lt p (64 - p) (subst (λ (y : ℕ). m < 2 ^ y) (join p P.1) H)) (pow_mono P.1))
      where
        join : (p : ℕ) → p ≤ 62 → 64 ≡ p + (64 - p)
        join p h = omega arith

    pub magnitude_fits : field + t < 2 ^ 64
    magnitude_fits = go field ((64 + x - (b + p)) * 2 ^ (p - 1)) t (closest m (2 ^ (64 - p))) field_is e field_lt digits_le
      where
        go : (a b c d : ℕ) → a ≡ b → c ≡ d → b < 2 ^ 63 → d ≤ 2 ^ 62 → a + c < 2 ^ 64
        go a b c d p q h k = omega arith

    pub normal_is : packed p o m x b ≡ min (field + t) cap
    normal_is = high_is g ∙ ap (λ (y : ℕ). min (y + closest m (2 ^ (64 - p))) (o * 2 ^ (p - 1))) (sym field_is) ∙ ap (λ (y : ℕ). min (field + y) (o * 2 ^ (p - 1))) (sym e) ∙ ap (λ (y : ℕ). min (field + t) y) (sym cap_is)
