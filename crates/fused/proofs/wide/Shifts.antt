-- A number of 128 bits shifted down is its quotient rounded to odd, by any distance.
-- Assumes nothing.
use mathlib.Core.Path.{◌≡◌, sym, ap, ◌∙◌, subst}
use mathlib.Core.Logic.{inl}
use Prim.Native.Nat.{ℕ, ◌+◌, ◌-◌, ◌*◌, ◌/◌, ◌%◌, ◌^◌, ◌≤◌, ◌<◌}
use native.Mathlib.Nat.{lt_of_lt_of_le, zero-add, zero-mul, mul-one, eq_of_mul-eq-mul_right, mod-lt}
use native.Mathlib.Omega.{arith}
use lib.Pow.{pow_pos, pow-add, pow_mono, split}
use Rattle.rounding.specs.RoundToOdd.{RoundsToOdd}
use Rattle.fused.specs.RoundToOdd.{with_sticky}
use Rattle.rounding.proofs.Naturals.{scaled_mod}
use Rattle.fused.proofs.RoundToOdd.{to_odd_sticky}

pub shift_none : (n d : ℕ) → d ≡ 0 → RoundsToOdd n n (2 ^ d)
shift_none n d z = inl (ap (λ (x : ℕ). n * 2 ^ x) z ∙ mul-one n)

module _ (n d : ℕ) (L : d < 128) where
  abbrev c : ℕ
  c = 2 ^ (128 - d)

  width : 2 ^ d * c ≡ 2 ^ 128
  width = sym (pow-add 2 d (128 - d)) ∙ ap (λ (x : ℕ). 2 ^ x) (join d L)
    where
      join : (d : ℕ) → d < 128 → d + (128 - d) ≡ 128
      join d l = omega arith

  -- what is lost at the top where the number is shifted up
  pushed : n * c % 2 ^ 128 ≡ n % 2 ^ d * c
  pushed = ap (λ (x : ℕ). n * c % x) (sym width) ∙ scaled_mod n (2 ^ d) c (pow_pos d) (pow_pos (128 - d))

  none_is : (x : ℕ) → x * c ≡ 0 → x ≡ 0
  none_is x e = eq_of_mul-eq-mul_right c (pow_pos (128 - d)) x 0 (e ∙ sym (zero-mul c))

  pub shift_part : (r : ℕ) → r ≡ with_sticky (n / 2 ^ d) (n * c % 2 ^ 128) → RoundsToOdd r n (2 ^ d)
  shift_part r e =
      subst (λ (x : ℕ). RoundsToOdd x n (2 ^ d)) (sym e)
      (to_odd_sticky (n / 2 ^ d) (n % 2 ^ d) (n * c % 2 ^ 128) n (2 ^ d) (split n d) (mod-lt n (pow_pos d))
      (λ z. none_is (n % 2 ^ d) (sym pushed ∙ z))
      (λ z. pushed ∙ ap (λ (x : ℕ). x * c) z ∙ zero-mul c))

pub shift_all : (n d r : ℕ) → n < 2 ^ 128 → 128 ≤ d → r ≡ with_sticky 0 n → RoundsToOdd r n (2 ^ d)
shift_all n d r h g e =
    subst (λ (x : ℕ). RoundsToOdd x n (2 ^ d)) (sym e)
    (to_odd_sticky 0 n n n (2 ^ d) (ap (λ (x : ℕ). x + n) (zero-mul (2 ^ d)) ∙ zero-add n) (lt_of_lt_of_le h (pow_mono g)) (λ z. z) (λ z. z))
