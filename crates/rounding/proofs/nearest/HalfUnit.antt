-- m / 2 ^ d to the nearest whole number, as shifts give it: the quotient by two shifts, and the rest pushed up to the top of a word, where half a unit is 2 ^ 63.
-- Assumes nothing.
use Rattle.std.proofs.Common.{◌≡◌, ℕ, ◌+◌, ◌-◌, ◌*◌, ◌/◌, ◌%◌, ◌^◌, ◌<◌, ◌≤◌, sym, ap, ◌∙◌, lt_of_lt_of_le, lt_of_le_of_lt, mod-eq_of_lt, lt_of_mul-lt-mul_right, mul_right_comm, add-one, arith, pow_pos, pow_mono, pow-add, shr-shr}
use Prim.Native.Nat.{compare, Ordering}
use native.Mathlib.Nat.{eq_of_mul-eq-mul_right, div-eq_of_lt}
use lib.Bits.{bit_and, and_mask}
use lib.Pow.{shr_le}
use lib.Ieee.{nearest}
use lib.Ieee.Nearest.{closest}
use Rattle.rounding.proofs.Naturals.{compare_eq, compare_gt, compare_lt, scaled_mod}

-- ---- a number below half a unit
pub nearest_below_half : (m u : ℕ) → m * 2 < u → closest m u ≡ 0
nearest_below_half m u h =
    let l : m < u = once m u h in
    ap (λ (x : ℕ). nearest x (compare (m % u * 2) u)) (div-eq_of_lt l)
    ∙ ap (λ (x : ℕ). nearest 0 (compare (x * 2) u)) (mod-eq_of_lt l)
    ∙ ap (λ (x : Ordering). nearest 0 x) (compare_lt (m * 2) u h)
  where
    once : (m u : ℕ) → m * 2 < u → m < u
    once m u h = omega arith

pub nearest_far_below : (m d : ℕ) → m < 2 ^ 64 → 64 < d → closest m (2 ^ d) ≡ 0
nearest_far_below m d h g = nearest_below_half m (2 ^ d) (lt_of_lt_of_le (twice m h) (pow_mono g))
  where
    twice : (m : ℕ) → m < 2 ^ 64 → m * 2 < 2 ^ 65
    twice m h = omega arith

-- ---- a shift of at most a word
module _ (m d : ℕ) (D : 0 < d) (L : d ≤ 64) where
  abbrev c : ℕ
  c = 2 ^ (64 - d)

  abbrev r : ℕ
  r = m % 2 ^ d

  width : 2 ^ d * c ≡ 2 ^ 64
  width = sym (pow-add 2 d (64 - d)) ∙ ap (λ (x : ℕ). 2 ^ x) (join d L)
    where
      join : (d : ℕ) → d ≤ 64 → d + (64 - d) ≡ 64
      join d l = omega arith

  rest_is : m * c % 2 ^ 64 ≡ r * c
  rest_is = ap (λ (x : ℕ). m * c % x) (sym width) ∙ scaled_mod m (2 ^ d) c (pow_pos d) (pow_pos (64 - d))

  pub quotient_is : m / 2 ^ (d - 1) / 2 ≡ m / 2 ^ d
  quotient_is = shr-shr m (d - 1) 1 ∙ ap (λ (x : ℕ). m / 2 ^ x) (back d D)
    where
      back : (d : ℕ) → 0 < d → d - 1 + 1 ≡ d
      back d l = omega arith

  pub nearest_under_half : m * c % 2 ^ 64 < 2 ^ 63 → closest m (2 ^ d) ≡ m / 2 ^ d
  nearest_under_half h = ap (λ (o : Ordering). nearest (m / 2 ^ d) o) (compare_lt (r * 2) (2 ^ d) (lt_of_mul-lt-mul_right c (go (m * c % 2 ^ 64) (r * c) (r * 2 * c) (2 ^ d * c) rest_is (mul_right_comm r 2 c) width h)))
    where
      go : (a b x y : ℕ) → a ≡ b → x ≡ b * 2 → y ≡ 2 ^ 64 → a < 2 ^ 63 → x < y
      go a b x y e f g h = omega arith

  pub nearest_over_half : 2 ^ 63 < m * c % 2 ^ 64 → closest m (2 ^ d) ≡ m / 2 ^ d + 1
  nearest_over_half h =
      ap (λ (o : Ordering). nearest (m / 2 ^ d) o) (compare_gt (r * 2) (2 ^ d) (lt_of_mul-lt-mul_right c (go (m * c % 2 ^ 64) (r * c) (r * 2 * c) (2 ^ d * c) rest_is (mul_right_comm r 2 c) width h)))
      ∙ sym (add-one (m / 2 ^ d))
    where
      go : (a b x y : ℕ) → a ≡ b → x ≡ b * 2 → y ≡ 2 ^ 64 → 2 ^ 63 < a → y < x
      go a b x y e f g h = omega arith

  pub nearest_at_half : 2 ^ 63 ≤ m * c % 2 ^ 64 → m * c % 2 ^ 64 ≤ 2 ^ 63 → closest m (2 ^ d) ≡ m / 2 ^ d + bit_and (m / 2 ^ d) 1
  nearest_at_half h k =
      ap (λ (o : Ordering). nearest (m / 2 ^ d) o) (compare_eq (r * 2) (2 ^ d) (eq_of_mul-eq-mul_right c (pow_pos (64 - d)) (r * 2) (2 ^ d) (go (m * c % 2 ^ 64) (r * c) (r * 2 * c) (2 ^ d * c) rest_is (mul_right_comm r 2 c) width h k)))
      ∙ ap (λ (x : ℕ). m / 2 ^ d + x) (sym (and_mask (m / 2 ^ d) 1))
    where
      go : (a b x y : ℕ) → a ≡ b → x ≡ b * 2 → y ≡ 2 ^ 64 → 2 ^ 63 ≤ a → a ≤ 2 ^ 63 → x ≡ y
      go a b x y e f g h k = omega arith

  -- the quotient is below 2 ^ 63, so one more fits
  pub quotient_room : m < 2 ^ 64 → (x : ℕ) → x ≤ 1 → m / 2 ^ (d - 1) / 2 + x < 2 ^ 64
  quotient_room h x l = go (m / 2 ^ (d - 1)) (lt_of_le_of_lt (shr_le m (d - 1)) h)
    where
      go : (q : ℕ) → q < 2 ^ 64 → q / 2 + x < 2 ^ 64
      go q g = omega arith
