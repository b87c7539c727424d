-- The two comparisons of `narrows_to_normal`, as bounds of the pattern's fields: the order of positive values is that of their fractions.
-- Assumes nothing.
use Rattle.std.proofs.Common.{◌≡◌, ℕ, ◌+◌, ◌-◌, ◌*◌, ◌%◌, ◌^◌, ◌<◌, ◌≤◌, Bool, true, false, not, T, leb, pos, negsuc, sym, refl, subst, le_trans, le_of_eq, lt_of_lt_of_le, le-add_right, mul-le-mul_right, lt_of_not-le, not-le_of_lt, le_of_mul-le-mul_right, arith, ltb→lt, pow_pos, pow_mono, pow-add, shl_lt}
use lib.Dec.{nleb→lt}
use lib.Ieee.{Float, nan, inf, fin, binary64, lt, le, fits, is_nan, to_bits}
use lib.Ieee.Fits.{and_l, and_r}
use lib.Ieee.Exact.{HasValue}
use lib.Ieee.Order.{transfer}
use lib.Ieee.Positive.{num, den, positive, above, value→cross, values_of_le, above_of_le}
use Rattle.rounding.specs.Fields.{exponent_field_of, significand_of, exponent_of}
use Rattle.rounding.specs.Narrow.{narrows_to_normal}
use Rattle.rounding.proofs.decode.Reading.{significand_lt, significand_normal, units_of, finite_at_lem, infinite_at}

-- ---- positive values
below_is_positive : (x : Float) → T (above x) → T (lt x (fin false 1 (pos 128))) → T (positive x)
unfolding lt
below_is_positive nan a l = absurd a
below_is_positive (inf true) a l = absurd a
below_is_positive (inf false) a l = absurd l
below_is_positive (fin true m e) a l = absurd a
below_is_positive (fin false m e) a l = a

lt→cross : (x : Float) → T (positive x) → T (lt x (fin false 1 (pos 128))) → num x * 1 < 2 ^ 128 * den x
unfolding lt
lt→cross nan p l = absurd p
lt→cross (inf s) p l = absurd p
lt→cross (fin true m e) p l = absurd p
lt→cross (fin false m e) p l = ltb→lt _ _ l

positive_is_number : (x : Float) → T (positive x) → T (not (is_nan x))
unfolding is_nan
positive_is_number nan p = absurd p
positive_is_number (inf s) p = absurd p
positive_is_number (fin s m e) p = tt

positive_sign : (x : Float) (s : Bool) (a c : ℕ) → T (positive x) → HasValue x s a c → s ≡ false
positive_sign nan s a c p v = absurd p
positive_sign (inf t) s a c p v = absurd p
positive_sign (fin true m e) s a c p v = absurd p
positive_sign (fin false m e) s a c p v = sym v.0

-- ---- the exponent x of a significand m of 53 digits, by the bounds of m * 2 ^ x
exponent_ge : (m x : ℕ) → m < 2 ^ 53 → 2 ^ 948 ≤ m * 2 ^ x → 896 ≤ x
exponent_ge m x M h = lt_of_not-le (λ (l : x ≤ 895). not-le_of_lt (lt_of_lt_of_le (shl_lt 53 x M) (pow_mono (room x l))) h)
  where
    room : (x : ℕ) → x ≤ 895 → 53 + x ≤ 948
    room x l = omega arith

exponent_lt : (m x : ℕ) → 2 ^ 52 ≤ m → m * 2 ^ x < 2 ^ 1202 → x < 1150
exponent_lt m x M h = lt_of_not-le (λ (l : 1150 ≤ x). not-le_of_lt h (le_trans (pow_mono (room x l)) (le_trans (le_of_eq (pow-add 2 52 x)) (mul-le-mul_right (2 ^ x) M))))
  where
    room : (x : ℕ) → 1150 ≤ x → 1202 ≤ 52 + x
    room x l = omega arith

-- ---- the pattern of an x that the test lets through
module _ (x : Float) (F : T (fits binary64 x)) (t : narrows_to_normal x ≡ true) where
  abbrev n : ℕ
  n = to_bits binary64 x

  from_least : T (le (fin false 1 (negsuc 125)) x)
  unfolding narrows_to_normal
  from_least = and_l (le (fin false 1 (negsuc 125)) x) (lt x (fin false 1 (pos 128))) (subst T (sym t) tt)

  below_beyond : T (lt x (fin false 1 (pos 128)))
  unfolding narrows_to_normal
  below_beyond = and_r (le (fin false 1 (negsuc 125)) x) (lt x (fin false 1 (pos 128))) (subst T (sym t) tt)

  is_positive : T (positive x)
  is_positive = below_is_positive x (above_of_le (fin false 1 (negsuc 125)) x tt from_least) below_beyond

  pub normal_number : T (not (is_nan x))
  normal_number = positive_is_number x is_positive

  signed_value : HasValue x (leb (2 ^ 63) n) (units_of n) (2 ^ 1074)
  signed_value = finite_at_lem x F (λ e. subst (λ (v : Float). T (positive v)) (infinite_at x F normal_number e) is_positive)

  no_sign : leb (2 ^ 63) n ≡ false
  no_sign = positive_sign x (leb (2 ^ 63) n) (units_of n) (2 ^ 1074) is_positive signed_value

  has_value : HasValue x false (units_of n) (2 ^ 1074)
  has_value = subst (λ (s : Bool). HasValue x s (units_of n) (2 ^ 1074)) no_sign signed_value

  pub pattern_lt : n < 2 ^ 63
  pattern_lt = nleb→lt (2 ^ 63) n (subst (λ (b : Bool). T (not b)) (sym no_sign) tt)

  units_ge : 2 ^ 948 ≤ units_of n
  units_ge = le_of_mul-le-mul_right (values_of_le (fin false 1 (negsuc 125)) x 1 (2 ^ 126) (units_of n) (2 ^ 1074) tt is_positive (refl, refl) has_value from_least) (pow_pos 126)

  units_lt : units_of n < 2 ^ 1202
  units_lt = lt_of_not-le (λ (g : 2 ^ 1202 ≤ units_of n). not-le_of_lt (lt→cross x is_positive below_beyond)
      (transfer (2 ^ 128) (num x) 1 (den x) (2 ^ 1202) (units_of n) (2 ^ 1074) (2 ^ 1074) (pow_pos 1074) (pow_pos 1074) refl (value→cross x (units_of n) (2 ^ 1074) has_value) (mul-le-mul_right (2 ^ 1074) g)))

  pub field_ge : 897 ≤ exponent_field_of n
  unfolding exponent_of
  field_ge = go (exponent_field_of n) (exponent_ge (significand_of n) (exponent_of n) (significand_lt n) units_ge)
    where
      go : (y : ℕ) → 896 ≤ y - 1 → 897 ≤ y
      go y h = omega arith

  pub field_le : exponent_field_of n ≤ 1150
  unfolding exponent_of
  field_le = go (exponent_field_of n) (exponent_lt (significand_of n) (exponent_of n) (subst (λ (m : ℕ). 2 ^ 52 ≤ m) (significand_normal n (normal (exponent_field_of n) field_ge)) (le-add_right (2 ^ 52) (n % 2 ^ 52))) units_lt)
    where
      normal : (y : ℕ) → 897 ≤ y → y ≡ 0 → ⊥
      normal y h e = omega arith

      go : (y : ℕ) → y - 1 < 1150 → y ≤ 1150
      go y h = omega arith
