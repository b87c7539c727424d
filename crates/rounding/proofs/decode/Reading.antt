-- The value that an f64's pattern stands for, by its fields.
-- Assumes nothing.
use Rattle.std.proofs.Common.{◌≡◌, ℕ, zero, suc, ◌+◌, ◌-◌, ◌*◌, ◌/◌, ◌%◌, ◌^◌, ◌<◌, Bool, true, false, cond, not, T, eqb, leb, sym, refl, ap, ◌∙◌, subst, lt_irrefl, mod-lt, arith, lit<, eqb→eq, pow_pos}
use lib.Dec.{eqb-suc-zero, not_T}
use lib.Bits.{bit_and, bit_or, and_mask, or_shifted_r}
use lib.Pow.{field}
use lib.Ieee.{Float, nan, inf, binary64, odd, of_fields, of_bits, is_nan, nan_bits, to_bits, fits}
use lib.Ieee.Fits.{eq→eqb}
use lib.Ieee.Bits.{cond_no, nan_bits_is, of_bits-to_bits}
use lib.Ieee.Exact.{HasValue, odd_sign}
use Rattle.rounding.specs.Fields.{exponent_field_of, significand_of, exponent_of}

-- ---- the fields, as shifts and masks take them
pub field_is : (n : ℕ) → bit_and (n / 2 ^ 52) 2047 ≡ exponent_field_of n
unfolding exponent_field_of
field_is n = and_mask (n / 2 ^ 52) 11

pub significand_zero : (n : ℕ) → exponent_field_of n ≡ 0 → bit_and n (2 ^ 52 - 1) ≡ significand_of n
unfolding significand_of
significand_zero n e = and_mask n 52 ∙ sym (ap (λ (x : ℕ). cond (eqb x 0) (n % 2 ^ 52) (2 ^ 52 + n % 2 ^ 52)) e)

pub significand_normal : (n : ℕ) → (exponent_field_of n ≡ 0 → ⊥) → 2 ^ 52 + n % 2 ^ 52 ≡ significand_of n
unfolding significand_of
significand_normal n h = sym (cond_no (eqb (exponent_field_of n) 0) (n % 2 ^ 52) (2 ^ 52 + n % 2 ^ 52) (not_T (eqb (exponent_field_of n) 0) (λ t. h (eqb→eq (exponent_field_of n) 0 t))))

pub significand_more : (n : ℕ) → (exponent_field_of n ≡ 0 → ⊥) → bit_or (bit_and n (2 ^ 52 - 1)) (2 ^ 52) ≡ significand_of n
significand_more n h = ap (λ (x : ℕ). bit_or x (2 ^ 52)) (and_mask n 52) ∙ or_shifted_r 1 52 (n % 2 ^ 52) (mod-lt n (pow_pos 52)) ∙ significand_normal n h

pub significand_lt : (n : ℕ) → significand_of n < 2 ^ 53
unfolding significand_of
significand_lt n = go (eqb (exponent_field_of n) 0) (n % 2 ^ 52) (mod-lt n (pow_pos 52))
  where
    few : (t : ℕ) → t < 2 ^ 52 → t < 2 ^ 53
    few t h = omega arith

    more : (t : ℕ) → t < 2 ^ 52 → 2 ^ 52 + t < 2 ^ 53
    more t h = omega arith

    go : (b : Bool) (t : ℕ) → t < 2 ^ 52 → cond b t (2 ^ 52 + t) < 2 ^ 53
    go true t h = few t h
    go false t h = more t h

pub field_lt : (n : ℕ) → exponent_field_of n < 2 ^ 11
unfolding exponent_field_of
field_lt n = mod-lt (n / 2 ^ 52) (pow_pos 11)

pub exponent_lt : (n : ℕ) → exponent_of n < 2 ^ 11
unfolding exponent_of
exponent_lt n = go (exponent_field_of n) (field_lt n)
  where
    go : (x : ℕ) → x < 2 ^ 11 → x - 1 < 2 ^ 11
    go x h = omega arith

-- ---- what they are read as
-- the magnitude, in smallest values
abbrev pub units_of : ℕ → ℕ
units_of n = significand_of n * 2 ^ exponent_of n

abbrev sign_of : ℕ → Bool
sign_of n = leb (2 ^ 63) n

of_bits_is : (n : ℕ) → of_bits binary64 n ≡ of_fields binary64 (sign_of n) (exponent_field_of n) (n % 2 ^ 52)
unfolding of_bits exponent_field_of
of_bits_is n = ap (λ (x : ℕ). of_fields binary64 (sign_of n) x (n % 2 ^ 52)) (field n 11 52)

fields_value : (s : Bool) (x t : ℕ) → x < 2047 → HasValue (of_fields binary64 s x t) s (cond (eqb x 0) t (2 ^ 52 + t) * 2 ^ (x - 1)) (2 ^ 1074)
unfolding of_fields
fields_value s zero t h = odd_sign 53 s t 0 1074
fields_value s (suc j) t h =
    let v = odd 53 s (2 ^ 52 + t) j 1074 in
    subst (λ (y : Float). HasValue y s (cond (eqb (suc j) 0) t (2 ^ 52 + t) * 2 ^ (suc j - 1)) (2 ^ 1074))
    (sym (cond_no (eqb (suc j) 2047) (cond (eqb t 0) (inf s) nan) v (not_T (eqb (suc j) 2047) (λ y. lt_irrefl 2047 (subst (λ (z : ℕ). z < 2047) (eqb→eq (suc j) 2047 y) h)))))
    (subst (λ (b : Bool). HasValue v s (cond b t (2 ^ 52 + t) * 2 ^ (suc j - 1)) (2 ^ 1074)) (sym (eqb-suc-zero j))
    (subst (λ (k : ℕ). HasValue v s ((2 ^ 52 + t) * 2 ^ k) (2 ^ 1074)) (sym (less j)) (odd_sign 53 s (2 ^ 52 + t) j 1074)))
  where
    less : (j : ℕ) → suc j - 1 ≡ j
    less j = omega arith

below : (n : ℕ) → (exponent_field_of n ≡ 2047 → ⊥) → exponent_field_of n < 2047
below n h = go (exponent_field_of n) (field_lt n) h
  where
    go : (x : ℕ) → x < 2 ^ 11 → (x ≡ 2047 → ⊥) → x < 2047
    go x a b = omega arith

pub value : (n : ℕ) → (exponent_field_of n ≡ 2047 → ⊥) → HasValue (of_bits binary64 n) (sign_of n) (units_of n) (2 ^ 1074)
unfolding significand_of exponent_of
value n h = subst (λ (v : Float). HasValue v (sign_of n) (units_of n) (2 ^ 1074)) (sym (of_bits_is n)) (fields_value (sign_of n) (exponent_field_of n) (n % 2 ^ 52) (below n h))

-- the highest field, at a pattern that is no NaN's
infinity_at : (s : Bool) (x t : ℕ) → x ≡ 2047 → T (not (is_nan (of_fields binary64 s x t))) → of_fields binary64 s x t ≡ inf s
unfolding of_fields is_nan
infinity_at s zero t e k = absurd (lt_irrefl 0 (subst (λ (y : ℕ). 0 < y) (sym e) (lit< tt)))
infinity_at s (suc j) t e k = go (eqb (suc j) 2047) (eqb t 0) (eq→eqb e) k
  where
    go : (a b : Bool) → T a → T (not (is_nan (cond a (cond b (inf s) nan) (odd 53 s (2 ^ 52 + t) j 1074)))) → cond a (cond b (inf s) nan) (odd 53 s (2 ^ 52 + t) j 1074) ≡ inf s
    go true true p q = refl
    go true false p q = absurd q
    go false b p q = absurd p

pub infinity : (n : ℕ) → exponent_field_of n ≡ 2047 → T (not (nan_bits binary64 n)) → of_bits binary64 n ≡ inf (sign_of n)
infinity n e k =
    of_bits_is n
    ∙ infinity_at (sign_of n) (exponent_field_of n) (n % 2 ^ 52) e (subst (λ (v : Float). T (not (is_nan v))) (of_bits_is n) (subst (λ (b : Bool). T (not b)) (nan_bits_is binary64 n) k))

-- ---- an operand by its own pattern
pub number_bits : (x : Float) → T (fits binary64 x) → T (not (is_nan x)) → T (not (nan_bits binary64 (to_bits binary64 x)))
number_bits x F N = subst (λ (b : Bool). T (not b)) (sym (nan_bits_is binary64 (to_bits binary64 x) ∙ ap is_nan (of_bits-to_bits binary64 x F))) N

pub infinite_at : (x : Float) → T (fits binary64 x) → T (not (is_nan x)) → exponent_field_of (to_bits binary64 x) ≡ 2047 → x ≡ inf (leb (2 ^ 63) (to_bits binary64 x))
infinite_at x F N e = sym (of_bits-to_bits binary64 x F) ∙ infinity (to_bits binary64 x) e (number_bits x F N)

pub finite_at_lem : (x : Float) → T (fits binary64 x) → (exponent_field_of (to_bits binary64 x) ≡ 2047 → ⊥) → HasValue x (leb (2 ^ 63) (to_bits binary64 x)) (units_of (to_bits binary64 x)) (2 ^ 1074)
finite_at_lem x F f = subst (λ (v : Float). HasValue v (leb (2 ^ 63) (to_bits binary64 x)) (units_of (to_bits binary64 x)) (2 ^ 1074)) (of_bits-to_bits binary64 x F) (value (to_bits binary64 x) f)
