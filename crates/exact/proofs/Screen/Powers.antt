-- A fraction that is at most a power of two is rounded to no more than that power. Assumes nothing.
use mathlib.Core.Path.{◌≡◌, sym, ap, ◌∙◌, subst}
use mathlib.Core.Bool.{Bool, true, false, ◌&&◌, ◌||◌, cond, true≢false}
use Prim.Native.Nat.{ℕ, suc, ◌+◌, ◌*◌, ◌^◌, ◌≤◌, ◌<◌}
use native.Mathlib.Nat.{mul-one, one-mul, zero-lt-suc, le_of_eq, le_trans, mul_right_comm, le_of_mul-le-mul_right}
use native.Mathlib.Omega.{arith}
use lib.Dec.{T, lit<, ltb, eqb, ltb→lt, eqb→eq}
use lib.Pow.{pow-add, pow-lt}
use lib.Ieee.{Float, nan, inf, fin, Format, binary32, binary64, prec, emax, low, up, down, odd, units, round, le}
use lib.Ieee.Exact.{HasValue, round_exact, odd_sign}
use lib.Ieee.Order.{round_mono}
use lib.Ieee.Fits.{down_pos, round_is}

-- finite, not negative, and at most 2 ^ k
abbrev pub AtMostPower : ℕ → Float → Type 0
AtMostPower k nan = ⊥
AtMostPower k (inf s) = ⊥
AtMostPower k (fin true m e) = ⊥
AtMostPower k (fin false m e) = m * up e ≤ 2 ^ k * down e

-- the formats hold the powers of two
power_value : (f : Format) (k : ℕ) → k ≤ emax f → HasValue (round f false (2 ^ k) 1) false (2 ^ k) 1
power_value f k h =
    round_exact f false (2 ^ k) 1 1 (k + low f) (zero-lt-suc 0) (one_lt f)
    (subst (λ (x : ℕ). x < 2 ^ (low f + suc (emax f))) (sym (one-mul (2 ^ (k + low f)))) (pow-lt (omega arith)))
    (sym (pow-add 2 k (low f)) ∙ sym (one-mul (2 ^ (k + low f))) ∙ sym (mul-one (1 * 2 ^ (k + low f))))
  where
    one_lt : (f : Format) → 1 < 2 ^ prec f
    one_lt binary32 = lit< tt
    one_lt binary64 = lit< tt

-- what `le` tests of two positive fractions
pub le_of_tests : (a b : ℕ) → T (ltb a b || (eqb a b && true)) → a ≤ b
le_of_tests a b t = by_case (ltb a b) (eqb a b) (ltb→lt a b) (eqb→eq a b) t
  where
    by_case : (x y : Bool) → (T x → a < b) → (T y → a ≡ b) → T (x || (y && true)) → a ≤ b
    by_case true y f g t = let h = f tt in omega arith
    by_case false true f g t = let h = g tt in omega arith
    by_case false false f g t = absurd t

-- x is at most y, which is 2 ^ k
at_most_value : (k : ℕ) (x y : Float) (a c : ℕ) → HasValue x false a c → HasValue y false (2 ^ k) 1 → T (le x y) → AtMostPower k x
unfolding le
at_most_value k nan y a c p q h = p
at_most_value k (inf s) y a c p q h = p
at_most_value k (fin true m e) y a c p q h = true≢false p.0
at_most_value k (fin false m e) nan a c p q h = absurd q
at_most_value k (fin false m e) (inf t) a c p q h = absurd q
at_most_value k (fin false m e) (fin true n d) a c p q h = absurd (true≢false q.0)
at_most_value k (fin false m e) (fin false n d) a c p q h =
    let l : m * up e * down d ≤ n * up d * down e = le_of_tests (m * up e * down d) (n * up d * down e) h in
    let v : n * up d * 1 ≡ 2 ^ k * down d = q.1 in
    let u : n * up d * down e ≡ 2 ^ k * down e * down d = ap (λ (z : ℕ). z * down e) (sym (mul-one (n * up d)) ∙ v) ∙ mul_right_comm (2 ^ k)
    (down d) (down e) in
    le_of_mul-le-mul_right (le_trans l (le_of_eq u)) (down_pos d)

units_at_most : (f : Format) (q j k : ℕ) (y : Float) → HasValue y false (2 ^ k) 1 → T (le (units f false q j) y)
    → AtMostPower k (units f false q j)
unfolding units
units_at_most f q j k y v = by_case (ltb (q * 2 ^ j) (2 ^ (low f + suc (emax f))))
  where
    no_infinity : (y : Float) → HasValue y false (2 ^ k) 1 → T (le (inf false) y) → ⊥
    no_infinity nan v t = v
    no_infinity (inf s) v t = v
    no_infinity (fin s m e) v t = unfold le in t

    by_case : (b : Bool) → T (le (cond b (odd (suc (prec f)) false q j (low f)) (inf false)) y)
        → AtMostPower k (cond b (odd (suc (prec f)) false q j (low f)) (inf false))
    by_case true t =
        at_most_value k (odd (suc (prec f)) false q j (low f)) y (q * 2 ^ j) (2 ^ low f) (odd_sign (suc (prec f)) false q j (low f)) v t
    by_case false t = absurd (no_infinity y v t)

pub round_at_most : (f : Format) (k a c : ℕ) → k ≤ emax f → 0 < c → a ≤ 2 ^ k * c → AtMostPower k (round f false a c)
round_at_most f k a c h c> l =
    let i = round_is f false a c in
    let t : T (le (round f false a c) (round f false (2 ^ k) 1)) = round_mono f a c (2 ^ k) 1 c> (zero-lt-suc 0)
    (le_trans (le_of_eq (mul-one a)) l) in
    subst (AtMostPower k) (sym i) (units_at_most f _ _ k (round f false (2 ^ k) 1) (power_value f k h)
    (subst (λ (z : Float). T (le z (round f false (2 ^ k) 1))) i t))
