-- A fraction that is an integer of at most `prec` digits is rounded to that integer. All else in this folder goes through `round_integer`.
-- Assumes nothing.
use mathlib.Core.Path.{◌≡◌, sym, ap, ◌∙◌, subst}
use mathlib.Core.Bool.{Bool, true, false}
use Prim.Native.Nat.{ℕ, ◌+◌, ◌-◌, ◌*◌, ◌^◌, ◌≤◌, ◌<◌}
use native.Mathlib.Nat.{le_of_mul-le-mul_right, eq_of_mul-eq-mul_right, add-mul, mul_comm, zero-lt-suc}
use native.Mathlib.Omega.{arith}
use lib.Ieee.{Float, nan, inf, fin, Format, prec, up, down, round}
use lib.Ieee.Fits.{down_pos}
use lib.Ieee.Exact.{HasValue}
use lib.Ieee.Back.{round_whole}
use lib.Ieee.Scale.{round_same}
use Rattle.exact.specs.Integer.{Integer, negate_if, ◌≐◌, Within}
use Rattle.exact.specs.IsInteger.{IsQuotient, IsInteger}
use Rattle.exact.proofs.Integers.Bounds.{within_negate_if}

-- ---- quotients
pub quotient_positive : (a c u v : ℕ) → 0 < c → a + v * c ≡ u * c → v ≤ u
quotient_positive a c u v c> h = le_of_mul-le-mul_right (let k : v * c ≤ u * c = omega arith in k) c>

-- the same quotient over a larger denominator
pub quotient_widen_right : (s : Bool) (a c d : ℕ) (i : Integer) → IsQuotient s a c i → IsQuotient s (a * d) (c * d) i
quotient_widen_right s a c d i h = let k = ap (λ (x : ℕ). x * d) h in omega arith

pub quotient_widen_left : (s : Bool) (a c d : ℕ) (i : Integer) → IsQuotient s a c i → IsQuotient s (a * d) (d * c) i
quotient_widen_left s a c d i h = subst (λ (x : ℕ). IsQuotient s (a * d) x i) (mul_comm c d) (quotient_widen_right s a c d i h)

-- ---- the same integer, written otherwise
quotient_same : (s : Bool) (a c : ℕ) (i j : Integer) → i ≐ j → IsQuotient s a c i → IsQuotient s a c j
quotient_same false a c i j e h = let k : (i.pos + j.neg) * c ≡ (j.pos + i.neg) * c = ap (λ (x : ℕ). x * c) e in omega arith
quotient_same true a c i j e h = let k : (i.pos + j.neg) * c ≡ (j.pos + i.neg) * c = ap (λ (x : ℕ). x * c) e in omega arith

pub integer_same : (x : Float) (i j : Integer) → i ≐ j → IsInteger x i → IsInteger x j
integer_same nan i j e h = h
integer_same (inf s) i j e h = h
integer_same (fin s m d) i j e h = quotient_same s (m * up d) (down d) i j e h

-- a float is one integer
quotient_unique : (s : Bool) (a c : ℕ) (i j : Integer) → 0 < c → IsQuotient s a c i → IsQuotient s a c j → i ≐ j
quotient_unique false a c i j c> p q = eq_of_mul-eq-mul_right c c> (i.pos + j.neg) (j.pos + i.neg) (omega arith)
quotient_unique true a c i j c> p q = eq_of_mul-eq-mul_right c c> (i.pos + j.neg) (j.pos + i.neg) (omega arith)

pub integer_unique : (x : Float) (i j : Integer) → IsInteger x i → IsInteger x j → i ≐ j
integer_unique nan i j p q = absurd p
integer_unique (inf s) i j p q = absurd p
integer_unique (fin s m e) i j p q = quotient_unique s (m * up e) (down e) i j (down_pos e) p q

-- ---- rounding
pub value_integer : (x : Float) (s : Bool) (k : ℕ) (i : Integer) → (negate_if s i).pos ≡ k + (negate_if s i).neg → HasValue x s k 1
    → IsInteger x i
value_integer nan s k i p h = h
value_integer (inf t) s k i p h = h
value_integer (fin t m e) s k i p h =
    let j = negate_if s i in
    let q : j.pos * down e ≡ k * down e + j.neg * down e = ap (λ (x : ℕ). x * down e) p ∙ add-mul k j.neg (down e) in
    let r : m * up e * 1 ≡ k * down e = h.1 in
    subst (λ (t : Bool). IsQuotient t (m * up e) (down e) i) (sym h.0) (omega arith)

pub round_integer : (f : Format) (s : Bool) (a c : ℕ) (i : Integer) → 0 < c → IsQuotient s a c i → Within (2 ^ prec f) i
    → IsInteger (round f s a c) i
round_integer f s a c i c> h w =
    let j = negate_if s i in
    let least : j.neg ≤ j.pos = quotient_positive a c j.pos j.neg c> h in
    let most = (within_negate_if (2 ^ prec f) s i w).below in
    let k = j.pos - j.neg in
    let e : j.pos ≡ k + j.neg = omega arith in
    let small : k ≤ 2 ^ prec f = omega arith in
    let q : j.pos * c ≡ k * c + j.neg * c = ap (λ (x : ℕ). x * c) e ∙ add-mul k j.neg c in
    let cross : a * 1 ≡ k * c = omega arith in
    value_integer (round f s a c) s k i e
    (subst (λ (x : Float). HasValue x s k 1) (sym (round_same f s a c k 1 c> (zero-lt-suc 0) cross)) (round_whole f s k small))
