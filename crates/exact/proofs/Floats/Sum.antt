-- Sum, negation and difference of floats that are integers. Assumes nothing.
use mathlib.Core.Path.{◌≡◌, refl, sym, subst}
use mathlib.Core.Bool.{Bool, true, false, not, cond}
use Prim.Native.Nat.{ℕ, ◌+◌, ◌-◌, ◌*◌, ◌^◌, ◌≤◌, ◌<◌}
use native.Mathlib.Nat.{mul-pos}
use native.Mathlib.Omega.{arith}
use lib.Dec.{T, ltb, ltb→lt, nltb→le}
use lib.IntN.{ℤ}
use lib.Ieee.{Float, nan, inf, fin, Format, prec, up, down, round, sum, add, sub, neg}
use lib.Ieee.Fits.{down_pos}
use Rattle.exact.specs.Integer.{Integer, integer, ◌⊕◌, ◌⊗◌, negate, negate_if, ◌≐◌, Within}
use Rattle.exact.specs.IsInteger.{IsQuotient, IsInteger}
use Rattle.exact.proofs.Integers.Bounds.{within_same}
use Rattle.exact.proofs.Floats.Rounding.{quotient_widen_right, quotient_widen_left, integer_same, round_integer}

pub downs_pos : (e d : ℤ) → 0 < down e * down d
downs_pos e d = mul-pos (down_pos e) (down_pos d)

-- ---- two fractions of one denominator

-- the sum of two signed fractions is one rounding of their exact sum, of sign z and magnitude d
pub sum_is_round : (f : Format) (s : Bool) (a : ℕ) (t : Bool) (b c : ℕ)
    → (z : Bool) × (d : ℕ) × (sum f s a t b c ≡ round f z d c) × (negate_if s (integer a) ⊕ negate_if t (integer b) ≐ negate_if z (integer d))
unfolding sum
sum_is_round f false a false b c = (false, a + b, refl, omega arith)
sum_is_round f true a true b c = (true, a + b, refl, omega arith)
sum_is_round f false a true b c = by (ltb a b) (ltb→lt a b) (nltb→le a b)
  where
    by : (l : Bool) → (T l → a < b) → (T (not l) → b ≤ a)
        → (z : Bool) × (d : ℕ) × (cond l (round f true (b - a) c) (round f false (a - b) c) ≡ round f z d c) × (integer a ⊕ negate (integer b) ≐ negate_if z (integer d))
    by true g h = let k = g tt in (true, b - a, refl, omega arith)
    by false g h = let k = h tt in (false, a - b, refl, omega arith)
sum_is_round f true a false b c = by (ltb a b) (ltb→lt a b) (nltb→le a b)
  where
    zero_or_less : (z : Bool) → (T (not z) → a ≤ b) → b ≤ a → negate (integer a) ⊕ integer b ≐ negate_if z (integer (a - b))
    zero_or_less true g l = omega arith
    zero_or_less false g l = let k = g tt in omega arith

    by : (l : Bool) → (T l → a < b) → (T (not l) → b ≤ a)
        → (z : Bool) × (d : ℕ) × (cond l (round f false (b - a) c) (round f (ltb b a) (a - b) c) ≡ round f z d c) × (negate (integer a) ⊕ integer b ≐ negate_if z (integer d))
    by true g h = let k = g tt in (false, b - a, refl, omega arith)
    by false g h = (ltb b a, a - b, refl, zero_or_less (ltb b a) (nltb→le b a) (h tt))

-- a quotient as an equation of integers
pub quotient_value : (s : Bool) (a c : ℕ) (i : Integer) → IsQuotient s a c i → negate_if s (integer a) ≐ i ⊗ integer c
quotient_value false a c i h = omega arith
quotient_value true a c i h = omega arith

value_quotient : (s : Bool) (a c : ℕ) (i : Integer) → negate_if s (integer a) ≐ i ⊗ integer c → IsQuotient s a c i
value_quotient false a c i h = omega arith
value_quotient true a c i h = omega arith

sum_value : (x y z i j : Integer) (c : ℕ) → x ⊕ y ≐ z → x ≐ i ⊗ integer c → y ≐ j ⊗ integer c → z ≐ (i ⊕ j) ⊗ integer c
sum_value x y z i j c e p q = omega arith

pub quotient_sum : (f : Format) (s : Bool) (a : ℕ) (t : Bool) (b c : ℕ) (i j : Integer) → 0 < c → IsQuotient s a c i → IsQuotient t b c j
    → Within (2 ^ prec f) (i ⊕ j) → IsInteger (sum f s a t b c) (i ⊕ j)
quotient_sum f s a t b c i j c> p q h =
    let r = sum_is_round f s a t b c in
    subst (λ (x : Float). IsInteger x (i ⊕ j)) (sym r.2)
    (round_integer f r.0 r.1 c (i ⊕ j) c>
    (value_quotient r.0 r.1 c (i ⊕ j)
    (sum_value (negate_if s (integer a)) (negate_if t (integer b)) (negate_if r.0 (integer r.1)) i j c r.3 (quotient_value s a c i p) (quotient_value t b c j q))) h)

-- ---- the operations, with the result k as it is to be written
pub add_integer : (f : Format) (x y : Float) (i j k : Integer) → IsInteger x i → IsInteger y j → i ⊕ j ≐ k → Within (2 ^ prec f) k
    → IsInteger (add f x y) k
unfolding add
add_integer f nan y i j k p q e h = absurd p
add_integer f (inf s) y i j k p q e h = absurd p
add_integer f (fin s m d) nan i j k p q e h = absurd q
add_integer f (fin s m d) (inf t) i j k p q e h = absurd q
add_integer f (fin s m d) (fin t n g) i j k p q e h =
    integer_same (sum f s (m * up d * down g) t (n * up g * down d) (down d * down g)) (i ⊕ j) k e
    (quotient_sum f s (m * up d * down g) t (n * up g * down d) (down d * down g) i j (downs_pos d g)
    (quotient_widen_right s (m * up d) (down d) (down g) i p) (quotient_widen_left t (n * up g) (down g) (down d) j q)
    (within_same (2 ^ prec f) k (i ⊕ j) (omega arith) h))

pub neg_integer : (x : Float) (i : Integer) → IsInteger x i → IsInteger (neg x) (negate i)
unfolding neg
neg_integer nan i p = p
neg_integer (inf s) i p = p
neg_integer (fin false m e) i p = p
neg_integer (fin true m e) i p = p

pub sub_integer : (f : Format) (x y : Float) (i j k : Integer) → IsInteger x i → IsInteger y j → i ⊕ negate j ≐ k → Within (2 ^ prec f) k
    → IsInteger (sub f x y) k
unfolding sub
sub_integer f x y i j k p q e h = add_integer f x (neg y) i (negate j) k p (neg_integer y j q) e h
