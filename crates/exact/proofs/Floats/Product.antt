-- Product and fused operation of floats that are integers. Assumes nothing.
use mathlib.Core.Path.{◌≡◌, sym, ap, ◌∙◌}
use mathlib.Core.Bool.{Bool, true, false}
use Prim.Native.Nat.{ℕ, ◌+◌, ◌*◌, ◌^◌}
use native.Mathlib.Nat.{mul-add, mul-pos}
use native.Mathlib.Omega.{arith}
use lib.Ieee.{Float, nan, inf, fin, Format, prec, up, down, round, sum, mul, unlike}
use lib.Ieee.Fits.{down_pos}
use Rattle.fused.specs.Fma.{fma}
use Rattle.exact.specs.Integer.{Integer, ◌⊕◌, ◌⊗◌, negate_if, ◌≐◌, Within}
use Rattle.exact.specs.IsInteger.{IsQuotient, IsInteger}
use Rattle.exact.proofs.Integers.Bounds.{within_same}
use Rattle.exact.proofs.Floats.Rounding.{quotient_widen_right, quotient_widen_left, integer_same, round_integer}
use Rattle.exact.proofs.Floats.Sum.{downs_pos, quotient_sum}

-- a / c is u − v and b / d is w − z: a b / (c d) is their product
cross_product : (a b c d u v w z : ℕ) → a + v * c ≡ u * c → b + z * d ≡ w * d → a * b + (u * z + v * w) * (c * d) ≡ (u * w + v * z) * (c * d)
cross_product a b c d u v w z p q =
    let r : a * b + a * (z * d) ≡ a * (w * d) = sym (mul-add a b (z * d)) ∙ ap (λ (x : ℕ). a * x) q in
    let s : (a + v * c) * (z * d) ≡ u * c * (z * d) = ap (λ (x : ℕ). x * (z * d)) p in
    let t : (a + v * c) * (w * d) ≡ u * c * (w * d) = ap (λ (x : ℕ). x * (w * d)) p in
    omega arith

quotient_product : (s t : Bool) (a b c d : ℕ) (i j : Integer) → IsQuotient s a c i → IsQuotient t b d j
    → IsQuotient (unlike s t) (a * b) (c * d) (i ⊗ j)
quotient_product s t a b c d i j p q =
    let k = negate_if s i in
    let l = negate_if t j in
    signs s t (cross_product a b c d k.pos k.neg l.pos l.neg p q)
  where
    signs : (s t : Bool) → IsQuotient false (a * b) (c * d) (negate_if s i ⊗ negate_if t j) → IsQuotient (unlike s t) (a * b) (c * d) (i ⊗ j)
    signs false false h = h
    signs false true h = omega arith
    signs true false h = omega arith
    signs true true h = omega arith

-- ---- the operations, with the result k as it is to be written
pub mul_integer : (f : Format) (x y : Float) (i j k : Integer) → IsInteger x i → IsInteger y j → i ⊗ j ≐ k → Within (2 ^ prec f) k
    → IsInteger (mul f x y) k
unfolding mul
mul_integer f nan y i j k p q e h = absurd p
mul_integer f (inf s) y i j k p q e h = absurd p
mul_integer f (fin s m d) nan i j k p q e h = absurd q
mul_integer f (fin s m d) (inf t) i j k p q e h = absurd q
mul_integer f (fin s m d) (fin t n g) i j k p q e h =
    integer_same (round f (unlike s t) (m * up d * (n * up g)) (down d * down g)) (i ⊗ j) k e
    (round_integer f (unlike s t) (m * up d * (n * up g)) (down d * down g) (i ⊗ j) (downs_pos d g)
    (quotient_product s t (m * up d) (n * up g) (down d) (down g) i j p q) (within_same (2 ^ prec f) k (i ⊗ j) (omega arith) h))

-- x · y + z, rounded once
pub fma_integer : (f : Format) (x y z : Float) (i j l k : Integer) → IsInteger x i → IsInteger y j → IsInteger z l → i ⊗ j ⊕ l ≐ k
    → Within (2 ^ prec f) k → IsInteger (fma f x y z) k
unfolding fma
fma_integer f nan y z i j l k p q r e h = absurd p
fma_integer f (inf s) y z i j l k p q r e h = absurd p
fma_integer f (fin s m d) nan z i j l k p q r e h = absurd q
fma_integer f (fin s m d) (inf t) z i j l k p q r e h = absurd q
fma_integer f (fin s m d) (fin t n g) nan i j l k p q r e h = absurd r
fma_integer f (fin s m d) (fin t n g) (inf u) i j l k p q r e h = absurd r
fma_integer f (fin s m d) (fin t n g) (fin u o b) i j l k p q r e h =
    let a = m * up d * (n * up g) in
    let c = down d * down g in
    integer_same (sum f (unlike s t) (a * down b) u (o * up b * c) (c * down b)) (i ⊗ j ⊕ l) k e
    (quotient_sum f (unlike s t) (a * down b) u (o * up b * c) (c * down b) (i ⊗ j) l
    (mul-pos (downs_pos d g) (down_pos b))
    (quotient_widen_right (unlike s t) a c (down b) (i ⊗ j) (quotient_product s t (m * up d) (n * up g) (down d) (down g) i j p q))
    (quotient_widen_left u (o * up b) (down b) c l r)
    (within_same (2 ^ prec f) k (i ⊗ j ⊕ l) (omega arith) h))
