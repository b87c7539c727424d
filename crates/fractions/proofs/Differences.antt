-- DIFFERENCES FROM EXACT OPERANDS: v and w are exact fractions, x and y lie near them; how far the results of an operation lie apart. Assumes nothing.
use mathlib.Core.Path.{◌≡◌, sym, ap, subst}
use Prim.Native.Nat.{ℕ, ◌+◌, ◌*◌, ◌^◌, ◌≤◌}
use native.Mathlib.Nat.{zero-add}
use native.Mathlib.Omega.{arith}
use lib.Pow.{pow-add}
use Rattle.exact.specs.Integer.{Integer, ◌≐◌}
use Rattle.fractions.specs.Fraction.{Fraction, ◌⊙◌, ◌⊞◌, opposite, ◌⊟◌, ◌⊠◌, AtMost}
use Rattle.fractions.proofs.Magnitudes.{◌≈◌, most_same, most_fine, most_coarse, most_sum, most_opposite, most_product}

-- ---- identities of at most three fractions: omega multiplies products out only so far
by_way_of : (x y z : Fraction) → (x ⊟ y) ⊞ (y ⊟ z) ≈ x ⊟ z
by_way_of x y z = simp pow-add (omega arith)

and_rest : (x v : Fraction) → v ⊞ (x ⊟ v) ≈ x
and_rest x v = simp pow-add (omega arith)

opposite_difference : (x v : Fraction) → opposite (x ⊟ v) ≈ opposite x ⊟ opposite v
opposite_difference x v = omega arith

sum_left : (x v y : Fraction) → x ⊟ v ≈ (x ⊞ y) ⊟ (v ⊞ y)
sum_left x v y = simp pow-add (omega arith)

sum_right : (v y w : Fraction) → y ⊟ w ≈ (v ⊞ y) ⊟ (v ⊞ w)
sum_right v y w = simp pow-add (omega arith)

-- numerator and power below times one number
over_same : (i j : Integer) (n D : ℕ) → j.pos ≡ i.pos * n → j.neg ≡ i.neg * n → i ⊙ (D * n) ≐ j ⊙ D
over_same i j n D e f =
    let x : j.pos * D ≡ i.pos * n * D = ap (λ (z : ℕ). z * D) e in
    let y : j.neg * D ≡ i.neg * n * D = ap (λ (z : ℕ). z * D) f in
    omega arith

product_left : (x v y : Fraction) → (x ⊟ v) ⊠ y ≈ (x ⊠ y) ⊟ (v ⊠ y)
product_left x v y =
    let Q = 2 ^ y.places in
    let D = 2 ^ (x.places + v.places + y.places) in
    let e : 2 ^ (x.places + y.places + (v.places + y.places)) ≡ D * Q = simp pow-add (omega arith) in
    subst (λ (z : ℕ). ((x ⊟ v) ⊠ y).num ⊙ z ≐ ((x ⊠ y) ⊟ (v ⊠ y)).num ⊙ D) (sym e)
    (over_same ((x ⊟ v) ⊠ y).num ((x ⊠ y) ⊟ (v ⊠ y)).num Q D (simp pow-add (omega arith)) (simp pow-add (omega arith)))

product_right : (v y w : Fraction) → v ⊠ (y ⊟ w) ≈ (v ⊠ y) ⊟ (v ⊠ w)
product_right v y w =
    let R = 2 ^ v.places in
    let D = 2 ^ (v.places + (y.places + w.places)) in
    let e : 2 ^ (v.places + y.places + (v.places + w.places)) ≡ D * R = simp pow-add (omega arith) in
    subst (λ (z : ℕ). (v ⊠ (y ⊟ w)).num ⊙ z ≐ ((v ⊠ y) ⊟ (v ⊠ w)).num ⊙ D) (sym e)
    (over_same (v ⊠ (y ⊟ w)).num ((v ⊠ y) ⊟ (v ⊠ w)).num R D (simp pow-add (omega arith)) (simp pow-add (omega arith)))

-- ---- the differences
pub near_opposite : (E k : ℕ) (x v : Fraction) → AtMost E k (x ⊟ v) → AtMost E k (opposite x ⊟ opposite v)
near_opposite E k x v h = most_same E k (opposite (x ⊟ v)) (opposite x ⊟ opposite v) (opposite_difference x v) (most_opposite E k (x ⊟ v) h)

pub near_way : (E F k : ℕ) (x y z : Fraction) → AtMost E k (x ⊟ y) → AtMost F k (y ⊟ z) → AtMost (E + F) k (x ⊟ z)
near_way E F k x y z h g = most_same (E + F) k ((x ⊟ y) ⊞ (y ⊟ z)) (x ⊟ z) (by_way_of x y z) (most_sum E F k (x ⊟ y) (y ⊟ z) h g)

pub near_sum : (E F k : ℕ) (x y v w : Fraction) → AtMost E k (x ⊟ v) → AtMost F k (y ⊟ w) → AtMost (E + F) k ((x ⊞ y) ⊟ (v ⊞ w))
near_sum E F k x y v w h g =
    near_way E F k (x ⊞ y) (v ⊞ y) (v ⊞ w)
    (most_same E k (x ⊟ v) ((x ⊞ y) ⊟ (v ⊞ y)) (sum_left x v y) h)
    (most_same F k (y ⊟ w) ((v ⊞ y) ⊟ (v ⊞ w)) (sum_right v y w) g)

-- a fraction lies as far out as what it is near to, and as far as it is off
pub most_near : (B E k : ℕ) (x v : Fraction) → AtMost B 0 v → AtMost E k (x ⊟ v) → AtMost (B * 2 ^ k + E) k x
most_near B E k x v h g = most_same (B * 2 ^ k + E) k (v ⊞ (x ⊟ v)) x (and_rest x v) (most_sum (B * 2 ^ k) E k v (x ⊟ v) (most_fine B k v h) g)

-- |x y − v w| is at most |x − v| |y| + |v| |y − w|
pub near_product : (E B F C k : ℕ) (x y v w : Fraction) → AtMost E k (x ⊟ v) → AtMost B 0 v → AtMost F k (y ⊟ w) → AtMost C 0 w → E * F ≤ 2 ^ k
    → AtMost (E * C + 1 + B * F) k ((x ⊠ y) ⊟ (v ⊠ w))
near_product E B F C k x y v w hx hv hy hw small =
    near_way (E * C + 1) (B * F) k (x ⊠ y) (v ⊠ y) (v ⊠ w)
    (most_same (E * C + 1) k ((x ⊟ v) ⊠ y) ((x ⊠ y) ⊟ (v ⊠ y)) (product_left x v y)
    (most_coarse (E * (C * 2 ^ k + F)) (E * C + 1) k k ((x ⊟ v) ⊠ y) (omega arith) (most_product E (C * 2 ^ k + F) k k (x ⊟ v) y hx (most_near C F k y w hw hy))))
    (most_same (B * F) k (v ⊠ (y ⊟ w)) ((v ⊠ y) ⊟ (v ⊠ w)) (product_right v y w)
    (subst (λ (z : ℕ). AtMost (B * F) z (v ⊠ (y ⊟ w))) (zero-add k) (most_product B F 0 k v (y ⊟ w) hv hy)))
