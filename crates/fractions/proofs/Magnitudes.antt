-- MAGNITUDES OF FRACTIONS: how they go with sums, opposites, products, and a change of writing. Assumes nothing.
use mathlib.Core.Path.{◌≡◌, ap}
use Prim.Native.Nat.{ℕ, ◌+◌, ◌*◌, ◌^◌, ◌≤◌}
use native.Mathlib.Nat.{mul-le-mul_right, le_of_mul-le-mul_right}
use native.Mathlib.Omega.{arith}
use lib.Pow.{pow-add, pow_pos}
use Rattle.exact.specs.Integer.{Integer, ◌≐◌, Within}
use Rattle.exact.proofs.Integers.Products.{within_product}
use Rattle.fractions.specs.Fraction.{Fraction, ◌⊙◌, ◌⊞◌, opposite, ◌⊠◌, AtMost}

within_scale : (B n : ℕ) (a : Integer) → Within B a → Within (B * n) (a ⊙ n)
within_scale B n a h =
    let above : a.neg * n ≤ (a.pos + B) * n = mul-le-mul_right n h.above in
    let below : a.pos * n ≤ (a.neg + B) * n = mul-le-mul_right n h.below in
    record { above = omega arith; below = omega arith }

-- ---- the same fraction, written otherwise
infix 50 ◌≈◌
abbrev pub ◌≈◌ : Fraction → Fraction → Type 0
a ≈ b = a.num ⊙ 2 ^ b.places ≐ b.num ⊙ 2 ^ a.places

pub most_same : (E k : ℕ) (a b : Fraction) → a ≈ b → AtMost E k a → AtMost E k b
most_same E k a b e h =
    let P = 2 ^ a.places in
    let Q = 2 ^ b.places in
    let u = 2 ^ k in
    let s = within_scale (E * P) Q (a.num ⊙ u) h in
    let t : (a.num.pos * Q + b.num.neg * P) * u ≡ (b.num.pos * P + a.num.neg * Q) * u = ap (λ (z : ℕ). z * u) e in
    let above : b.num.neg * u * P ≤ (b.num.pos * u + E * Q) * P = omega (arith, s.above) in
    let below : b.num.pos * u * P ≤ (b.num.neg * u + E * Q) * P = omega (arith, s.below) in
    record { above = le_of_mul-le-mul_right above (pow_pos a.places); below = le_of_mul-le-mul_right below (pow_pos a.places) }

-- ---- a finer unit, a coarser unit
pub most_fine : (B k : ℕ) (v : Fraction) → AtMost B 0 v → AtMost (B * 2 ^ k) k v
most_fine B k v h =
    let s = within_scale (B * 2 ^ v.places) (2 ^ k) (v.num ⊙ 2 ^ 0) h in
    record { above = omega (arith, s.above); below = omega (arith, s.below) }

pub most_coarse : (E F k l : ℕ) (a : Fraction) → E ≤ F * 2 ^ l → AtMost E (k + l) a → AtMost F k a
most_coarse E F k l a le h =
    let P = 2 ^ a.places in
    let m : E * P ≤ F * 2 ^ l * P = mul-le-mul_right P le in
    let g : Within (E * P) (a.num ⊙ (2 ^ k * 2 ^ l)) = rw (pow-add 2 k l) at h in
    let above : a.num.neg * 2 ^ k * 2 ^ l ≤ (a.num.pos * 2 ^ k + F * P) * 2 ^ l = omega (arith, g.above) in
    let below : a.num.pos * 2 ^ k * 2 ^ l ≤ (a.num.neg * 2 ^ k + F * P) * 2 ^ l = omega (arith, g.below) in
    record { above = le_of_mul-le-mul_right above (pow_pos l); below = le_of_mul-le-mul_right below (pow_pos l) }

-- ---- sums, opposites, products
pub most_sum : (E F k : ℕ) (a b : Fraction) → AtMost E k a → AtMost F k b → AtMost (E + F) k (a ⊞ b)
most_sum E F k a b h g =
    let P = 2 ^ a.places in
    let Q = 2 ^ b.places in
    let u = 2 ^ k in
    let s = within_scale (E * P) Q (a.num ⊙ u) h in
    let t = within_scale (F * Q) P (b.num ⊙ u) g in
    rw (pow-add 2 a.places b.places) (record { above = omega (arith, s.above, t.above); below = omega (arith, s.below, t.below) })

pub most_opposite : (E k : ℕ) (a : Fraction) → AtMost E k a → AtMost E k (opposite a)
most_opposite E k a h = record { above = h.below; below = h.above }

pub most_product : (E F k l : ℕ) (a b : Fraction) → AtMost E k a → AtMost F l b → AtMost (E * F) (k + l) (a ⊠ b)
most_product E F k l a b h g =
    let P = 2 ^ a.places in
    let Q = 2 ^ b.places in
    let m = within_product (E * P) (F * Q) (a.num ⊙ 2 ^ k) (b.num ⊙ 2 ^ l) h g in
    rw (pow-add 2 a.places b.places, pow-add 2 k l) (record { above = omega (arith, m.above); below = omega (arith, m.below) })
