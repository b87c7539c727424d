-- Products of integers: with 1, −1 and 0, in value; of the same integers, written otherwise; their magnitude. Assumes nothing.
use mathlib.Core.Path.{◌≡◌, ap}
use mathlib.Core.Logic.{◌⊎◌, inl, inr}
use mathlib.Core.Bool.{Bool, true, false}
use Prim.Native.Nat.{ℕ, ◌+◌, ◌-◌, ◌*◌, ◌≤◌, ◌<◌}
use native.Mathlib.Nat.{mul-le-mul}
use native.Mathlib.Omega.{arith}
use lib.Ieee.{unlike}
use Rattle.rounding.proofs.Naturals.{lt_or_ge}
use Rattle.exact.specs.Integer.{Integer, integer, ◌⊗◌, negate_if, ◌≐◌, Within}
use Rattle.exact.proofs.Integers.Bounds.{within_same, within_natural, within_negate_if}

pub unit_times : (n : Bool) (a : Integer) → negate_if n (integer 1) ⊗ a ≐ negate_if n a
unit_times false a = omega arith
unit_times true a = omega arith

pub zero_times : (n : Bool) (a : Integer) → negate_if n (integer 0) ⊗ a ≐ integer 0
zero_times false a = omega arith
zero_times true a = omega arith

-- ---- the same integers, written otherwise
pub product_same : (a b c d : Integer) → a ≐ c → b ≐ d → a ⊗ b ≐ c ⊗ d
product_same a b c d p q =
    let u : (a.pos + c.neg) * b.pos ≡ (c.pos + a.neg) * b.pos = ap (λ (z : ℕ). z * b.pos) p in
    let v : (a.pos + c.neg) * b.neg ≡ (c.pos + a.neg) * b.neg = ap (λ (z : ℕ). z * b.neg) p in
    let w : c.pos * (b.pos + d.neg) ≡ c.pos * (d.pos + b.neg) = ap (λ (z : ℕ). c.pos * z) q in
    let y : c.neg * (b.pos + d.neg) ≡ c.neg * (d.pos + b.neg) = ap (λ (z : ℕ). c.neg * z) q in
    omega arith

-- ---- sign and magnitude
signed : (a : Integer) → (s : Bool) × (n : ℕ) × (negate_if s (integer n) ≐ a)
signed a = by (lt_or_ge a.pos a.neg)
  where
    by : (a.pos < a.neg) ⊎ (a.neg ≤ a.pos) → (s : Bool) × (n : ℕ) × (negate_if s (integer n) ≐ a)
    by (inl l) = (true, a.neg - a.pos, omega arith)
    by (inr l) = (false, a.pos - a.neg, omega arith)

pub magnitude_within : (B : ℕ) (s : Bool) (n : ℕ) (a : Integer) → negate_if s (integer n) ≐ a → Within B a → n ≤ B
magnitude_within B false n a e h = omega (arith, h.above, h.below)
magnitude_within B true n a e h = omega (arith, h.above, h.below)

pub product_sign : (s t : Bool) (n m : ℕ) → negate_if (unlike s t) (integer (n * m)) ≐ negate_if s (integer n) ⊗ negate_if t (integer m)
product_sign false false n m = omega arith
product_sign false true n m = omega arith
product_sign true false n m = omega arith
product_sign true true n m = omega arith

-- |a b| is at most A B
pub within_product : (A B : ℕ) (a b : Integer) → Within A a → Within B b → Within (A * B) (a ⊗ b)
within_product A B a b h g =
    let x = signed a in
    let y = signed b in
    let xy = negate_if x.0 (integer x.1) ⊗ negate_if y.0 (integer y.1) in
    within_same (A * B) xy (a ⊗ b) (product_same (negate_if x.0 (integer x.1)) (negate_if y.0 (integer y.1)) a b x.2 y.2)
    (within_same (A * B) (negate_if (unlike x.0 y.0) (integer (x.1 * y.1))) xy (product_sign x.0 y.0 x.1 y.1)
    (within_negate_if (A * B) (unlike x.0 y.0) (integer (x.1 * y.1))
    (within_natural (A * B) (x.1 * y.1) (mul-le-mul (magnitude_within A x.0 x.1 a x.2 h) (magnitude_within B y.0 y.1 b y.2 g)))))
