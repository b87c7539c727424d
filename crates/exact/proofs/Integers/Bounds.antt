-- How bounds of magnitude go with the operations on integers and vectors. Assumes nothing.
use mathlib.Core.Bool.{Bool, true, false, cond}
use Prim.Native.Nat.{ℕ, ◌+◌, ◌*◌, ◌≤◌}
use native.Mathlib.Nat.{mul-le-mul_right, mul-le-mul_left}
use native.Mathlib.Omega.{arith}
use Rattle.exact.specs.Integer.{Integer, integer, ◌⊕◌, ◌⊗◌, negate_if, ◌≐◌, minimum, maximum, Within}
use Rattle.exact.specs.Placement.{Vector, ◌⊹◌, VectorWithin, Orientation, orient}

-- ---- integers
pub within_same : (B : ℕ) (a b : Integer) → a ≐ b → Within B a → Within B b
within_same B a b e h = record { above = omega arith; below = omega arith }

pub within_widen : (B C : ℕ) (a : Integer) → B ≤ C → Within B a → Within C a
within_widen B C a l h = record { above = omega arith; below = omega arith }

pub within_natural : (B n : ℕ) → n ≤ B → Within B (integer n)
within_natural B n l = record { above = omega arith; below = omega arith }

pub within_cond : (B : ℕ) (s : Bool) (a b : Integer) → Within B a → Within B b → Within B (cond s a b)
within_cond B true a b p q = p
within_cond B false a b p q = q

pub within_negate_if : (B : ℕ) (n : Bool) (a : Integer) → Within B a → Within B (negate_if n a)
within_negate_if B false a h = h
within_negate_if B true a h = record { above = h.below; below = h.above }

pub within_sum : (B C : ℕ) (a b : Integer) → Within B a → Within C b → Within (B + C) (a ⊕ b)
within_sum B C a b p q = record { above = omega arith; below = omega arith }

pub within_times : (B K n : ℕ) (a : Integer) → n ≤ K → Within B a → Within (B * K) (a ⊗ integer n)
within_times B K n a l h =
    let above : a.neg * n ≤ (a.pos + B) * n = mul-le-mul_right n h.above in
    let below : a.pos * n ≤ (a.neg + B) * n = mul-le-mul_right n h.below in
    let most : B * n ≤ B * K = mul-le-mul_left B l in
    record { above = omega arith; below = omega arith }

pub within_minimum : (B : ℕ) (a b : Integer) → Within B a → Within B b → Within B (minimum a b)
within_minimum B a b p q = record { above = omega arith; below = omega arith }

pub within_maximum : (B : ℕ) (a b : Integer) → Within B a → Within B b → Within B (maximum a b)
within_maximum B a b p q = record { above = omega arith; below = omega arith }

-- ---- vectors
pub vector_widen : (B C : ℕ) (v : Vector) → B ≤ C → VectorWithin B v → VectorWithin C v
vector_widen B C v l h = record { x = within_widen B C v.x l h.x; y = within_widen B C v.y l h.y }

pub vector_sum : (B C : ℕ) (u v : Vector) → VectorWithin B u → VectorWithin C v → VectorWithin (B + C) (u ⊹ v)
vector_sum B C u v p q = record { x = within_sum B C u.x v.x p.x q.x; y = within_sum B C u.y v.y p.y q.y }

-- turning keeps the bound
pub vector_orient : (B : ℕ) (o : Orientation) (v : Vector) → VectorWithin B v → VectorWithin B (orient o v)
vector_orient B o v h = record {
  x = within_negate_if B o.negate_x (cond o.swapped v.y v.x) (within_cond B o.swapped v.y v.x h.y h.x);
  y = within_negate_if B o.negate_y (cond o.swapped v.x v.y) (within_cond B o.swapped v.x v.y h.x h.y);
}
