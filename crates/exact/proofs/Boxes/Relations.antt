-- Which boxes hold which points, enclose and touch which boxes. Assumes nothing.
use native.Mathlib.Omega.{arith}
use Prim.Native.Nat.{ℕ, ◌≤◌}
use Rattle.exact.specs.Integer.{◌⊕◌, negate}
use Rattle.exact.specs.Placement.{Vector, ◌≐ᵛ◌}
use Rattle.exact.specs.Box.{IntegerBox, point_box, SameBox, Proper, Holds, Inside, Touches, BoxWithin, SidesWithin, join}
use Rattle.exact.proofs.Integers.Bounds.{within_widen, within_minimum, within_maximum}

-- ---- enclosing
pub encloses_self : (a : IntegerBox) → Inside a a
encloses_self a = record { left = omega arith; right = omega arith; bottom = omega arith; top = omega arith }

pub encloses_trans : (a b c : IntegerBox) → Inside a b → Inside b c → Inside a c
encloses_trans a b c h k = record { left = omega arith; right = omega arith; bottom = omega arith; top = omega arith }

pub encloses_both : (a b : IntegerBox) → Inside a b → Inside b a → SameBox a b
encloses_both a b h k = record { min_x = omega arith; min_y = omega arith; max_x = omega arith; max_y = omega arith }

pub same_enclosed : (a b : IntegerBox) → SameBox a b → Inside b a
same_enclosed a b h = record { left = omega arith; right = omega arith; bottom = omega arith; top = omega arith }

-- ---- holding
pub encloses_holds : (a b : IntegerBox) (v : Vector) → Inside a b → Holds a v → Holds b v
encloses_holds a b v h k = record { left = omega arith; right = omega arith; bottom = omega arith; top = omega arith }

pub holds_same : (b : IntegerBox) (u v : Vector) → u ≐ᵛ v → Holds b u → Holds b v
holds_same b u v h k = record { left = omega arith; right = omega arith; bottom = omega arith; top = omega arith }

pub point_holds : (v : Vector) → Holds (point_box v) v
point_holds v = record { left = omega arith; right = omega arith; bottom = omega arith; top = omega arith }

pub holds_point : (b : IntegerBox) (v : Vector) → Holds b v → Inside (point_box v) b
holds_point b v h = record { left = h.left; right = h.right; bottom = h.bottom; top = h.top }

pub point_held : (b : IntegerBox) (v : Vector) → Inside (point_box v) b → Holds b v
point_held b v h = record { left = h.left; right = h.right; bottom = h.bottom; top = h.top }

-- ---- touching
pub holds_touches : (a b : IntegerBox) (v : Vector) → Holds a v → Holds b v → Touches a b
holds_touches a b v h k = record { left = omega arith; right = omega arith; bottom = omega arith; top = omega arith }

pub encloses_touches : (a b c : IntegerBox) → Inside a b → Touches a c → Touches b c
encloses_touches a b c h k = record { left = omega arith; right = omega arith; bottom = omega arith; top = omega arith }

-- ---- the join: the least box that encloses both
pub join_left : (a b : IntegerBox) → Inside a (join a b)
join_left a b = record { left = omega arith; right = omega arith; bottom = omega arith; top = omega arith }

pub join_right : (a b : IntegerBox) → Inside b (join a b)
join_right a b = record { left = omega arith; right = omega arith; bottom = omega arith; top = omega arith }

pub join_least : (a b c : IntegerBox) → Inside a c → Inside b c → Inside (join a b) c
join_least a b c h k = record { left = omega arith; right = omega arith; bottom = omega arith; top = omega arith }

pub join_proper : (a b : IntegerBox) → Proper a → Proper (join a b)
join_proper a b h = record { x = omega arith; y = omega arith }

pub join_within : (B : ℕ) (a b : IntegerBox) → BoxWithin B a → BoxWithin B b → BoxWithin B (join a b)
join_within B a b h k = record {
  min_x = within_minimum B a.min_x b.min_x h.min_x k.min_x;
  min_y = within_minimum B a.min_y b.min_y h.min_y k.min_y;
  max_x = within_maximum B a.max_x b.max_x h.max_x k.max_x;
  max_y = within_maximum B a.max_y b.max_y h.max_y k.max_y;
}

pub box_widen : (B C : ℕ) (b : IntegerBox) → B ≤ C → BoxWithin B b → BoxWithin C b
box_widen B C b l h = record {
  min_x = within_widen B C b.min_x l h.min_x;
  min_y = within_widen B C b.min_y l h.min_y;
  max_x = within_widen B C b.max_x l h.max_x;
  max_y = within_widen B C b.max_y l h.max_y;
}

pub sides_widen : (B C : ℕ) (b : IntegerBox) → B ≤ C → SidesWithin B b → SidesWithin C b
sides_widen B C b l h = record {
  width = within_widen B C (b.max_x ⊕ negate b.min_x) l h.width;
  height = within_widen B C (b.max_y ⊕ negate b.min_y) l h.height;
}
