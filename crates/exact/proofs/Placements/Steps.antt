-- The exact placement is what document 01's placement steps give without rounding: the statement is in specs/Steps.antt. Assumes nothing.
use mathlib.Core.Path.{◌≡◌, sym, subst}
use mathlib.Core.Bool.{Bool, true, false, cond}
use native.Mathlib.Omega.{arith}
use Rattle.exact.specs.Integer.{Integer, integer, ◌⊕◌, ◌⊗◌, negate, negate_if, ◌≐◌}
use Rattle.exact.specs.Placement.{Vector, ◌⊹◌, ◌≐ᵛ◌, Orientation, orient, ◌∘ᵒ◌}
use Rattle.exact.specs.Member.{Rotation, degrees0, degrees90, degrees180, degrees270, cosine, sine, rotation, IntegerGrid, member_offset}
use Rattle.exact.specs.Steps.{◌⊛◌, linear_step, rotated_offset, UnroundedSteps}
use Rattle.exact.proofs.Placements.Orientation.{orient_compose}
use Rattle.exact.proofs.Placements.Axes.{member_axes}

-- ---- turning
coordinate_x : (s n : Bool) (a b : Integer)
    → negate_if n (cond s b a) ≐ negate_if n (cond s (integer 0) (integer 1)) ⊗ a ⊕ negate_if n (cond s (integer 1) (integer 0)) ⊗ b
coordinate_x false false a b = omega arith
coordinate_x false true a b = omega arith
coordinate_x true false a b = omega arith
coordinate_x true true a b = omega arith

coordinate_y : (s n : Bool) (a b : Integer)
    → negate_if n (cond s a b) ≐ negate_if n (cond s (integer 1) (integer 0)) ⊗ a ⊕ negate_if n (cond s (integer 0) (integer 1)) ⊗ b
coordinate_y false n a b = coordinate_x true n a b
coordinate_y true n a b = coordinate_x false n a b

orient_steps : (o : Orientation) (v : Vector) → orient o v ≐ᵛ linear_step o v
orient_steps o v =
    record { x = coordinate_x o.swapped o.negate_x v.x v.y; y = coordinate_y o.swapped o.negate_y v.x v.y }

compose_steps : (p c : Orientation) (v : Vector) → orient (p ∘ᵒ c) v ≐ᵛ linear_step p (orient c v)
compose_steps p c v = subst (λ (u : Vector). u ≐ᵛ linear_step p (orient c v)) (sym (orient_compose p c v)) (orient_steps p (orient c v))

-- the same vector moved on
move_steps : (o : Orientation) (v t : Vector) → orient o v ⊹ t ≐ᵛ linear_step o v ⊹ t
move_steps o v t = let h = orient_steps o v in record { x = omega arith; y = omega arith }

-- ---- the member
rotated_steps : (a : Rotation) (i j : Integer) → orient (rotation a) (record { x = i; y = j })
    ≐ᵛ record { x = i ⊗ cosine a ⊕ negate (j ⊗ sine a); y = i ⊗ sine a ⊕ j ⊗ cosine a }
rotated_steps degrees0 i j = record { x = omega arith; y = omega arith }
rotated_steps degrees90 i j = record { x = omega arith; y = omega arith }
rotated_steps degrees180 i j = record { x = omega arith; y = omega arith }
rotated_steps degrees270 i j = record { x = omega arith; y = omega arith }

offset_steps : (g : IntegerGrid) (o : Vector) → g.origin ⊹ orient (rotation g.angle) o ≐ᵛ g.origin ⊹ rotated_offset g o
offset_steps g o = let h = rotated_steps g.angle o.x o.y in record { x = omega arith; y = omega arith }

-- times the magnification, 1
magnified : (u v : Vector) → u ≡ v → u ≐ᵛ v ⊛ integer 1
magnified u v e = subst (λ (w : Vector). u ≐ᵛ w ⊛ integer 1) e (record { x = omega arith; y = omega arith })

pub unrounded_steps : UnroundedSteps
unrounded_steps = record {
  point = λ T v. move_steps T.orientation v T.translation;
  product_x = λ P C. compose_steps P.orientation C.orientation (record { x = integer 1; y = integer 0 });
  product_y = λ P C. compose_steps P.orientation C.orientation (record { x = integer 0; y = integer 1 });
  product_translation = λ P C. move_steps P.orientation C.translation P.translation;
  member_x = λ g c r. magnified _ _ (member_axes g.x_reflection g.angle).0;
  member_y = λ g c r. magnified _ _ (member_axes g.x_reflection g.angle).1;
  member_translation = λ g c r. offset_steps g (member_offset g c r);
}
