-- Every member of a grid is placed as the GDSII manual places a single one: the statement is in specs/Manual.antt. And so are members inside members.
-- Assumes nothing.
use mathlib.Core.Bool.{Bool, true, false, cond}
use mathlib.Core.List.{List, [], ◌∷◌}
use Prim.Native.Nat.{ℕ, ◌*◌, ◌^◌, ◌≤◌, ◌<◌}
use native.Mathlib.Omega.{arith}
use Rattle.geometry.specs.declared.placement.DVec2.{DVec2}
use Rattle.grid.specs.declared.Grid.{Grid}
use Rattle.geometry.specs.Placement.{transform_point2}
use Rattle.grid.specs.Grid.{grid_member_transform}
use Rattle.exact.specs.Placement.{Vector, ◌⊹◌, ◌≐ᵛ◌, VectorWithin, orient, ExactPlacement, identity, move, ◌∘◌, IsVector, member_reach}
use Rattle.exact.specs.Member.{Rotation, degrees0, degrees90, degrees180, degrees270, rotation, reflected_rotation, IntegerGrid, member_offset, member_placement, IsGrid}
use Rattle.exact.specs.Manual.{rotate, manual_turn, SingleReference, manual_place, single_member, PlacesAlong, ManualPlacing}
use Rattle.exact.proofs.Integers.Bounds.{vector_widen}
use Rattle.exact.proofs.Placements.Orientation.{move_same, move_compose}
use Rattle.exact.proofs.Placements.Moving.{vector_same}
use Rattle.exact.proofs.Placements.Member.{member_within, member_transform_exact}
use Rattle.exact.proofs.Placements.Levels.{level_point_exact}

-- reflected, magnified by 1 and rotated
manual_orientation : (m : Bool) (a : Rotation) (v : Vector) → orient (cond m (reflected_rotation a) (rotation a)) v ≐ᵛ manual_turn m a v
manual_orientation false degrees0 v = record { x = omega arith; y = omega arith }
manual_orientation false degrees90 v = record { x = omega arith; y = omega arith }
manual_orientation false degrees180 v = record { x = omega arith; y = omega arith }
manual_orientation false degrees270 v = record { x = omega arith; y = omega arith }
manual_orientation true degrees0 v = record { x = omega arith; y = omega arith }
manual_orientation true degrees90 v = record { x = omega arith; y = omega arith }
manual_orientation true degrees180 v = record { x = omega arith; y = omega arith }
manual_orientation true degrees270 v = record { x = omega arith; y = omega arith }

-- the offset, rotated
manual_rotation : (a : Rotation) (v : Vector) → orient (rotation a) v ≐ᵛ rotate a v
manual_rotation degrees0 v = record { x = omega arith; y = omega arith }
manual_rotation degrees90 v = record { x = omega arith; y = omega arith }
manual_rotation degrees180 v = record { x = omega arith; y = omega arith }
manual_rotation degrees270 v = record { x = omega arith; y = omega arith }

manual_exact : (g : IntegerGrid) (column row : ℕ) (v : Vector) → move (member_placement g column row) v ≐ᵛ manual_place (single_member g column row) v
manual_exact g column row v =
    let turned = manual_orientation g.x_reflection g.angle v in
    let moved = manual_rotation g.angle (member_offset g column row) in
    record { x = omega arith; y = omega arith }

-- the member at column 0 and row 0 is not moved by the spacings
manual_first : (g : IntegerGrid) → (single_member g 0 0).origin ≐ᵛ g.origin
manual_first g = first_origin g.angle g
  where
    first_origin : (a : Rotation) (g : IntegerGrid) → g.origin ⊹ rotate a (member_offset g 0 0) ≐ᵛ g.origin
    first_origin degrees0 g = record { x = omega arith; y = omega arith }
    first_origin degrees90 g = record { x = omega arith; y = omega arith }
    first_origin degrees180 g = record { x = omega arith; y = omega arith }
    first_origin degrees270 g = record { x = omega arith; y = omega arith }

manual_rounded : (g : Grid) (z : IntegerGrid) (column row : ℕ) (p : DVec2) (v : Vector) → IsGrid g z → column < g.columns → row < g.rows
    → IsVector p v → VectorWithin (2 ^ 31) v
    → IsVector (transform_point2 (grid_member_transform g column row) p) (manual_place (single_member z column row) v)
manual_rounded g z column row p v h c< r< a w =
    let c≤ : column ≤ 32767 = omega (arith, h.columns) in
    let r≤ : row ≤ 32767 = omega (arith, h.rows) in
    let T = member_placement z column row in
    let near = vector_widen member_reach (1 * member_reach) T.translation (omega arith) (member_within z column row c≤ r≤ h.within) in
    let moved = level_point_exact 1 (omega arith) (grid_member_transform g column row) T (member_transform_exact g z column row h c≤ r≤)
    near p v a (vector_widen (2 ^ 31) (2 ^ 48) v (omega arith) w) in
    vector_same _ (move T v) (manual_place (single_member z column row) v) (manual_exact z column row v) moved

pub manual_placement : ManualPlacing
manual_placement = record { exact = manual_exact; first = manual_first; rounded = manual_rounded }

-- ---- members inside members
pub root_along : PlacesAlong identity []
root_along v = record { x = omega arith; y = omega arith }

-- a member of a grid that stands where the outer members put it
pub member_along : (T : ExactPlacement) (outer : List SingleReference) (g : IntegerGrid) (column row : ℕ) → PlacesAlong T outer
    → PlacesAlong (T ∘ member_placement g column row) (single_member g column row ∷ outer)
member_along T outer g column row along v =
    let C = member_placement g column row in
    let s = manual_place (single_member g column row) v in
    let through = move_compose T C v in
    let single = move_same T (move C v) s (manual_exact g column row v) in
    let outwards = along s in
    record { x = omega arith; y = omega arith }
