-- The placing of a single member by the GDSII Stream Format Manual, on integers: reflect about the x axis, magnify, rotate counter-clockwise,
-- move. And the statement that the rules place every member of a grid so, exactly. Proved in proofs/Placements/Manual.antt.
use Rattle.std.specs.Prelude.{Bool, cond, List, [], ◌∷◌, ℕ, ◌^◌, ◌<◌}
use Rattle.geometry.specs.declared.placement.DVec2.{DVec2}
use Rattle.grid.specs.declared.Grid.{Grid}
use Rattle.geometry.specs.Placement.{transform_point2}
use Rattle.grid.specs.Grid.{grid_member_transform}
use Rattle.exact.specs.Integer.{Integer, integer, ◌⊗◌, negate}
use Rattle.exact.specs.Placement.{Vector, ◌⊹◌, ◌≐ᵛ◌, VectorWithin, ExactPlacement, move, IsVector}
use Rattle.exact.specs.Member.{Rotation, degrees0, degrees90, degrees180, degrees270, IntegerGrid, member_offset, member_placement, IsGrid}

-- ---- the manual's steps
abbrev pub reflect : Vector → Vector
reflect v = record { x = v.x; y = negate v.y }

abbrev pub magnify : Integer → Vector → Vector
magnify factor v = record { x = v.x ⊗ factor; y = v.y ⊗ factor }

-- a quarter turn, counter-clockwise: the x axis goes to the y axis
abbrev pub quarter_turn : Vector → Vector
quarter_turn v = record { x = negate v.y; y = v.x }

abbrev pub rotate : Rotation → Vector → Vector
rotate degrees0 v = v
rotate degrees90 v = quarter_turn v
rotate degrees180 v = quarter_turn (quarter_turn v)
rotate degrees270 v = quarter_turn (quarter_turn (quarter_turn v))

-- reflect, magnify (by 1 on a square sheet), rotate
abbrev pub manual_turn : Bool → Rotation → Vector → Vector
manual_turn reflected angle v = rotate angle (magnify (integer 1) (cond reflected (reflect v) v))

-- ---- a single reference, the manual's SREF: its magnification is 1 on a square sheet
pub record SingleReference : Type 0 where
  pub x_reflection : Bool
  pub angle : Rotation
  pub origin : Vector

-- and move
abbrev pub manual_place : SingleReference → Vector → Vector
manual_place s v = manual_turn s.x_reflection s.angle v ⊹ s.origin

-- A grid's member as a single reference of its own: it turns as the grid does, about its own origin, which is the grid's moved by the member's offset.
-- That the offset is rotated is the one difference from the manual (docs/DIFFERENCES.md, array corners).
abbrev pub single_member : IntegerGrid → ℕ → ℕ → SingleReference
single_member g column row = record {
  x_reflection = g.x_reflection;
  angle = g.angle;
  origin = g.origin ⊹ rotate g.angle (member_offset g column row);
}

-- placed by one member after the other, the innermost first
abbrev pub manual_along : List SingleReference → Vector → Vector
manual_along [] v = v
manual_along (s ∷ outer) v = manual_along outer (manual_place s v)

-- an exact placement puts every point where these members put it
abbrev pub PlacesAlong : ExactPlacement → List SingleReference → Type 0
PlacesAlong T members = (v : Vector) → move T v ≐ᵛ manual_along members v

-- ---- the rules place so
pub record ManualPlacing : Type 0 where
  -- the exact placement of any member
  pub exact : (g : IntegerGrid) (column row : ℕ) (v : Vector) → move (member_placement g column row) v ≐ᵛ manual_place (single_member g column row) v
  -- a reference that is no array has the member at column 0 and row 0 alone, whose origin is the reference's
  pub first : (g : IntegerGrid) → (single_member g 0 0).origin ≐ᵛ g.origin
  -- the rules' floats, each operation rounded, on a square sheet
  pub rounded : (g : Grid) (z : IntegerGrid) (column row : ℕ) (p : DVec2) (v : Vector) → IsGrid g z → column < g.columns → row < g.rows
      → IsVector p v → VectorWithin (2 ^ 31) v
      → IsVector (transform_point2 (grid_member_transform g column row) p) (manual_place (single_member z column row) v)
