-- The exact placement of one member of a reference of a square sheet. Definitions only. Assumes nothing.
-- Seeds: grid.rs (the fields), bevy_scene.rs (`grid_member_transform`).
use Rattle.std.specs.Prelude.{◌≡◌, ◌⊎◌, Bool, true, false, cond, ℕ, ◌^◌, ◌≤◌, Float}
use Rattle.grid.specs.declared.Grid.{Grid}
use Rattle.exact.specs.Integer.{Integer, integer, ◌⊕◌, ◌⊗◌, negate, is_equal, is_below}
use Rattle.exact.specs.IsInteger.{IsInteger, integer_of}
use Rattle.exact.specs.Placement.{Vector, ◌⊹◌, VectorWithin, Orientation, orient, ExactPlacement, IsVector, vector_of}

-- ---- quarter turns, counter-clockwise
pub data Rotation : Type 0 where
  degrees0 degrees90 degrees180 degrees270 : Rotation

abbrev pub cosine : Rotation → Integer
cosine degrees0 = integer 1
cosine degrees90 = integer 0
cosine degrees180 = negate (integer 1)
cosine degrees270 = integer 0

abbrev pub sine : Rotation → Integer
sine degrees0 = integer 0
sine degrees90 = integer 1
sine degrees180 = integer 0
sine degrees270 = negate (integer 1)

-- (x, y) goes to (x, y), (−y, x), (−x, −y), (y, −x)
abbrev pub rotation : Rotation → Orientation
rotation degrees0 = record { swapped = false; negate_x = false; negate_y = false }
rotation degrees90 = record { swapped = true; negate_x = true; negate_y = false }
rotation degrees180 = record { swapped = false; negate_x = true; negate_y = true }
rotation degrees270 = record { swapped = true; negate_x = false; negate_y = true }

-- the same after a reflection about the x axis: (x, −y), (y, x), (−x, y), (−y, −x)
abbrev pub reflected_rotation : Rotation → Orientation
reflected_rotation degrees0 = record { swapped = false; negate_x = false; negate_y = true }
reflected_rotation degrees90 = record { swapped = true; negate_x = false; negate_y = false }
reflected_rotation degrees180 = record { swapped = false; negate_x = true; negate_y = false }
reflected_rotation degrees270 = record { swapped = true; negate_x = true; negate_y = true }

-- ---- a reference's grid; its magnification is 1
pub record IntegerGrid : Type 0 where
  pub angle : Rotation
  pub x_reflection : Bool
  pub origin : Vector
  pub spacing_x : Vector
  pub spacing_y : Vector

abbrev pub member_orientation : IntegerGrid → Orientation
member_orientation g = cond g.x_reflection (reflected_rotation g.angle) (rotation g.angle)

-- `spacing_x * column + spacing_y * row`
abbrev pub member_offset : IntegerGrid → ℕ → ℕ → Vector
member_offset g column row = record {
  x = g.spacing_x.x ⊗ integer column ⊕ g.spacing_y.x ⊗ integer row;
  y = g.spacing_x.y ⊗ integer column ⊕ g.spacing_y.y ⊗ integer row;
}

-- the offset is rotated, and not reflected
abbrev pub offset_orientation : IntegerGrid → Orientation
offset_orientation g = rotation g.angle

-- the origin and the rotated offset
abbrev pub member_placement : IntegerGrid → ℕ → ℕ → ExactPlacement
member_placement g column row = record {
  orientation = member_orientation g;
  translation = g.origin ⊹ orient (offset_orientation g) (member_offset g column row);
}

-- all of it within ±2^31
pub record GridWithin (g : IntegerGrid) : Type 0 where
  pub origin : VectorWithin (2 ^ 31) g.origin
  pub spacing_x : VectorWithin (2 ^ 31) g.spacing_x
  pub spacing_y : VectorWithin (2 ^ 31) g.spacing_y

-- ---- floats that are these
-- A grid of a square sheet: whole numbers within ±2^31 in its position and spacings, "magnification 1, and cos, sin of 0, 1, −1 with exactly
-- one 0". Columns and rows are at most 32,767 by question 4.
pub record IsGrid (g : Grid) (z : IntegerGrid) : Type 0 where
  pub columns : g.columns ≤ 32767
  pub rows : g.rows ≤ 32767
  pub x_reflection : g.x_reflection ≡ z.x_reflection
  pub origin : IsVector g.origin z.origin
  pub spacing_x : IsVector g.spacing_x z.spacing_x
  pub spacing_y : IsVector g.spacing_y z.spacing_y
  pub magnification : IsInteger g.magnification (integer 1)
  pub cos : IsInteger g.cos (cosine z.angle)
  pub sin : IsInteger g.sin (sine z.angle)
  pub within : GridWithin z

-- the rotation with this cosine and sine
abbrev pub rotation_of : Integer → Integer → Rotation
rotation_of c s =
    cond (is_equal c (integer 0)) (cond (is_below s (integer 0)) degrees270 degrees90) (cond (is_below c (integer 0)) degrees180 degrees0)

abbrev pub grid_of : Grid → IntegerGrid
grid_of g = record {
  angle = rotation_of (integer_of g.cos) (integer_of g.sin);
  x_reflection = g.x_reflection;
  origin = vector_of g.origin;
  spacing_x = vector_of g.spacing_x;
  spacing_y = vector_of g.spacing_y;
}

-- "cos, sin of 0, 1, −1 with exactly one 0"
abbrev pub IsQuarterTurn : Float → Float → Type 0
IsQuarterTurn c s =
    (IsInteger c (integer 0) × (IsInteger s (integer 1) ⊎ IsInteger s (negate (integer 1)))) ⊎
    (IsInteger s (integer 0) × (IsInteger c (integer 1) ⊎ IsInteger c (negate (integer 1))))
