-- Boxes of integers: what lies in them, boxes that are placed, and a reference's box. "Edges belong to boxes and views."
-- Definitions only. Assumes nothing.
-- Seeds: drawable.rs (`WorldBBox`), bevy_scene.rs (`transform_bbox`, `reference_bbox`).
use Rattle.std.specs.Prelude.{Bool, cond, ℕ, ◌-◌, ◌<◌}
use Rattle.geometry.specs.declared.bbox.WorldBBox.{WorldBBox}
use Rattle.exact.specs.Integer.{Integer, ◌⊕◌, negate, ◌≐◌, ◌≼◌, minimum, maximum, Within}
use Rattle.exact.specs.IsInteger.{IsInteger, integer_of}
use Rattle.exact.specs.Placement.{Vector, ExactPlacement, move}
use Rattle.exact.specs.Member.{IntegerGrid, member_placement}

pub record IntegerBox : Type 0 where
  pub min_x : Integer
  pub min_y : Integer
  pub max_x : Integer
  pub max_y : Integer

-- the box of one point
abbrev pub point_box : Vector → IntegerBox
point_box v = record { min_x = v.x; min_y = v.y; max_x = v.x; max_y = v.y }

-- ---- relations
-- equal in value
pub record SameBox (a b : IntegerBox) : Type 0 where
  pub min_x : a.min_x ≐ b.min_x
  pub min_y : a.min_y ≐ b.min_y
  pub max_x : a.max_x ≐ b.max_x
  pub max_y : a.max_y ≐ b.max_y

-- "min at most max in each box"
pub record Proper (b : IntegerBox) : Type 0 where
  pub x : b.min_x ≼ b.max_x
  pub y : b.min_y ≼ b.max_y

-- the box holds the point
pub record Holds (b : IntegerBox) (v : Vector) : Type 0 where
  pub left : b.min_x ≼ v.x
  pub right : v.x ≼ b.max_x
  pub bottom : b.min_y ≼ v.y
  pub top : v.y ≼ b.max_y

-- the second box encloses the first
pub record Inside (a b : IntegerBox) : Type 0 where
  pub left : b.min_x ≼ a.min_x
  pub right : a.max_x ≼ b.max_x
  pub bottom : b.min_y ≼ a.min_y
  pub top : a.max_y ≼ b.max_y

-- they have a point in common, be it on an edge
pub record Touches (a b : IntegerBox) : Type 0 where
  pub left : b.min_x ≼ a.max_x
  pub right : a.min_x ≼ b.max_x
  pub bottom : b.min_y ≼ a.max_y
  pub top : a.min_y ≼ b.max_y

-- all four numbers, or both sides, of magnitude at most B
pub record BoxWithin (B : ℕ) (b : IntegerBox) : Type 0 where
  pub min_x : Within B b.min_x
  pub min_y : Within B b.min_y
  pub max_x : Within B b.max_x
  pub max_y : Within B b.max_y

pub record SidesWithin (B : ℕ) (b : IntegerBox) : Type 0 where
  pub width : Within B (b.max_x ⊕ negate b.min_x)
  pub height : Within B (b.max_y ⊕ negate b.min_y)

-- ---- floats that are these, in value
pub record IsBox (b : WorldBBox) (z : IntegerBox) : Type 0 where
  pub min_x : IsInteger b.min_x z.min_x
  pub min_y : IsInteger b.min_y z.min_y
  pub max_x : IsInteger b.max_x z.max_x
  pub max_y : IsInteger b.max_y z.max_y

abbrev pub box_of : WorldBBox → IntegerBox
box_of b = record {
  min_x = integer_of b.min_x;
  min_y = integer_of b.min_y;
  max_x = integer_of b.max_x;
  max_y = integer_of b.max_y;
}

-- ---- a placed box
-- with x and y exchanged, or not
abbrev pub swap_if : Bool → IntegerBox → IntegerBox
swap_if s b = record {
  min_x = cond s b.min_y b.min_x;
  min_y = cond s b.min_x b.min_y;
  max_x = cond s b.max_y b.max_x;
  max_y = cond s b.max_x b.max_y;
}

-- the lower and the upper end of the stretch from a to b, negated or not
abbrev pub lower_end : Bool → Integer → Integer → Integer
lower_end n a b = cond n (negate b) a

abbrev pub upper_end : Bool → Integer → Integer → Integer
upper_end n a b = cond n (negate a) b

-- the least box around a box, placed
abbrev pub place : ExactPlacement → IntegerBox → IntegerBox
place T b =
    let o = T.orientation in
    let c = swap_if o.swapped b in
    record {
      min_x = lower_end o.negate_x c.min_x c.max_x ⊕ T.translation.x;
      min_y = lower_end o.negate_y c.min_y c.max_y ⊕ T.translation.y;
      max_x = upper_end o.negate_x c.min_x c.max_x ⊕ T.translation.x;
      max_y = upper_end o.negate_y c.min_y c.max_y ⊕ T.translation.y;
    }

-- "A placed box is the least box around a batch's box, or a member's source box, at its exact placement."
-- `place` gives it for every proper box: `place-least` in proofs/Boxes/Place.antt.
pub record IsPlacedBox (T : ExactPlacement) (b placed : IntegerBox) : Type 0 where
  pub holds : (v : Vector) → Holds b v → Holds placed (move T v)
  pub least : (c : IntegerBox) → ((v : Vector) → Holds b v → Holds c (move T v)) → Inside placed c

-- ---- a reference's box, `reference_bbox`: the least box around the corner members, where there are columns and rows
abbrev pub join : IntegerBox → IntegerBox → IntegerBox
join a b = record {
  min_x = minimum a.min_x b.min_x;
  min_y = minimum a.min_y b.min_y;
  max_x = maximum a.max_x b.max_x;
  max_y = maximum a.max_y b.max_y;
}

abbrev pub member_box : IntegerGrid → ℕ → ℕ → IntegerBox → IntegerBox
member_box g column row b = place (member_placement g column row) b

abbrev pub reference_box : IntegerGrid → ℕ → ℕ → IntegerBox → IntegerBox
reference_box g columns rows b =
    let lastColumn = columns - 1 in
    let lastRow = rows - 1 in
    join (join (join (member_box g 0 0 b) (member_box g 0 lastRow b)) (member_box g lastColumn 0 b)) (member_box g lastColumn lastRow b)

-- It is the least box around all members, where there are columns and rows: `reference-box-least` in proofs/Boxes/Reference.antt.
pub record IsReferenceBox (g : IntegerGrid) (columns rows : ℕ) (b around : IntegerBox) : Type 0 where
  pub encloses : (column row : ℕ) → column < columns → row < rows → Inside (member_box g column row b) around
  pub least : (c : IntegerBox) → ((column row : ℕ) → column < columns → row < rows → Inside (member_box g column row b) c) → Inside around c
