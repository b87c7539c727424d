-- SQUARE SHEETS. Document 01: "A square sheet has whole numbers within ±2^31 in all positions, spacings and boxes, min at most max in each box,
-- magnification 1, and cos, sin of 0, 1, −1 with exactly one 0." Positions are those of texts, node points and references. An absent box has no numbers.
-- Said of the records that the sheet has, field by field. Definitions only; rests on the abstract sheet and on integers in floats. Assumes nothing.
use Rattle.std.specs.Prelude.{◌≡◌, ℕ, ◌^◌, ◌≤◌, ◌<◌, Float}
use Rattle.std.proofs.Math.Option.{some}
use Rattle.geometry.specs.declared.placement.DVec2.{DVec2}
use Rattle.geometry.specs.declared.bbox.WorldBBox.{WorldBBox}
use Rattle.geometry.specs.declared.bbox.Bounds.{Bounds}
use Rattle.geometry.specs.declared.bbox.Bounds.TheVariants.{Absent, Box}
use Rattle.grid.specs.declared.Grid.{Grid}
use Rattle.geometry.specs.Bbox.{bbox}
use Rattle.records.specs.declared.PreparedGeometry.{PreparedGeometry}
use Rattle.records.specs.declared.PreparedText.{PreparedText}
use Rattle.records.specs.declared.PreparedReference.{PreparedReference}
use Rattle.records.specs.Format.{max_grid_side}
use Rattle.abstract_sheet.specs.Sheet.{NodeRecord, CellRecord, Sheet}
use Rattle.exact.specs.Integer.{integer, Within}
use Rattle.exact.specs.IsInteger.{IsInteger, integer_of}
use Rattle.exact.specs.Member.{IsQuarterTurn}
use Rattle.exact.specs.Box.{Proper, box_of}

-- "whole numbers within ±2^31"
pub record SquareNumber (x : Float) : Type 0 where
  pub whole : IsInteger x (integer_of x)
  pub within : Within (2 ^ 31) (integer_of x)

-- a position or a spacing
pub record SquareVector (v : DVec2) : Type 0 where
  pub x : SquareNumber v.x
  pub y : SquareNumber v.y

-- "min at most max in each box"
pub record SquareBox (b : WorldBBox) : Type 0 where
  pub min_x : SquareNumber b.min_x
  pub min_y : SquareNumber b.min_y
  pub max_x : SquareNumber b.max_x
  pub max_y : SquareNumber b.max_y
  pub proper : Proper (box_of b)

abbrev pub SquareBounds : Bounds → Type 0
SquareBounds Absent = Unit {0}
SquareBounds (Box a b c d) = SquareBox (bbox a b c d)

-- "magnification 1, and cos, sin of 0, 1, −1 with exactly one 0"
pub record SquareGrid (g : Grid) : Type 0 where
  pub origin : SquareVector g.origin
  pub spacing_x : SquareVector g.spacing_x
  pub spacing_y : SquareVector g.spacing_y
  pub magnification : IsInteger g.magnification (integer 1)
  pub rotation : IsQuarterTurn g.cos g.sin

pub record Square (S : Sheet) : Type 0 where
  pub geometry : (n : ℕ) (g : PreparedGeometry) → S.geometry n ≡ some g → SquareBox g.bbox
  pub text : (n : ℕ) (x : PreparedText) → S.text n ≡ some x → SquareVector x.origin
  pub point : (n : ℕ) (x : NodeRecord) (j : ℕ) → S.node n ≡ some x → j < x.count → SquareVector (x.point j)
  pub grid : (n : ℕ) (r : PreparedReference) → S.reference n ≡ some r → SquareGrid r.grid
  pub source_box : (n : ℕ) (r : PreparedReference) → S.reference n ≡ some r → SquareBounds r.source_bbox
  pub cell_box : (n : ℕ) (c : CellRecord) → S.cell n ≡ some c → SquareBounds c.bbox

-- Question 4: "Are columns and rows at most 32,767". Every accepted sheet has this.
abbrev pub FewMembers : Sheet → Type 0
FewMembers S = (n : ℕ) (r : PreparedReference) → S.reference n ≡ some r → (r.grid.columns ≤ max_grid_side) × (r.grid.rows ≤ max_grid_side)
