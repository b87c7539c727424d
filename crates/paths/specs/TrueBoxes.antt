-- TRUE BOXES. Document 01: "True boxes: a cell's box encloses its texts, points, batches of at least one element, and the boxes of its references
-- (by `reference_bbox`); without a box it has none of these. A reference's source box is that of its cell (absent if the cell is missing), encloses its batch
-- of at least one element, is its text's point, its node's least box, or its inner reference's box." Boxes are the same if they are so in value.
-- Said of the records that the sheet has. Definitions only; rests on the abstract sheet and on boxes of integers. Assumes nothing.
use Rattle.std.specs.Prelude.{◌≡◌, ℕ, ◌<◌}
use Rattle.std.proofs.Math.Option.{Option, none, some}
use Rattle.geometry.specs.declared.bbox.Bounds.{Bounds}
use Rattle.geometry.specs.declared.bbox.Bounds.TheVariants.{Absent, Box}
use Rattle.geometry.specs.Bbox.{bbox}
use Rattle.grid.specs.Grid.{reference_bbox}
use Rattle.records.specs.declared.PreparedSource.{PreparedSource}
use Rattle.records.specs.declared.PreparedSource.TheVariants.{Geometry, Text, Node, Reference, Cell}
use Rattle.records.specs.declared.PreparedGeometry.{PreparedGeometry}
use Rattle.records.specs.declared.PreparedText.{PreparedText}
use Rattle.records.specs.declared.PreparedReference.{PreparedReference}
use Rattle.abstract_sheet.specs.Sheet.{NodeRecord, CellRecord, Sheet}
use Rattle.exact.specs.Placement.{vector_of}
use Rattle.exact.specs.Box.{IntegerBox, point_box, SameBox, Holds, Inside, box_of}

-- ---- boxes that are there

-- A box encloses what lies inside it; an absent box encloses nothing, so "without a box it has none of these".
abbrev pub Encloses : Bounds → IntegerBox → Type 0
Encloses Absent z = ⊥
Encloses (Box a b c d) z = Inside z (box_of (bbox a b c d))

-- it encloses a box, if that box is there
abbrev pub EnclosesBounds : Bounds → Bounds → Type 0
EnclosesBounds o Absent = Unit {0}
EnclosesBounds o (Box a b c d) = Encloses o (box_of (bbox a b c d))

-- the box is there, and is z in value
abbrev pub IsThere : Bounds → IntegerBox → Type 0
IsThere Absent z = ⊥
IsThere (Box a b c d) z = SameBox (box_of (bbox a b c d)) z

-- both absent, or both there and the same
abbrev pub SameBounds : Bounds → Bounds → Type 0
SameBounds Absent Absent = Unit {0}
SameBounds (Box a b c d) Absent = ⊥
SameBounds o (Box a b c d) = IsThere o (box_of (bbox a b c d))

-- ---- the boxes that are spoken of

-- "its node's least box": it holds every point, and lies inside each box that does
pub record LeastBox (x : NodeRecord) (z : IntegerBox) : Type 0 where
  pub holds : (j : ℕ) → j < x.count → Holds z (vector_of (x.point j))
  pub least : (c : IntegerBox) → ((j : ℕ) → j < x.count → Holds c (vector_of (x.point j))) → Inside z c

abbrev pub IsLeastBox : Bounds → NodeRecord → Type 0
IsLeastBox Absent x = ⊥
IsLeastBox (Box a b c d) x = LeastBox x (box_of (bbox a b c d))

-- the box of a reference, "by `reference_bbox`": absent without a source box, or without columns or rows
abbrev pub reference_bounds : PreparedReference → Bounds → Bounds
reference_bounds r Absent = Absent
reference_bounds r (Box a b c d) = reference_bbox r.grid (bbox a b c d)

-- a cell's box, "absent if the cell is missing"
abbrev pub cell_bounds : Option CellRecord → Bounds
cell_bounds none = Absent
cell_bounds (some c) = c.bbox

-- ---- the two sentences

-- "a cell's box encloses its texts, points, batches of at least one element, and the boxes of its references (by `reference_bbox`)"
pub record TrueCellBox (S : Sheet) (c : CellRecord) : Type 0 where
  pub texts : (i : ℕ) (x : PreparedText) → i < c.texts.count → S.text (c.texts.at i) ≡ some x → Encloses c.bbox (point_box (vector_of x.origin))
  pub points : (i j : ℕ) (x : NodeRecord) → i < c.nodes.count → S.node (c.nodes.at i) ≡ some x → j < x.count → Encloses c.bbox (point_box (vector_of (x.point j)))
  pub batches : (i : ℕ) (g : PreparedGeometry) → i < c.geometries.count → S.geometry (c.geometries.at i) ≡ some g → 0 < g.element_count → Encloses c.bbox (box_of g.bbox)
  pub references : (i : ℕ) (r : PreparedReference) → i < c.references.count → S.reference (c.references.at i) ≡ some r → EnclosesBounds c.bbox (reference_bounds r r.source_bbox)

-- "A reference's source box is that of its cell (absent if the cell is missing), encloses its batch of at least one element, is its text's point,
-- its node's least box, or its inner reference's box."
abbrev pub TrueSourceBox : Sheet → Bounds → PreparedSource → Type 0
TrueSourceBox S o (Cell n) = SameBounds o (cell_bounds (S.cell n))
TrueSourceBox S o (Geometry n) = (g : PreparedGeometry) → S.geometry n ≡ some g → 0 < g.element_count → Encloses o (box_of g.bbox)
TrueSourceBox S o (Text n) = (x : PreparedText) → S.text n ≡ some x → IsThere o (point_box (vector_of x.origin))
TrueSourceBox S o (Node n) = (x : NodeRecord) → S.node n ≡ some x → IsLeastBox o x
TrueSourceBox S o (Reference n) = (r : PreparedReference) → S.reference n ≡ some r → SameBounds o (reference_bounds r r.source_bbox)

pub record TrueBoxes (S : Sheet) : Type 0 where
  pub cells : (n : ℕ) (c : CellRecord) → S.cell n ≡ some c → TrueCellBox S c
  pub sources : (n : ℕ) (r : PreparedReference) → S.reference n ≡ some r → TrueSourceBox S r.source_bbox r.source
