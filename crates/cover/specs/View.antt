-- IN VIEW, SHOWN, WITHIN A BOX: where an item lies at its exact placement, and whether the reader can see it. "Edges belong to boxes and views."
-- Definitions only; rests on paths and on boxes of integers. Assumes nothing.
use Rattle.std.specs.Prelude.{◌≡◌, List, [], ◌∷◌, ℕ, ◌+◌, ◌*◌, ◌<◌}
use Rattle.geometry.specs.declared.bbox.WorldBBox.{WorldBBox}
use Rattle.records.specs.declared.PreparedGeometry.{PreparedGeometry}
use Rattle.records.specs.declared.PreparedText.{PreparedText}
use Rattle.abstract_sheet.specs.Sheet.{NodeRecord}
use Rattle.exact.specs.Placement.{Vector, ExactPlacement, move, vector_of}
use Rattle.exact.specs.Box.{IntegerBox, Holds, Inside, Touches, IsBox, box_of, place}
use Rattle.cover.specs.Path.{Item, a_batch, a_text, a_point}

-- ---- where an item lies

-- "A placed box is the least box around a batch's box .. at its exact placement."
abbrev pub placed_batch : PreparedGeometry → ExactPlacement → IntegerBox
placed_batch g T = place T (box_of g.bbox)

-- a text's and a point's exact position
abbrev pub text_position : PreparedText → ExactPlacement → Vector
text_position x T = move T (vector_of x.origin)

abbrev pub point_position : NodeRecord → ℕ → ExactPlacement → Vector
point_position x j T = move T (vector_of (x.point j))

-- "A path lies within a box that holds its text's or point's exact position, or its batch's whole placed box."
abbrev pub WithinBox : Item → IntegerBox → Type 0
WithinBox (a_batch n g T) z = Inside (placed_batch g T) z
WithinBox (a_text n x T) z = Holds z (text_position x T)
WithinBox (a_point n x j T) z = Holds z (point_position x j T)

-- ---- the view

-- a whole-number view, of any size
abbrev pub WholeView : WorldBBox → Type 0
WholeView view = IsBox view (box_of view)

-- "In view is a text or point whose exact position the view holds, and a batch of at least one element whose placed box touches the view;
-- other batches aren't covered."
abbrev pub InView : WorldBBox → Item → Type 0
InView view (a_batch n g T) = (0 < g.element_count) × Touches (placed_batch g T) (box_of view)
InView view (a_text n x T) = Holds (box_of view) (text_position x T)
InView view (a_point n x j T) = Holds (box_of view) (point_position x j T)

-- ---- layers

abbrev pub Lacks : List ℕ → ℕ → Type 0
Lacks [] key = Unit {0}
Lacks (x ∷ xs) key = (x ≡ key → ⊥) × Lacks xs key

-- "An item's layer is shown if the hidden layers lack its layer × 65,536 + data type (for a node its node type)."
abbrev pub Shown : List ℕ → Item → Type 0
Shown hidden (a_batch n g T) = Lacks hidden (g.layer * 65536 + g.data_type)
Shown hidden (a_text n x T) = Lacks hidden (x.layer * 65536 + x.data_type)
Shown hidden (a_point n x j T) = Lacks hidden (x.layer * 65536 + x.node_type)
