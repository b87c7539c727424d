-- Small sheets and queries, to state and to compute what the rules do on them.
-- Definitions only; rests on the abstract sheet and `World`.
use Rattle.std.specs.Prelude.{false, List, [], ◌∷◌, ℕ, zero, suc, length, get_or, Float}
use Rattle.std.proofs.Math.Option.{Option, none, some}
use Rattle.std.specs.Float.{binary64}
use Rattle.std.specs.Float.Ieee.{round}
use Rattle.geometry.specs.Bbox.{bbox, boxed}
use Rattle.geometry.specs.declared.placement.DVec2.{DVec2}
use Rattle.geometry.specs.declared.bbox.WorldBBox.{WorldBBox}
use Rattle.records.specs.declared.PreparedGeometry.{PreparedGeometry}
use Rattle.records.specs.declared.PreparedText.{PreparedText}
use Rattle.records.specs.declared.PreparedSource.{PreparedSource}
use Rattle.records.specs.declared.PreparedSource.TheVariants.{Cell}
use Rattle.records.specs.declared.PreparedReference.{PreparedReference}
use Rattle.abstract_sheet.specs.Sheet.{Numbers, NodeRecord, CellRecord, Sheet}
use Rattle.plan_rules.specs.World.{Query}

-- ---- whole numbers, points and boxes

abbrev pub whole : ℕ → Float
whole n = round binary64 false n 1

abbrev pub spot : ℕ → ℕ → DVec2
spot x y = record { x = whole x; y = whole y }

-- the box from (0, 0) to (width, height)
abbrev pub page : ℕ → ℕ → WorldBBox
page width height = bbox (whole 0) (whole 0) (whole width) (whole height)

-- ---- sheets

abbrev pub nth : {A : Type 0} → List A → ℕ → Option A
nth [] n = none
nth (x ∷ l) zero = some x
nth (x ∷ l) (suc n) = nth l n

abbrev pub numbers : List ℕ → Numbers
numbers l = record { count = length l; at = λ i. get_or l i 0 }

abbrev pub sheet_of_lists : List PreparedGeometry → List PreparedText → List NodeRecord → List PreparedReference → List CellRecord → Sheet
sheet_of_lists gs ts ns rs cs = record { geometry = nth gs; text = nth ts; node = nth ns; reference = nth rs; cell = nth cs }

-- on layer 1
abbrev pub batch_of : ℕ → WorldBBox → PreparedGeometry
batch_of elements box = record { layer = 1; data_type = 0; element_count = elements; bbox = box }

abbrev pub text_at_spot : ℕ → ℕ → PreparedText
text_at_spot x y = record { layer = 1; data_type = 0; origin = spot x y }

abbrev pub node_of : List DVec2 → NodeRecord
node_of points = record { layer = 1; node_type = 2; count = length points; point = λ i. get_or points i (spot 0 0) }

-- columns × rows members, the steps between them, and a source box
abbrev pub refer : ℕ → ℕ → ℕ → ℕ → PreparedSource → WorldBBox → PreparedReference
refer columns rows stepX stepY source box = record {
  grid = record {
    columns = columns;
    rows = rows;
    x_reflection = false;
    origin = spot 0 0;
    spacing_x = spot stepX 0;
    spacing_y = spot 0 stepY;
    magnification = whole 1;
    cos = whole 1;
    sin = whole 0;
  };
  source = source;
  source_bbox = boxed box;
}

-- direct draw units, a box, and the numbers of its batches, texts, nodes and references
abbrev pub cell_of : ℕ → WorldBBox → List ℕ → List ℕ → List ℕ → List ℕ → CellRecord
cell_of units box gs ts ns rs = record { direct_draw_units = units; bbox = boxed box; geometries = numbers gs; texts = numbers ts; nodes = numbers ns; references = numbers rs }

-- the P case: cells 0 (5 units) and 1 (7 units) refer to each other once
abbrev pub circle : Sheet
circle =
    sheet_of_lists [] [] []
    (refer 1 1 0 0 (Cell 1) (page 100 100) ∷ refer 1 1 0 0 (Cell 0) (page 100 100) ∷ [])
    (cell_of 5 (page 100 100) [] [] [] (0 ∷ []) ∷ cell_of 7 (page 100 100) [] [] [] (1 ∷ []) ∷ [])

-- ---- queries of cell 0 that hide nothing

abbrev pub viewing : WorldBBox → Float → ℕ → ℕ → Query
viewing view zoom depth limit = record { root = 0; depth = depth; view = view; zoom = zoom; hidden = []; object_limit = limit }
