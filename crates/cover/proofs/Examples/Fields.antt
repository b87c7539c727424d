-- SHEETS OF BYTES, written field by field as in document 01's table, the records behind each other. Assumes nothing.
use mathlib.Core.Bool.{Bool, true, cond}
use mathlib.Core.List.{List, [], ◌∷◌, ◌++◌}
use Prim.Native.Nat.{ℕ, ◌+◌, ◌*◌}
use lib.Ieee.{Float, binary64, round}
use lib.ListN.{length}
use Rattle.fields.specs.Field.{Field, uint, f64}
use Rattle.geometry.specs.declared.placement.DVec2.{DVec2}
use Rattle.geometry.specs.declared.bbox.WorldBBox.{WorldBBox}
use Rattle.records.specs.declared.PreparedSource.{PreparedSource}
use Rattle.records.specs.declared.PreparedSource.TheVariants.{Geometry, Text, Node, Reference, Cell}

-- ---- numbers, points and boxes

-- −n
abbrev pub minus : ℕ → Float
minus n = round binary64 true n 1

abbrev pub at : Float → Float → DVec2
at x y = record { x = x; y = y }

-- ---- records, field by field as in document 01's table, and the records behind them

abbrev pub vector_fields : DVec2 → List Field → List Field
vector_fields v rest = f64 v.x ∷ f64 v.y ∷ rest

abbrev pub box_fields : WorldBBox → List Field → List Field
box_fields b rest = f64 b.min_x ∷ f64 b.min_y ∷ f64 b.max_x ∷ f64 b.max_y ∷ rest

-- layer 1, data type 0
abbrev pub batch_fields : ℕ → WorldBBox → List Field → List Field
batch_fields elements b rest = uint 4 46 ∷ uint 2 1 ∷ uint 2 1 ∷ uint 2 0 ∷ uint 4 elements ∷ box_fields b rest

abbrev pub text_fields : DVec2 → List Field → List Field
text_fields v rest = uint 4 26 ∷ uint 2 2 ∷ uint 2 1 ∷ uint 2 0 ∷ vector_fields v rest

-- layer 1, node type 2, two points
abbrev pub node_fields : DVec2 → DVec2 → List Field → List Field
node_fields v w rest = uint 4 42 ∷ uint 2 3 ∷ uint 2 1 ∷ uint 2 2 ∷ vector_fields v (vector_fields w rest)

abbrev pub source_fields : PreparedSource → List Field → List Field
source_fields (Geometry n) rest = uint 2 1 ∷ uint 4 n ∷ rest
source_fields (Text n) rest = uint 2 2 ∷ uint 4 n ∷ rest
source_fields (Node n) rest = uint 2 3 ∷ uint 4 n ∷ rest
source_fields (Reference n) rest = uint 2 4 ∷ uint 4 n ∷ rest
source_fields (Cell n) rest = uint 2 5 ∷ uint 4 n ∷ rest

-- columns, rows, reflected, source, origin, the two spacings, magnification, cos and sin, source box
abbrev pub magnified_fields : ℕ → ℕ → Bool → PreparedSource → DVec2 → DVec2 → DVec2 → Float → DVec2 → WorldBBox → List Field → List Field
magnified_fields columns rows reflected source origin spacingX spacingY magnification turn b rest =
    uint 4 122 ∷ uint 2 4 ∷ uint 2 columns ∷ uint 2 rows ∷ uint 2 (cond reflected 3 2)
    ∷ source_fields source (vector_fields origin (vector_fields spacingX (vector_fields spacingY (f64 magnification ∷ vector_fields turn (box_fields b rest)))))

abbrev pub number_fields : List ℕ → List Field → List Field
number_fields [] rest = rest
number_fields (n ∷ l) rest = uint 4 n ∷ number_fields l rest

-- direct draw units, box, and the numbers of batches, texts, nodes and references
abbrev pub cell_fields : ℕ → WorldBBox → List ℕ → List ℕ → List ℕ → List ℕ → List Field → List Field
cell_fields units b gs ts ns rs rest =
    let numbers = gs ++ ts ++ ns ++ rs in
    uint 4 (56 + 4 * length numbers) ∷ uint 2 5 ∷ uint 2 1 ∷ uint 8 units
    ∷ box_fields b (uint 2 (length gs) ∷ uint 2 (length ts) ∷ uint 2 (length ns) ∷ uint 2 (length rs) ∷ number_fields numbers rest)
