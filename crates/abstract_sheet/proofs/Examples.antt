-- Concrete sheets, computed: document 01's worked sheet, the empty one, one with a record of each kind, and hostile bytes.
-- Assumes nothing.
use mathlib.Core.Path.{◌≡◌, refl}
use Prim.Native.Nat.{ℕ}
use mathlib.Core.List.{List, [], ◌∷◌, ◌++◌}
use mathlib.Core.Option.{none, some}
use mathlib.Core.Bool.{true, false}
use lib.IntN.{pos}
use lib.Ieee.{Float, fin}
use Rattle.fields.specs.Field.{uint, f64, record_bytes}
use Rattle.geometry.specs.declared.bbox.Bounds.TheVariants.{Absent, Box}
use Rattle.walk.specs.Offsets.{offsets}
use Rattle.records.specs.declared.PreparedSource.TheVariants.{Cell}
use Rattle.abstract_sheet.specs.Sheet.{NodeRecord, CellRecord, sheet_of, node_record_at, cell_record_at}
use Rattle.abstract_sheet.proofs.Opened.{opened}

-- whole numbers as floats
abbrev nought : Float
nought = fin false 0 (pos 0)

abbrev one : Float
one = fin false 1 (pos 0)

abbrev minus_one : Float
minus_one = fin true 1 (pos 0)

abbrev ten : Float
ten = fin false 5 (pos 1)

abbrev twenty : Float
twenty = fin false 5 (pos 2)

abbrev hundred : Float
hundred = fin false 25 (pos 2)

-- ---- The worked sheet: "Cell 0 has box 0, 0, 100, 100 and one text at (10, 20), layer 1."

-- length, kind, layer, data type, origin; no value bytes
unfoldable pub worked_text : List ℕ
worked_text = record_bytes (uint 4 26 ∷ uint 2 2 ∷ uint 2 1 ∷ uint 2 0 ∷ f64 ten ∷ f64 twenty ∷ [])

-- length, kind, flags, direct draw units, box, the four counts, the text's number
unfoldable pub worked_cell : List ℕ
worked_cell =
    record_bytes
    (uint 4 60 ∷ uint 2 5 ∷ uint 2 1 ∷ uint 8 1 ∷ f64 nought ∷ f64 nought ∷ f64 hundred ∷ f64 hundred
    ∷ uint 2 0 ∷ uint 2 1 ∷ uint 2 0 ∷ uint 2 0 ∷ uint 4 0 ∷ [])

unfoldable pub worked_sheet : List ℕ
worked_sheet = worked_text ++ worked_cell

-- the text's bytes, lowest first: 10 is 4024000000000000 and 20 is 4034000000000000 (hexadecimal)
worked_text_bytes : worked_text
    ≡ 26 ∷ 0 ∷ 0 ∷ 0 ∷ 2 ∷ 0 ∷ 1 ∷ 0 ∷ 0 ∷ 0
    ∷ 0 ∷ 0 ∷ 0 ∷ 0 ∷ 0 ∷ 0 ∷ 0x24 ∷ 0x40
    ∷ 0 ∷ 0 ∷ 0 ∷ 0 ∷ 0 ∷ 0 ∷ 0x34 ∷ 0x40 ∷ []
unfolding worked_text opened
worked_text_bytes = refl

worked_offsets : offsets worked_sheet ≡ 0 ∷ 26 ∷ []
unfolding worked_sheet worked_text worked_cell opened
worked_offsets = refl

worked_text_lem : (sheet_of worked_sheet).text 0 ≡ some (record { layer = 1; data_type = 0; origin = record { x = ten; y = twenty } })
unfolding worked_sheet worked_text worked_cell opened
worked_text_lem = refl

-- there is no second text and no other cell
worked_text_missing : (sheet_of worked_sheet).text 1 ≡ none
unfolding worked_sheet worked_text worked_cell opened
worked_text_missing = refl

worked_cell_missing : (sheet_of worked_sheet).cell 1 ≡ none
unfolding worked_sheet worked_text worked_cell opened
worked_cell_missing = refl

-- how long a cell's lists are
abbrev lengths : CellRecord → List ℕ
lengths c = c.geometries.count ∷ c.texts.count ∷ c.nodes.count ∷ c.references.count ∷ []

-- cell 0 has one direct draw unit, its box and one text, which is text 0
pub record WorkedCell (c : CellRecord) : Type 0 where
  pub units : c.direct_draw_units ≡ 1
  pub bbox : c.bbox ≡ Box nought nought hundred hundred
  pub listed : lengths c ≡ 0 ∷ 1 ∷ 0 ∷ 0 ∷ []
  pub text : c.texts.at 0 ≡ 0

worked_cell_lem : (c : CellRecord) × ((sheet_of worked_sheet).cell 0 ≡ some c) × WorkedCell c
unfolding worked_sheet worked_text worked_cell opened
worked_cell_lem = (cell_record_at worked_sheet 26, refl, record { units = refl; bbox = refl; listed = refl; text = refl })

-- ---- The empty sheet has nothing

empty_sheet : (n : ℕ)
    → ((sheet_of []).geometry n ≡ none) × ((sheet_of []).text n ≡ none) × ((sheet_of []).node n ≡ none) × ((sheet_of []).reference n ≡ none) × ((sheet_of []).cell n ≡ none)
unfolding opened
empty_sheet n = (refl, refl, refl, refl, refl)

-- ---- A record of each kind

-- Cell 0 without a box lists batch 11, text 12, node 13 and references 14 and 15, so that each list place shows. The batch has three elements on layer 7 with data type 9. The node has two points.
-- The reference, reflected and turned a quarter, places cell 3, which the sheet lacks, two columns by one row.
unfoldable pub mixed_sheet : List ℕ
mixed_sheet =
    record_bytes
    (uint 4 76 ∷ uint 2 5 ∷ uint 2 0 ∷ uint 8 4 ∷ f64 nought ∷ f64 nought ∷ f64 nought ∷ f64 nought
    ∷ uint 2 1 ∷ uint 2 1 ∷ uint 2 1 ∷ uint 2 2 ∷ uint 4 11 ∷ uint 4 12 ∷ uint 4 13 ∷ uint 4 14 ∷ uint 4 15
    ∷ uint 4 46 ∷ uint 2 1 ∷ uint 2 7 ∷ uint 2 9 ∷ uint 4 3 ∷ f64 nought ∷ f64 one ∷ f64 ten ∷ f64 twenty
    ∷ uint 4 42 ∷ uint 2 3 ∷ uint 2 5 ∷ uint 2 6 ∷ f64 one ∷ f64 nought ∷ f64 ten ∷ f64 twenty
    ∷ uint 4 122 ∷ uint 2 4 ∷ uint 2 2 ∷ uint 2 1 ∷ uint 2 3 ∷ uint 2 5 ∷ uint 4 3
    ∷ f64 one ∷ f64 ten ∷ f64 twenty ∷ f64 nought ∷ f64 nought ∷ f64 hundred ∷ f64 one ∷ f64 nought ∷ f64 minus_one
    ∷ f64 nought ∷ f64 nought ∷ f64 ten ∷ f64 twenty ∷ [])

mixed_offsets : offsets mixed_sheet ≡ 0 ∷ 76 ∷ 122 ∷ 164 ∷ []
unfolding mixed_sheet opened
mixed_offsets = refl

mixed_geometry : (sheet_of mixed_sheet).geometry 0
    ≡ some (record { layer = 7; data_type = 9; element_count = 3; bbox = record { min_x = nought; min_y = one; max_x = ten; max_y = twenty } })
unfolding mixed_sheet opened
mixed_geometry = refl

mixed_reference : (sheet_of mixed_sheet).reference 0
    ≡ some (record {
      grid = record {
        columns = 2;
        rows = 1;
        x_reflection = true;
        origin = record { x = one; y = ten };
        spacing_x = record { x = twenty; y = nought };
        spacing_y = record { x = nought; y = hundred };
        magnification = one;
        cos = nought;
        sin = minus_one;
      };
      source = Cell 3;
      source_bbox = Box nought nought ten twenty;
    })
unfolding mixed_sheet opened
mixed_reference = refl

pub record MixedNode (n : NodeRecord) : Type 0 where
  pub types : n.layer ∷ n.node_type ∷ n.count ∷ [] ≡ 5 ∷ 6 ∷ 2 ∷ []
  pub first : n.point 0 ≡ record { x = one; y = nought }
  pub second : n.point 1 ≡ record { x = ten; y = twenty }

mixed_node : (n : NodeRecord) × ((sheet_of mixed_sheet).node 0 ≡ some n) × MixedNode n
unfolding mixed_sheet opened
mixed_node = (node_record_at mixed_sheet 122, refl, record { types = refl; first = refl; second = refl })

pub record MixedCell (c : CellRecord) : Type 0 where
  pub bbox : c.bbox ≡ Absent
  pub listed : lengths c ≡ 1 ∷ 1 ∷ 1 ∷ 2 ∷ []
  pub numbers : c.geometries.at 0 ∷ c.texts.at 0 ∷ c.nodes.at 0 ∷ c.references.at 0 ∷ c.references.at 1 ∷ [] ≡ 11 ∷ 12 ∷ 13 ∷ 14 ∷ 15 ∷ []

mixed_cell : (c : CellRecord) × ((sheet_of mixed_sheet).cell 0 ≡ some c) × MixedCell c
unfolding mixed_sheet opened
mixed_cell = (cell_record_at mixed_sheet 0, refl, record { bbox = refl; listed = refl; numbers = refl })

-- "A cell source may name a cell that the sheet lacks."
mixed_cell_missing : (sheet_of mixed_sheet).cell 3 ≡ none
unfolding mixed_sheet opened
mixed_cell_missing = refl

-- ---- Hostile bytes

-- A text that says it is 5 bytes long is a record, and nothing follows it.
stopped : offsets (record_bytes (uint 4 5 ∷ uint 2 2 ∷ []) ++ worked_text) ≡ 0 ∷ []
unfolding worked_text opened
stopped = refl

-- A head that is cut off has the kind that its bytes say, with zeros after them.
cut_off : offsets (26 ∷ 0 ∷ 0 ∷ 0 ∷ 2 ∷ []) ≡ 0 ∷ []
unfolding opened
cut_off = refl

cut_off_text : (sheet_of (26 ∷ 0 ∷ 0 ∷ 0 ∷ 2 ∷ [])).text 0 ≡ some (record { layer = 0; data_type = 0; origin = record { x = nought; y = nought } })
unfolding opened
cut_off_text = refl
