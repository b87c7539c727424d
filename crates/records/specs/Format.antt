-- THE FORMAT OF A SHEET'S RECORDS: document 01's table of the five kinds, each a list of fields with their widths in bytes, and the limits of a sheet but for its bytes (`walk`).
-- The offset of a field is computed from its list and stands nowhere else. The code's constants (`format.rt`) are held to it by each reader's proof.
-- Definitions only. Assumes nothing.
use Rattle.std.specs.Prelude.{ℕ, ◌+◌, ◌*◌, List, [], ◌∷◌, Bool, cond, eqb}
use Rattle.fields.specs.Field.{uint_at}
use Rattle.fields.specs.Head.{size_width, kind_width}

-- ---- The table

pub data Name : Type 0 where
  size kind layer dataType nodeType elementCount box origin columns rows flags source_kind source_number spacingX spacingY magnification cos sin drawUnits geometryCount textCount nodeCount referenceCount : Name

-- a field and how many bytes it takes
abbrev pub Field : Type 0
Field = Name × ℕ

-- "'f' is a 64-bit float; other widths are in bytes."
abbrev pub f : ℕ
f = 8

-- "whole length (4 bytes), kind (2), body"
abbrev pub headed : List Field → List Field
headed body = (size, size_width) ∷ (kind, kind_width) ∷ body

-- 1 batch: "layer 2, data type 2, element count 4, box 4 f"
abbrev pub geometry : List Field
geometry = headed ((layer, 2) ∷ (dataType, 2) ∷ (elementCount, 4) ∷ (box, 4 * f) ∷ [])

-- 2 text: "layer 2, data type 2, origin 2 f", then "0 to 512 value bytes"
abbrev pub text : List Field
text = headed ((layer, 2) ∷ (dataType, 2) ∷ (origin, 2 * f) ∷ [])

-- 3 node: "layer 2, node type 2", then "1 to 50 points of 2 f"
abbrev pub node : List Field
node = headed ((layer, 2) ∷ (nodeType, 2) ∷ [])

-- 4 reference: "columns 2, rows 2, flags 2, source kind 2, source number 4, origin 2 f, spacing_x 2 f, spacing_y 2 f, magnification, cos, sin,
-- source box 4 f"
abbrev pub reference : List Field
reference =
    headed
    ((columns, 2) ∷ (rows, 2) ∷ (flags, 2) ∷ (source_kind, 2) ∷ (source_number, 4) ∷ (origin, 2 * f) ∷ (spacingX, 2 * f) ∷ (spacingY, 2 * f)
    ∷ (magnification, f) ∷ (cos, f) ∷ (sin, f) ∷ (box, 4 * f) ∷ [])

-- a number of a cell's lists: "then their numbers 4 each"
abbrev pub number_width : ℕ
number_width = 4

-- 5 cell: "flags 2, direct draw units 8, box 4 f, counts of batches, texts, nodes, references 2 each", "then their numbers 4 each"
abbrev pub cell : List Field
cell =
    headed
    ((flags, 2) ∷ (drawUnits, 8) ∷ (box, 4 * f) ∷ (geometryCount, 2) ∷ (textCount, 2) ∷ (nodeCount, 2) ∷ (referenceCount, 2) ∷ [])

-- ---- The limits of a sheet

-- "Are there at most 4,096 cells?"
abbrev pub max_cells : ℕ
max_cells = 4096

-- "Are columns and rows at most 32,767"
abbrev pub max_grid_side : ℕ
max_grid_side = 32767

-- "0 to 512 value bytes"
abbrev pub max_value_bytes : ℕ
max_value_bytes = 512

-- "1 to 50 points"
abbrev pub max_points : ℕ
max_points = 50

-- ---- What it says of a field

-- names are told apart by a number of their own
abbrev index : Name → ℕ
index size = 0
index kind = 1
index layer = 2
index dataType = 3
index nodeType = 4
index elementCount = 5
index box = 6
index origin = 7
index columns = 8
index rows = 9
index flags = 10
index source_kind = 11
index source_number = 12
index spacingX = 13
index spacingY = 14
index magnification = 15
index cos = 16
index sin = 17
index drawUnits = 18
index geometryCount = 19
index textCount = 20
index nodeCount = 21
index referenceCount = 22

abbrev is : Name → Field → Bool
is n x = eqb (index n) (index x.0)

-- how many bytes of a record stand before a field
abbrev pub offset_in : List Field → Name → ℕ
offset_in [] n = 0
offset_in (x ∷ xs) n = cond (is n x) 0 (x.1 + offset_in xs n)

-- how many bytes it takes
abbrev pub width_in : List Field → Name → ℕ
width_in [] n = 0
width_in (x ∷ xs) n = cond (is n x) x.1 (width_in xs n)

-- how many bytes all fields take: what a record has beyond them starts here
abbrev pub end_of : List Field → ℕ
end_of [] = 0
end_of (x ∷ xs) = x.1 + end_of xs

-- the number in a field of the record at an offset
abbrev pub field_at : List Field → Name → List ℕ → ℕ → ℕ
field_at xs n s at = uint_at (width_in xs n) s (at + offset_in xs n)
