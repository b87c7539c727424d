-- Where the records of a sheet are: the list of their offsets.
-- Document 01: "Records run to the end of the bytes, little-endian: whole length (4 bytes), kind (2), body."
-- An offset is a plain sum of lengths, whatever their size: nothing wraps here.
-- Definitions only. Assumes nothing.
use Rattle.std.specs.Prelude.{ℕ, zero, suc, ◌+◌, ◌≤◌, List, [], ◌∷◌, cond, length, ltb, leb}
use Rattle.fields.specs.Field.{uint_at}
use Rattle.fields.specs.Head.{size_width, kind_width, head_width}

-- "A sheet has at most 16,777,216 bytes."
abbrev pub max_sheet_bytes : ℕ
max_sheet_bytes = 16777216

-- a record's whole length
abbrev pub length_at : List ℕ → ℕ → ℕ
length_at s at = uint_at size_width s at

-- a record's kind
abbrev pub kind_at : List ℕ → ℕ → ℕ
kind_at s at = uint_at kind_width s (at + size_width)

-- The records from `at` on, at most `steps` of them. Nothing follows a record that says it is shorter than its own head.
unfoldable pub offsets_in : ℕ → List ℕ → ℕ → List ℕ
offsets_in zero s at = []
offsets_in (suc steps) s at =
    let more = offsets_in steps s (at + length_at s at) in
    let here : List ℕ = at ∷ cond (leb head_width (length_at s at)) more [] in
    cond (ltb at (length s)) here []

-- The offsets of the records from `at` on, as far as the sheet goes. As many steps as there are bytes are enough (`enough-steps`).
unfoldable pub offsets_from : List ℕ → ℕ → List ℕ
offsets_from s at = offsets_in (length s) s at

-- The offsets of the records of a sheet. More bytes than a sheet may have are no sheet (question 1 refuses them) and have no records:
-- so no walk needs an offset of more than 32 bits.
unfoldable pub offsets : List ℕ → List ℕ
offsets s = cond (leb (length s) max_sheet_bytes) (offsets_from s 0) []

-- the record at an offset has its head and lies whole within the sheet
pub record Whole (s : List ℕ) (at : ℕ) : Type 0 where
  pub head : head_width ≤ length_at s at
  pub within : at + length_at s at ≤ length s
