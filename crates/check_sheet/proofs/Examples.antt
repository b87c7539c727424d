-- Small sheets with the number and the offset that document 01 gives them, computed: one list, one theorem.
-- Numbers 1 and 7 need large sheets: `too_long` and `too-many-cells` of Answers say them of any such sheet.
-- Assumes nothing.
use mathlib.Core.Path.{◌≡◌, refl, sym, subst}
use Prim.Native.Nat.{ℕ, ◌<◌}
use mathlib.Core.List.{List, [], ◌∷◌, ◌++◌}
use mathlib.Core.Bool.{Bool, true}
use lib.Dec.{eqb}
use lib.ListN.{replicate, length-replicate}
use Rattle.fields.specs.Field.{uint_at, f64_at, uint_bytes, uint, record_bytes}
use Rattle.floats.specs.Order.{is_finite}
use Rattle.walk.specs.Offsets.{offsets_in, offsets_from, offsets}
use Rattle.walk.specs.Find.{of_kind_in}
use Rattle.check_record.specs.Tests.{both, every}
use Rattle.check_record.specs.Frame.{frame_ok}
use Rattle.check_record.specs.Shape.{lists_at, length_ok, shape_ok}
use Rattle.check_record.specs.Values.{zero_box, source_ok, grid_ok, reference_ok, cell_ok, values_ok}
use Rattle.check_record.specs.Floats.{finite_at, floats_from, floats_count, floats_ok}
use Rattle.check_record.specs.Record.{check_record}
use lib.Ieee.{of_bits, of_fields, odd}
use Rattle.std.specs.Prelude.{Ok, Err}
use Rattle.check_sheet.specs.declared.SheetError.TheVariants.{TooLong}
use Rattle.check_sheet.specs.Count.{counts_of, tallied}
use Rattle.check_sheet.specs.Links.{source_named, below_at, lists_named, link_ok}
use Rattle.check_sheet.proofs.Answers.{too_long}
use Rattle.check_sheet.specs.Check.{first_no, first_unnamed, check_sheet, number_of, offset_of}

-- ---- Records

-- the patterns of some floats
abbrev one : ℕ
one = 0x3ff0000000000000

abbrev ten : ℕ
ten = 0x4024000000000000

abbrev twenty : ℕ
twenty = 0x4034000000000000

abbrev hundred : ℕ
hundred = 0x4059000000000000

abbrev minus_zero : ℕ
minus_zero = 0x8000000000000000

abbrev infinity : ℕ
infinity = 0x7ff0000000000000

abbrev not_a_number : ℕ
not_a_number = 0x7ff8000000000000

-- a text on layer 1 at (10, y)
text : ℕ → List ℕ
text y = record_bytes (uint 4 26 ∷ uint 2 2 ∷ uint 2 1 ∷ uint 2 0 ∷ uint 8 ten ∷ uint 8 y ∷ [])

-- a cell with some flags, a box 0, 0, x, y and one text
cell : ℕ → ℕ → ℕ → ℕ → List ℕ
cell flags x y number =
    record_bytes
    (uint 4 60 ∷ uint 2 5 ∷ uint 2 flags ∷ uint 8 0 ∷ uint 8 0 ∷ uint 8 0 ∷ uint 8 x ∷ uint 8 y
    ∷ uint 2 0 ∷ uint 2 1 ∷ uint 2 0 ∷ uint 2 0 ∷ uint 4 number ∷ [])

-- a reference with some columns and flags to a source, its source box 0, 0, 0, y
reference : ℕ → ℕ → ℕ → ℕ → ℕ → List ℕ
reference columns flags kind number y =
    record_bytes
    (uint 4 122 ∷ uint 2 4 ∷ uint 2 columns ∷ uint 2 1 ∷ uint 2 flags ∷ uint 2 kind ∷ uint 4 number
    ∷ uint 8 0 ∷ uint 8 0 ∷ uint 8 0 ∷ uint 8 0 ∷ uint 8 0 ∷ uint 8 0 ∷ uint 8 one ∷ uint 8 one ∷ uint 8 0
    ∷ uint 8 0 ∷ uint 8 0 ∷ uint 8 0 ∷ uint 8 y ∷ [])

-- a head alone
head : ℕ → ℕ → List ℕ
head length kind = uint_bytes 4 length ++ uint_bytes 2 kind

-- ---- Cases

pub record Case : Type 0 where
  pub sheet : List ℕ
  pub number : ℕ
  pub offset : ℕ

case : List ℕ → ℕ → ℕ → Case
case sheet number offset = record { sheet = sheet; number = number; offset = offset }

pub cases : List Case
cases =
    -- "An empty sheet gives totals only": it is sound. So is the worked example.
    case [] 0 0
    ∷ case (text twenty ++ cell 1 hundred hundred 0) 0 0
    -- 2: five bytes are left; the length is 5; it runs past the end
    ∷ case (0 ∷ 0 ∷ 0 ∷ 0 ∷ 0 ∷ []) 2 0
    ∷ case (head 5 2) 2 0
    ∷ case (text twenty ++ head 7 2) 2 26
    -- 3: a kind that is none; a node without a point
    ∷ case (head 6 6) 3 0
    ∷ case (record_bytes (uint 4 10 ∷ uint 2 3 ∷ uint 2 1 ∷ uint 2 0 ∷ [])) 3 0
    -- 4: too many columns; a spare bit; a negative zero in an absent box; a source kind that is none; the cell source FFFFFFFF
    ∷ case (reference 32768 0 5 0 0) 4 0
    ∷ case (text twenty ++ cell 2 0 0 0) 4 26
    ∷ case (text twenty ++ cell 0 0 minus_zero 0) 4 26
    ∷ case (reference 32767 0 0 0 0) 4 0
    ∷ case (reference 32767 0 5 0xffffffff 0) 4 0
    -- 5: a text nowhere; a source box without end
    ∷ case (text not_a_number) 5 0
    ∷ case (reference 32767 2 5 0 infinity) 5 0
    -- 6: a text that is missing; a reference that is its own source
    ∷ case (text twenty ++ cell 1 hundred hundred 1) 6 26
    ∷ case (reference 1 0 4 0 0) 6 0
    -- an earlier reference and a cell that is missing are no faults
    ∷ case (reference 1 0 5 7 0 ++ reference 1 2 4 0 one) 0 0
    -- the first no is given: 4 before 5 in one record, a record's 2 before an earlier record's 6
    ∷ case (reference 1 4 5 0 infinity) 4 0
    ∷ case (reference 1 0 4 0 0 ++ head 4 1) 2 122
    ∷ []

-- the answer is as written
unfoldable as_written : List Case → Bool
as_written [] = true
as_written (c ∷ cs) =
    both (both (eqb (number_of (check_sheet c.sheet)) c.number) (eqb (offset_of (check_sheet c.sheet)) c.offset)) (as_written cs)

cases_as_written : as_written cases ≡ true
unfolding as_written cases case head reference cell text record_bytes uint_bytes uint_at f64_at is_finite of_bits of_fields odd offsets_in offsets_from offsets of_kind_in both every frame_ok lists_at length_ok shape_ok zero_box source_ok grid_ok reference_ok cell_ok values_ok finite_at floats_from floats_count floats_ok check_record counts_of tallied source_named below_at lists_named link_ok first_no first_unnamed check_sheet
cases_as_written = refl

-- the worked example has one text and one cell
worked_example : check_sheet (text twenty ++ cell 1 hundred hundred 0) ≡ Ok (record { geometries = 0; texts = 1; nodes = 0; references = 0; cells = 1 })
unfolding cell text record_bytes uint_bytes uint_at f64_at is_finite of_bits of_fields odd offsets_in offsets_from offsets of_kind_in both every frame_ok lists_at length_ok shape_ok zero_box source_ok grid_ok reference_ok cell_ok values_ok finite_at floats_from floats_count floats_ok check_record counts_of tallied source_named below_at lists_named link_ok first_no first_unnamed check_sheet
worked_example = refl

-- number 1: zeros, more than a sheet may have
zeros_too_long : (n : ℕ) → 16777216 < n → check_sheet (replicate n 0) ≡ Err TooLong
zeros_too_long n h = too_long (replicate n 0) (subst (λ (m : ℕ). 16777216 < m) (sym (length-replicate n 0)) h)
