-- The answer of a whole sheet: the first no of document 01's questions 1 to 7, or the counts of a sound sheet.
-- Definitions only. Assumes nothing.
use Rattle.std.specs.Prelude.{ℕ, List, [], ◌∷◌, cond, length, leb, Result, Ok, Err}
use Rattle.std.proofs.Math.Option.{Option, none, some}
use Rattle.walk.specs.Offsets.{max_sheet_bytes, kind_at, offsets}
use Rattle.walk.specs.Find.{count_of}
use Rattle.records.specs.Format.{max_cells}
use Rattle.check_record.specs.Record as record_check
use Rattle.check_record.specs.Record.{CheckedRecord, check_record}
use Rattle.check_sheet.specs.declared.Counts.{Counts}
use Rattle.check_sheet.specs.declared.SheetError.{SheetError}
use Rattle.check_sheet.specs.declared.SheetError.TheVariants.{TooLong, Record, NamesMissing, TooManyCells}
use Rattle.check_sheet.specs.Count.{counts_of, tallied}
use Rattle.check_sheet.specs.Links.{link_ok}

-- a sound sheet's counts, or why it is refused
abbrev pub Checked : Type 0
Checked = Result Counts SheetError

-- a record with a no is refused, and else the answer is that of the later questions
abbrev pub after_record : CheckedRecord → ℕ → Checked → Checked
after_record (Ok passed) at later = later
after_record (Err e) at later = Err (Record e at)

-- Questions 2 to 5, "record by record": the first record with a no is refused. Without one the answer is that of the later questions.
unfoldable pub first_no : List ℕ → List ℕ → Checked → Checked
first_no s [] later = later
first_no s (at ∷ xs) later = after_record (check_record s at) at (first_no s xs later)

-- Question 7: the first record that names what is missing is refused. own is the number of the next reference.
unfoldable pub first_unnamed : List ℕ → Counts → ℕ → List ℕ → Checked → Checked
first_unnamed s c own [] later = later
first_unnamed s c own (at ∷ xs) later = cond (link_ok s c own at) (first_unnamed s c (tallied own (kind_at s at) 4) xs later) (Err (NamesMissing at))

-- Question 1, "Is the sheet at most 16,777,216 bytes?"; then 2 to 5; then question 6, "Are there at most 4,096 cells?"; then question 7.
unfoldable pub check_sheet : List ℕ → Checked
check_sheet s =
    cond (leb (length s) max_sheet_bytes)
    (first_no s (offsets s)
    (cond (leb (count_of s 5) max_cells)
    (first_unnamed s (counts_of s) 0 (offsets s)
    (Ok (counts_of s)))
    (Err TooManyCells)))
    (Err TooLong)

-- ---- An answer in document 01's numbers

-- "No: 1" and so on
abbrev pub error_number : SheetError → ℕ
error_number TooLong = 1
error_number (Record e at) = record_check.number_of e
error_number (NamesMissing at) = 6
error_number TooManyCells = 7

-- "with the offset of the record (numbers 2 to 6; first record wins) or 0"
abbrev pub error_offset : SheetError → ℕ
error_offset TooLong = 0
error_offset (Record e at) = at
error_offset (NamesMissing at) = at
error_offset TooManyCells = 0

-- and 0 for none
abbrev pub number_of : Checked → ℕ
number_of (Ok c) = 0
number_of (Err e) = error_number e

abbrev pub offset_of : Checked → ℕ
offset_of (Ok c) = 0
offset_of (Err e) = error_offset e

-- the counts that a sound sheet's answer carries
abbrev pub counts_in : Checked → Option Counts
counts_in (Ok c) = some c
counts_in (Err e) = none

pub record Verdict : Type 0 where
  pub number : ℕ
  pub offset : ℕ
  pub counts : Option Counts

-- "For any answer that is an enum, a definition gives this paper's number and values for each case."
abbrev pub verdict : Checked → Verdict
verdict r = record { number = number_of r; offset = offset_of r; counts = counts_in r }

-- what document 01 says of some bytes: "The promises use that definition."
abbrev pub verdict_of : List ℕ → Verdict
verdict_of s = verdict (check_sheet s)
