-- The first no that document 01's questions 2 to 5 give a record, with its number, and what a record is that has none.
-- Definitions only. Assumes nothing.
use Rattle.std.specs.Prelude.{◌≡◌, ℕ, List, true, cond, Result, Ok, Err}
use Rattle.walk.specs.Offsets.{Whole}
use Rattle.check_record.specs.declared.RecordError.{RecordError}
use Rattle.check_record.specs.declared.RecordError.TheVariants as no
use Rattle.check_record.specs.Frame.{frame_ok}
use Rattle.check_record.specs.Shape.{shape_ok}
use Rattle.check_record.specs.Values.{values_ok}
use Rattle.check_record.specs.Floats.{floats_ok}

-- what is said of a record: nothing, or why it is refused
abbrev pub CheckedRecord : Type 0
CheckedRecord = Result Unit RecordError

-- "The first no is given"
unfoldable pub check_record : List ℕ → ℕ → CheckedRecord
check_record s at =
    cond (frame_ok s at)
    (cond (shape_ok s at)
    (cond (values_ok s at)
    (cond (floats_ok s at) (Ok tt) (Err no.Floats))
    (Err no.Values))
    (Err no.Shape))
    (Err no.Frame)

-- "For any answer that is an enum, a definition gives this paper's number": the number of each no
abbrev pub number_of : RecordError → ℕ
number_of no.Frame = 2
number_of no.Shape = 3
number_of no.Values = 4
number_of no.Floats = 5

-- and 0 where there is none
abbrev pub refusal_of : CheckedRecord → ℕ
refusal_of (Ok none) = 0
refusal_of (Err e) = number_of e

-- the number that document 01 gives a record
abbrev pub record_refusal : List ℕ → ℕ → ℕ
record_refusal s at = refusal_of (check_record s at)

-- a record that passes questions 2 to 5
pub record Right (s : List ℕ) (at : ℕ) : Type 0 where
  pub whole : Whole s at
  pub shape : shape_ok s at ≡ true
  pub values : values_ok s at ≡ true
  pub floats : floats_ok s at ≡ true
