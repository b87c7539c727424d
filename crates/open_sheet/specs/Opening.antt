-- OPENING A SHEET: document 02, paper 1, "A lent list of 32-bit places shall hold the offset of every record, by kind and then by number, filled when a
-- sheet is opened; places past these stay as lent." The contract of `open_sheet` equates a call to `opening_of`.
-- Definitions only; rests on the sheet's questions (1 to 7) and on its finder.
use Rattle.std.specs.Prelude.{cond, List, ◌++◌, ℕ, length, drop, replicate, leb, Result, Ok, Err}
use Rattle.check_sheet.specs.Check as sheet_check
use Rattle.check_sheet.specs.Check.{Checked, check_sheet}
use Rattle.finder.specs.Finder.{finder_of}
use Rattle.open_sheet.specs.declared.OpenError.{OpenError}
use Rattle.open_sheet.specs.declared.OpenError.TheVariants.{Sheet, NoRoom}

-- how many places an open sheet takes, or why it was not opened
abbrev pub Opened : Type 0
Opened = Result ℕ OpenError

-- ---- an answer in the papers' numbers: the refusal's number (0 for an open sheet), its offset, and how many places the sheet takes, known at 13 too

abbrev pub error_number : OpenError → ℕ
error_number (Sheet e) = sheet_check.error_number e
error_number (NoRoom places) = 13

abbrev pub error_offset : OpenError → ℕ
error_offset (Sheet e) = sheet_check.error_offset e
error_offset (NoRoom places) = 0

abbrev pub error_places : OpenError → ℕ
error_places (Sheet e) = 0
error_places (NoRoom places) = places

abbrev pub number_of : Opened → ℕ
number_of (Ok places) = 0
number_of (Err e) = error_number e

abbrev pub offset_of : Opened → ℕ
offset_of (Ok places) = 0
offset_of (Err e) = error_offset e

abbrev pub places_of : Opened → ℕ
places_of (Ok places) = places
places_of (Err e) = error_places e

pub record Opening : Type 0 where
  pub number : ℕ
  pub offset : ℕ
  pub places : ℕ
  pub finder : List ℕ

-- what a call answered and left in the lent list
abbrev pub opening : Opened → List ℕ → Opening
opening r f = record { number = number_of r; offset = offset_of r; places = places_of r; finder = f }

-- ---- the call

-- "(13: the finder is short", and "Numbers from 13 on zero every lent output"; else the sheet's finder l, and "places past these stay as lent"
unfoldable pub filled : List ℕ → List ℕ → Opening
filled l f =
    cond (leb (length l) (length f))
    (opening (Ok (length l)) (l ++ drop (length l) f))
    (opening (Err (NoRoom (length l))) (replicate (length f) 0))

-- questions 1 to 7 by the sheet's own check, which "touch no memory"; "asked after 6"
abbrev pub checked_opening : Checked → List ℕ → List ℕ → Opening
checked_opening (Err e) l f = opening (Err (Sheet e)) f
checked_opening (Ok counts) l f = filled l f

unfoldable pub opening_of : List ℕ → List ℕ → Opening
opening_of s f = checked_opening (check_sheet s) (finder_of s) f
