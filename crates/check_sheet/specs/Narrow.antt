-- Document 02's paper 4, "Narrower offsets": what it says of questions 1 to 7.
-- A statement only. Assumes nothing.
use Rattle.std.specs.Prelude.{◌≡◌, ℕ, ◌≤◌, List, ◌∷◌, ◌++◌, length, Err}
use Rattle.walk.specs.Offsets.{max_sheet_bytes, offsets}
use Rattle.walk.specs.Every.{All}
use Rattle.walk.specs.Narrow.{ReachesPast}
use Rattle.check_record.specs.Record.{Right}
use Rattle.check_record.specs.declared.RecordError.TheVariants as no
use Rattle.check_sheet.specs.declared.SheetError.TheVariants.{Record}
use Rattle.check_sheet.specs.Check.{check_sheet}

-- "The result keeps its width and meaning, also where a length field is FFFFFFFF": behind records that are right, a record that says it
-- reaches past the end is refused for its frame, number 2, at its own offset, wherever it stands.
abbrev pub LongLengthIsRefused : Type 0
LongLengthIsRefused =
    (s before after : List ℕ) (at : ℕ) → length s ≤ max_sheet_bytes → offsets s ≡ before ++ at ∷ after → All (Right s) before → ReachesPast s at
    → check_sheet s ≡ Err (Record no.Frame at)
