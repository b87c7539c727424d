-- What a sheet is that passes questions 1 to 7. The answer is sound just where the sheet is valid (`sound-valid`, `valid-sound`).
-- Definitions only. Assumes nothing.
use Rattle.std.specs.Prelude.{◌≡◌, ℕ, ◌≤◌, List, [], ◌∷◌, true, length}
use Rattle.walk.specs.Offsets.{max_sheet_bytes, kind_at, offsets}
use Rattle.walk.specs.Find.{count_of}
use Rattle.walk.specs.Every.{All}
use Rattle.records.specs.Format.{max_cells}
use Rattle.check_record.specs.Record.{Right}
use Rattle.check_sheet.specs.declared.Counts.{Counts}
use Rattle.check_sheet.specs.Count.{counts_of, tallied}
use Rattle.check_sheet.specs.Links.{link_ok}

-- what each record of a list names exists, where own is the number of the first reference among them
abbrev pub AllNamed : List ℕ → Counts → ℕ → List ℕ → Type 0
AllNamed s c own [] = Unit
AllNamed s c own (at ∷ xs) = (link_ok s c own at ≡ true) × AllNamed s c (tallied own (kind_at s at) 4) xs

pub record Valid (s : List ℕ) : Type 0 where
  -- question 1
  pub short : length s ≤ max_sheet_bytes
  -- questions 2 to 5 of every record
  pub records : All (Right s) (offsets s)
  -- question 6
  pub few_cells : count_of s 5 ≤ max_cells
  -- question 7 of every record
  pub named : AllNamed s (counts_of s) 0 (offsets s)
