-- Where a number of a kind is found: document 01's "Items count from 0 within their kind", and document 02, paper 1, "Past that check no look-up by
-- number walks the records".
-- Definitions only. Assumes nothing.
use Rattle.std.specs.Prelude.{ℕ, ◌+◌, cond, List, length, get_or, ltb, eqb}
use Rattle.walk.specs.Find.{Found}
use Rattle.std.specs.Prelude.{Some, None}
use Rattle.walk.specs.Find.{find}
use Rattle.abstract_sheet.specs.Sheet.{Sheet, sheet_by}
use Rattle.check_sheet.specs.declared.Counts.{Counts}
use Rattle.look_up.specs.Places.{count_for, start_for}

-- what stands at a place of a list, if the list has it
unfoldable pub placed : List ℕ → ℕ → Found
placed f place = cond (ltb place (length f)) (Some (get_or f place 0)) None

-- "by kind and then by number": in the finder of a sheet with these counts
unfoldable pub look_in : List ℕ → Counts → ℕ → ℕ → Found
look_in f c kind n = cond (ltb n (count_for c kind)) (placed f (start_for c kind + n)) None

-- by the walk over the sheet's records where no finder is lent: an empty list is none
unfoldable pub look : List ℕ → List ℕ → Counts → ℕ → ℕ → Found
look s f c kind n = cond (eqb (length f) 0) (find s kind n) (look_in f c kind n)

-- the sheet as a planner sees it that is lent a list beside it: the sheet itself where the list is its finder, or empty
abbrev pub sheet_with : List ℕ → List ℕ → Counts → Sheet
sheet_with s f c = sheet_by (look s f c) s
