-- THE OUTCOME OF A CALL WITH A FINDER: document 02, paper 1, "(13: the finder is short or, when planning, differs from the sheet's; asked after 6.)"
-- The contract of `plan_with_finder` equates a call to `outcome_with`.
-- Definitions only; rests on the rules' outcome of a call and on which lists belong to a sheet.
use Rattle.std.specs.Prelude.{cond, List, ℕ, length, replicate, Ok, Err}
use Rattle.std.specs.Borrow.{Bor, MutBor}
use Rattle.abstract_sheet.specs.Sheet.{sheet_of}
use Rattle.check_sheet.specs.Check.{Checked, check_sheet}
use Rattle.finder.specs.Finder.{belongs}
use Rattle.plan_rules.specs.declared.refusal.PlanError.TheVariants as error
use Rattle.plan_rules.specs.declared.SceneOptions.{SceneOptions}
use Rattle.plan_rules.specs.Limits.{max_depth}
use Rattle.plan_rules.specs.World.{Query}
use Rattle.plan_rules.specs.Outcome.{Outcome, outcome, refused, sound_outcome_up_to}
use Rattle.plan_rules.specs.OnTape.{asked}

-- "A finder that doesn't belong to the sheet is turned away, not trusted." From number 13 on a refusal zeroes every lent output and all scratch.
unfoldable pub turned_away : List ℕ → List ℕ → List ℕ → Outcome
turned_away o k m = refused 13 0 (replicate (length o) 0) (replicate (length k) 0) (replicate (length m) 0)

-- After the sheet's own check (number 6 is its last no) and before questions 8 to 12. First the greatest depth that question 10 lets pass.
abbrev pub checked_with_up_to : ℕ → Checked → List ℕ → List ℕ → Query → List ℕ → List ℕ → List ℕ → Outcome
checked_with_up_to deepest (Err e) s finder q o k m = outcome (Err (error.Sheet e)) o k m
checked_with_up_to deepest (Ok counts) s finder q o k m = cond (belongs finder s) (sound_outcome_up_to deepest (sheet_of s) counts.cells q o k m) (turned_away o k m)

unfoldable pub outcome_with_up_to : ℕ → List ℕ → List ℕ → Query → List ℕ → List ℕ → List ℕ → Outcome
outcome_with_up_to deepest s finder q o k m = checked_with_up_to deepest (check_sheet s) s finder q o k m

-- with question 10 as it is asked
abbrev pub outcome_with : List ℕ → List ℕ → Query → List ℕ → List ℕ → List ℕ → Outcome
outcome_with = outcome_with_up_to max_depth

-- the same of what a call is lent
abbrev pub finder_outcome : Bor (List ℕ) → Bor (List ℕ) → SceneOptions → Bor (List ℕ) → MutBor (List ℕ) → MutBor (List ℕ) → MutBor (List ℕ) → Outcome
finder_outcome sheet finder options hidden out counts marks =
    outcome_with sheet.now finder.now (asked options hidden.now) out.now counts.now marks.now
