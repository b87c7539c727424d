-- DEEPER SHEETS: document 02, paper 13, as statements about the outcome of a call. Proofs: `Deeper` in proofs/.
-- Definitions only; rests on `Questions` and `Outcome`, whose question 10 is asked of a greatest depth.
use Rattle.std.specs.Prelude.{◌≡◌, true, false, List, ℕ, ◌≤◌, ◌<◌, length, Ok}
use Rattle.abstract_sheet.specs.Sheet.{sheet_of}
use Rattle.check_sheet.specs.declared.Counts.{Counts}
use Rattle.check_sheet.specs.Check.{check_sheet}
use Rattle.plan_rules.specs.Limits.{max_depth}
use Rattle.plan_rules.specs.World.{Query}
use Rattle.plan_rules.specs.Scratch.{counts_named, marks_named}
use Rattle.plan_rules.specs.Questions.{view_ok, zoom_ok, has_scratch}
use Rattle.plan_rules.specs.Outcome.{refused, tape_of, delivered, outcome_up_to, outcome_of}

-- Document 01, question 10: "Is depth at most 32?"
abbrev pub former_max_depth : ℕ
former_max_depth = 32

-- "up to 32 every answer is what it was": number, offset, tape and every lent place are those of the former question.
abbrev pub FormerAnswersStay : Type 0
FormerAnswersStay = (s : List ℕ) (q : Query) (o k m : List ℕ) → q.depth ≤ former_max_depth → outcome_of s q o k m ≡ outcome_up_to former_max_depth s q o k m

-- a call whose sheet, view and zoom pass the questions before question 10
pub record Reaches10 (s : List ℕ) (q : Query) (counts : Counts) : Type 0 where
  pub sound : check_sheet s ≡ Ok counts
  pub view : view_ok q.view ≡ true
  pub zoom : zoom_ok q.zoom ≡ true

-- "Only depth above 48 gets number 10",
abbrev pub OnlyDeeperIsTooDeep : Type 0
OnlyDeeperIsTooDeep = (s : List ℕ) (q : Query) (o k m : List ℕ) → (outcome_of s q o k m).number ≡ 10 → max_depth < q.depth

-- and such a depth gets it, whatever is lent, where sheet, view and zoom pass. Of the former question the same holds above 32.
abbrev pub DeeperIsTooDeep : ℕ → Type 0
DeeperIsTooDeep deepest = (s : List ℕ) (q : Query) (o k m : List ℕ) (counts : Counts) → Reaches10 s q counts → deepest < q.depth
    → outcome_up_to deepest s q o k m ≡ refused 10 0 o k m

-- "Depth 33 to 48 is answered now, with scratch by the same formula": where the named places are there, the plan's tape is delivered, or too long for the output,
abbrev pub DeepIsAnswered : Type 0
DeepIsAnswered = (s : List ℕ) (q : Query) (o k m : List ℕ) (counts : Counts) → Reaches10 s q counts → q.depth ≤ max_depth
    → has_scratch counts.cells q.depth (length k) (length m) ≡ true
    → outcome_of s q o k m ≡ delivered (tape_of (sheet_of s) counts.cells q) (counts_named counts.cells q.depth) (marks_named counts.cells q.depth) o k m

-- and with a place less the call is refused with number 11.
abbrev pub DeepNeedsScratch : Type 0
DeepNeedsScratch = (s : List ℕ) (q : Query) (o k m : List ℕ) (counts : Counts) → Reaches10 s q counts → q.depth ≤ max_depth
    → has_scratch counts.cells q.depth (length k) (length m) ≡ false → outcome_of s q o k m ≡ refused 11 0 o k m
