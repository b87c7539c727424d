-- The whole outcome of a call: the answer, and what stands in every lent place after it. The entry point's contract equates a call to `outcome_of`.
-- Document 01, "Before a plan: the questions": questions 1 to 12 in order, "The first no is given".
-- Definitions only; rests on the sheet's questions (1 to 7), the query's (8 to 11), `Plan` and `Tape`.
use Rattle.std.specs.Prelude.{cond, List, [], ◌++◌, ℕ, length, drop, replicate, leb, eqb, Result, Ok, Err}
use Rattle.abstract_sheet.specs.Sheet.{Sheet, sheet_of}
use Rattle.check_sheet.specs.Check as sheet_check
use Rattle.check_sheet.specs.Check.{Checked, check_sheet}
use Rattle.plan_rules.specs.declared.refusal.PlanError.{PlanError}
use Rattle.plan_rules.specs.declared.refusal.PlanError.TheVariants as error
use Rattle.plan_rules.specs.Limits.{max_depth}
use Rattle.plan_rules.specs.Event.{Event, empty_plan, saturate, Step}
use Rattle.plan_rules.specs.World.{Query, World, world}
use Rattle.plan_rules.specs.Scratch.{counts_named, marks_named}
use Rattle.plan_rules.specs.Plan.{plan}
use Rattle.plan_rules.specs.Tape.{no_tag, note, tape}
use Rattle.plan_rules.specs.Questions.{query_number, query_refusal_up_to}

-- the tape's length, or why the call is refused
abbrev pub Answer : Type 0
Answer = Result ℕ PlanError

-- ---- an answer in document 01's numbers: the refusal's number (0 for a plan), its offset, and the tape's length, known at number 12 too

abbrev pub error_number : PlanError → ℕ
error_number (error.Sheet e) = sheet_check.error_number e
error_number (error.Query e) = query_number e
error_number (error.NoRoom length) = 12
error_number error.WrongFinder = 13

abbrev pub error_offset : PlanError → ℕ
error_offset (error.Sheet e) = sheet_check.error_offset e
error_offset (error.Query e) = 0
error_offset (error.NoRoom length) = 0
error_offset error.WrongFinder = 0

abbrev pub error_length : PlanError → ℕ
error_length (error.Sheet e) = 0
error_length (error.Query e) = 0
error_length (error.NoRoom length) = length
error_length error.WrongFinder = 0

abbrev pub number_of : Answer → ℕ
number_of (Ok length) = 0
number_of (Err e) = error_number e

abbrev pub offset_of : Answer → ℕ
offset_of (Ok length) = 0
offset_of (Err e) = error_offset e

abbrev pub length_of : Answer → ℕ
length_of (Ok length) = length
length_of (Err e) = error_length e

-- "Each entry point's contract determines number, offset, tape and every lent place after the call"
pub record Outcome : Type 0 where
  pub number : ℕ
  pub offset : ℕ
  pub tape_length : ℕ
  pub out : List ℕ
  pub counts : List ℕ
  pub marks : List ℕ

-- what a call answered and left in the lent places
abbrev pub outcome : Answer → List ℕ → List ℕ → List ℕ → Outcome
outcome a o k m = record { number = number_of a; offset = offset_of a; tape_length = length_of a; out = o; counts = k; marks = m }

-- a refusal by its number and offset, without a tape
abbrev pub refused : ℕ → ℕ → List ℕ → List ℕ → List ℕ → Outcome
refused number offset o k m = record { number = number; offset = offset; tape_length = 0; out = o; counts = k; marks = m }

-- ---- the tape of a plan that starts from zeroed scratch

-- the plan, for any tag and any end
unfoldable pub fresh_plan : {P A : Type 0} → (Step → P → P) → (P → Event → ℕ → A → A) → Sheet → ℕ → Query → P → A → World A
fresh_plan enter emit S cells q t o =
    plan enter emit S cells q t (world empty_plan o (replicate (counts_named cells q.depth) 0) (replicate (marks_named cells q.depth) 0))

-- the records in order, totals last
unfoldable pub tape_of : Sheet → ℕ → Query → List ℕ
tape_of S cells q = tape (fresh_plan no_tag note S cells q tt []).out

-- ---- the call

-- the first n places zero, the rest as lent
unfoldable pub zeroed : ℕ → List ℕ → List ℕ
zeroed n l = replicate n 0 ++ drop n l

-- Question 12, "Does the whole tape fit the lent output?" "Number 12 zeroes the whole output. It and an accepted plan leave the named scratch places zero
-- and the rest as lent; a plan leaves output past the tape as lent." The tape's length is told either way; the code counts it up to 2^64 − 1.
unfoldable pub delivered : List ℕ → ℕ → ℕ → List ℕ → List ℕ → List ℕ → Outcome
delivered t countsUsed marksUsed o k m =
    cond (leb (length t) (length o))
    (outcome (Ok (length t)) (t ++ drop (length t) o) (zeroed countsUsed k) (zeroed marksUsed m))
    (outcome (Err (error.NoRoom (saturate (length t)))) (replicate (length o) 0) (zeroed countsUsed k) (zeroed marksUsed m))

-- Questions 8 to 11, then 12, for the greatest depth that is answered and a sheet of so many cells: the first no, or the plan. "Numbers 1 to 11 touch no memory."
unfoldable pub sound_outcome_up_to : ℕ → Sheet → ℕ → Query → List ℕ → List ℕ → List ℕ → Outcome
sound_outcome_up_to deepest S cells q o k m =
    let refusal = query_refusal_up_to deepest q.view q.zoom q.depth cells (length k) (length m) in
    cond (eqb refusal 0)
    (delivered (tape_of S cells q) (counts_named cells q.depth) (marks_named cells q.depth) o k m)
    (refused refusal 0 o k m)

-- Questions 1 to 7 by the sheet's own check, then the others
abbrev pub checked_outcome_up_to : ℕ → Checked → Sheet → Query → List ℕ → List ℕ → List ℕ → Outcome
checked_outcome_up_to deepest (Err e) S q o k m = outcome (Err (error.Sheet e)) o k m
checked_outcome_up_to deepest (Ok counts) S q o k m = sound_outcome_up_to deepest S counts.cells q o k m

unfoldable pub outcome_up_to : ℕ → List ℕ → Query → List ℕ → List ℕ → List ℕ → Outcome
outcome_up_to deepest s q o k m = checked_outcome_up_to deepest (check_sheet s) (sheet_of s) q o k m

-- ---- the same with question 10 as it is asked: `max_depth`

abbrev pub sound_outcome : Sheet → ℕ → Query → List ℕ → List ℕ → List ℕ → Outcome
sound_outcome = sound_outcome_up_to max_depth

abbrev pub outcome_of : List ℕ → Query → List ℕ → List ℕ → List ℕ → Outcome
outcome_of = outcome_up_to max_depth
