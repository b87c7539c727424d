-- AN ACCEPTED CALL: the sheet is sound, the query passed questions 8 to 11, and the output is the tape and then what was lent.
-- Assumes nothing.
use mathlib.Core.Path.{◌≡◌, refl, sym, ap, ◌∙◌}
use mathlib.Core.Bool.{Bool, true, false, cond}
use mathlib.Core.List.{List, ◌++◌}
use Prim.Native.Nat.{ℕ}
use native.Mathlib.Omega.{arith}
use lib.ListN.{length, drop}
use lib.Dec.{leb}
use Rattle.abstract_sheet.specs.Sheet.{Sheet, sheet_of}
use Rattle.check_sheet.specs.declared.Counts.{Counts}
use Rattle.std.specs.Prelude.{Ok, Err}
use Rattle.check_sheet.specs.Check.{Checked, check_sheet}
use Rattle.check_sheet.proofs.Numbered.{numbered}
use Rattle.plan_rules.specs.declared.refusal.PlanError.TheVariants as error
use Rattle.plan_rules.specs.Limits.{max_depth}
use Rattle.plan_rules.specs.World.{Query}
use Rattle.plan_rules.specs.Scratch.{counts_named, marks_named}
use Rattle.plan_rules.specs.Questions.{query_refusal}
use Rattle.plan_rules.specs.Outcome.{Outcome, outcome, tape_of, zeroed, delivered, sound_outcome, checked_outcome_up_to, outcome_up_to, outcome_of}
use Rattle.plan_rules.proofs.OutcomeTheorem.{query_passed, accepted_passed}

-- ---- question 12

-- an outcome with number 0 is no refusal
unrefused : (b : Bool) (x : Outcome) (n : ℕ) (o k m : List ℕ) → (cond b x (outcome (Err (error.NoRoom n)) o k m)).number ≡ 0 → cond b x (outcome (Err (error.NoRoom n)) o k m) ≡ x
unrefused true x n o k m e = refl
unrefused false x n o k m e = absurd (let y : ⊥ = omega arith in y)

fitted : (t : List ℕ) (nk nm : ℕ) (o k m : List ℕ) → (delivered t nk nm o k m).number ≡ 0
    → delivered t nk nm o k m ≡ outcome (Ok (length t)) (t ++ drop (length t) o) (zeroed nk k) (zeroed nm m)
unfolding delivered
fitted t nk nm o k m e = unrefused (leb (length t) (length o)) _ _ _ _ _ e

-- ---- questions 1 to 12

-- the outcome that leaves the tape of a sheet with so many cells
abbrev planned_outcome : Sheet → ℕ → Query → List ℕ → List ℕ → List ℕ → Outcome
planned_outcome S cells q o k m =
    let t = tape_of S cells q in
    outcome (Ok (length t)) (t ++ drop (length t) o) (zeroed (counts_named cells q.depth) k) (zeroed (marks_named cells q.depth) m)

pub record AcceptedOutcome (s : List ℕ) (q : Query) (o k m : List ℕ) : Type 0 where
  pub counts : Counts
  pub sound : check_sheet s ≡ Ok counts
  pub passed : query_refusal q.view q.zoom q.depth counts.cells (length k) (length m) ≡ 0
  pub planned : outcome_of s q o k m ≡ planned_outcome (sheet_of s) counts.cells q o k m

sound_planned : (S : Sheet) (cells : ℕ) (q : Query) (o k m : List ℕ) → (sound_outcome S cells q o k m).number ≡ 0 → sound_outcome S cells q o k m ≡ planned_outcome S cells q o k m
sound_planned S cells q o k m e =
    let delivering = query_passed max_depth S cells q o k m (accepted_passed max_depth S cells q o k m e) in
    delivering ∙ fitted _ _ _ o k m (ap (λ (x : Outcome). x.number) (sym delivering) ∙ e)

pub accepted_outcome : (s : List ℕ) (q : Query) (o k m : List ℕ) → (outcome_of s q o k m).number ≡ 0 → AcceptedOutcome s q o k m
unfolding outcome_up_to
accepted_outcome s q o k m e = by (check_sheet s) refl e
  where
    by : (x : Checked) → check_sheet s ≡ x → (checked_outcome_up_to max_depth x (sheet_of s) q o k m).number ≡ 0 → AcceptedOutcome s q o k m
    by (Err x) h e = absurd (let y : ⊥ = omega (arith, (numbered x).positive) in y)
    by (Ok c) h e =
        record {
          counts = c;
          sound = h;
          passed = accepted_passed max_depth (sheet_of s) c.cells q o k m e;
          planned = ap (λ (x : Checked). checked_outcome_up_to max_depth x (sheet_of s) q o k m) h ∙ sound_planned (sheet_of s) c.cells q o k m e;
        }
