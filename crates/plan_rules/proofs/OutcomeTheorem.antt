-- The outcome of a call by code path: one law for each answer, its premises the outcomes of the questions. And the tape theorem for the outcome:
-- what the run that writes leaves is what the outcome says, and its tape's end decides question 12. Questions 1 to 11 are laws over the greatest depth that question 10 lets pass.
-- Assumes nothing.
use mathlib.Core.Path.{◌≡◌, refl, sym, ap, ◌∙◌}
use mathlib.Core.Bool.{Bool, true, false, cond}
use mathlib.Core.List.{List}
use Prim.Native.Nat.{ℕ, zero, suc, ◌≤◌, ◌<◌}
use native.Mathlib.Omega.{arith}
use lib.ListN.{length, replicate}
use lib.Dec.{leb}
use borrow.Author.Tests.{le-leb, lt-leb, leb-true, leb-false, ne_eqb}
use Rattle.abstract_sheet.specs.Sheet.{Sheet, sheet_of}
use Rattle.check_sheet.specs.declared.Counts.{Counts}
use Rattle.std.specs.Prelude.{Ok, Err}
use Rattle.check_sheet.specs.declared.SheetError.{SheetError}
use Rattle.check_sheet.specs.Check.{Checked, check_sheet}
use Rattle.plan_rules.specs.declared.refusal.PlanError.TheVariants as error
use Rattle.plan_rules.specs.Limits.{max_total}
use Rattle.plan_rules.specs.World.{Query, World}
use Rattle.plan_rules.specs.Scratch.{counts_named, marks_named}
use Rattle.plan_rules.specs.Tape.{no_tag, on_tape}
use Rattle.plan_rules.specs.Questions.{query_refusal_up_to}
use Rattle.plan_rules.specs.Outcome.{Outcome, outcome, refused, fresh_plan, tape_of, zeroed, delivered, sound_outcome_up_to, checked_outcome_up_to, outcome_up_to}
use Rattle.plan_rules.proofs.TapeTheorem.{same_output_length, tape_end_lem, fits_by_end, exceeds_by_end, the_tape}

-- ---- questions 1 to 7

module _ (deepest : ℕ) (s : List ℕ) (q : Query) (o k m : List ℕ) where
  pub sheet_refused : (x : SheetError) → check_sheet s ≡ Err x → outcome_up_to deepest s q o k m ≡ outcome (Err (error.Sheet x)) o k m
  unfolding outcome_up_to
  sheet_refused x e = ap (λ (c : Checked). checked_outcome_up_to deepest c (sheet_of s) q o k m) e

  pub sheet_sound : (counts : Counts) → check_sheet s ≡ Ok counts → outcome_up_to deepest s q o k m ≡ sound_outcome_up_to deepest (sheet_of s) counts.cells q o k m
  unfolding outcome_up_to
  sheet_sound counts e = ap (λ (c : Checked). checked_outcome_up_to deepest c (sheet_of s) q o k m) e

module _ (S : Sheet) (cells : ℕ) (q : Query) (o k m : List ℕ) where
  abbrev nk : ℕ
  nk = counts_named cells q.depth

  abbrev nm : ℕ
  nm = marks_named cells q.depth

  -- ---- question 12

  -- the run that writes, from zeroed scratch
  abbrev pub written : World (List ℕ)
  written = fresh_plan no_tag on_tape S cells q tt o

  pub written_length : length written.out ≡ length o
  unfolding fresh_plan
  written_length = same_output_length no_tag S cells q tt o (replicate nk 0) (replicate nm 0)

  delivered_planned : length o < max_total → written.state.tape_end ≤ length o → delivered (tape_of S cells q) nk nm o k m ≡ outcome (Ok written.state.tape_end) written.out (zeroed nk k) (zeroed nm m)
  unfolding delivered tape_of fresh_plan
  delivered_planned small h =
      let fits = fits_by_end no_tag S cells q tt o (replicate nk 0) (replicate nm 0) small h in
      let t = the_tape no_tag S cells q tt o (replicate nk 0) (replicate nm 0) small fits in
      rw (le-leb _ _ fits, t.0, t.1)

  delivered_no_room : length o < written.state.tape_end → delivered (tape_of S cells q) nk nm o k m ≡ outcome (Err (error.NoRoom written.state.tape_end)) (replicate (length o) 0) (zeroed nk k) (zeroed nm m)
  unfolding delivered tape_of fresh_plan
  delivered_no_room h =
      rw (lt-leb _ _ (exceeds_by_end no_tag S cells q tt o (replicate nk 0) (replicate nm 0) h), ← tape_end_lem no_tag S cells q tt o (replicate nk 0) (replicate nm 0))

  -- THE TAPE OF A CALL: what a run that writes leaves, read as an outcome
  unfoldable pub written_outcome : Outcome
  written_outcome =
      cond (leb written.state.tape_end (length o))
      (outcome (Ok written.state.tape_end) written.out (zeroed nk k) (zeroed nm m))
      (outcome (Err (error.NoRoom written.state.tape_end)) (replicate (length o) 0) (zeroed nk k) (zeroed nm m))

  pub delivered_is_written : length o < max_total → delivered (tape_of S cells q) nk nm o k m ≡ written_outcome
  unfolding written_outcome
  delivered_is_written small = by (leb written.state.tape_end (length o)) refl
    where
      by : (t : Bool) → leb written.state.tape_end (length o) ≡ t
          → delivered (tape_of S cells q) nk nm o k m ≡ cond t (outcome (Ok written.state.tape_end) written.out (zeroed nk k) (zeroed nm m)) (outcome (Err (error.NoRoom written.state.tape_end)) (replicate (length o) 0) (zeroed nk k) (zeroed nm m))
      by true e = delivered_planned small (leb-true _ _ e)
      by false e = delivered_no_room (leb-false _ _ e)

-- ---- questions 8 to 11

module _ (deepest : ℕ) (S : Sheet) (cells : ℕ) (q : Query) (o k m : List ℕ) where
  abbrev refusal : ℕ
  refusal = query_refusal_up_to deepest q.view q.zoom q.depth cells (length k) (length m)

  pub query_refused : {n : ℕ} → n ≡ refusal → (n ≡ 0 → ⊥) → sound_outcome_up_to deepest S cells q o k m ≡ refused n 0 o k m
  unfolding sound_outcome_up_to
  query_refused {n} e nonzero = rw (← e, ne_eqb n 0 nonzero)

  pub query_passed : refusal ≡ 0 → sound_outcome_up_to deepest S cells q o k m ≡ delivered (tape_of S cells q) (counts_named cells q.depth) (marks_named cells q.depth) o k m
  unfolding sound_outcome_up_to
  query_passed e = rw e

  pub accepted_passed : (sound_outcome_up_to deepest S cells q o k m).number ≡ 0 → refusal ≡ 0
  accepted_passed accepted = by refusal refl
    where
      by : (n : ℕ) → n ≡ refusal → refusal ≡ 0
      by zero e = sym e
      by (suc n) e =
          let number : 0 ≡ suc n = sym accepted ∙ ap (λ (x : Outcome). x.number) (query_refused e (λ z. omega arith)) in
          absurd (let z : ⊥ = omega arith in z)
