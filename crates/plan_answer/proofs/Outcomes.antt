-- Which answer an outcome tells of: a refusal's number is not 0, a plan's tape is not empty, and it lies within the lent output.
-- Assumes nothing.
use mathlib.Core.Path.{◌≡◌, refl, sym, subst}
use mathlib.Core.Bool.{Bool, true, false, cond}
use mathlib.Core.List.{List, [], ◌∷◌}
use Prim.Native.Nat.{ℕ, zero, suc, ◌≤◌, ◌<◌}
use native.Mathlib.Omega.{arith}
use lib.ListN.{length, drop, replicate, length-append}
use lib.Dec.{leb}
use Rattle.fields.proofs.Writing.{length-record_bytes}
use Rattle.abstract_sheet.specs.Sheet.{Sheet, sheet_of}
use Rattle.std.specs.Prelude.{Ok, Err}
use Rattle.check_sheet.specs.Check.{Checked, check_sheet}
use Rattle.check_sheet.proofs.Numbered.{numbered}
use Rattle.plan_rules.specs.declared.refusal.PlanError.TheVariants.{NoRoom}
use Rattle.plan_rules.specs.declared.ScenePlan.{ScenePlan}
use Rattle.plan_rules.specs.Event.{Event, fields_of, encode, empty_plan, totals}
use Rattle.plan_rules.specs.World.{Query, world}
use Rattle.plan_rules.specs.Scratch.{counts_named, marks_named}
use Rattle.plan_rules.specs.Push.{say}
use Rattle.plan_rules.specs.Plan.{visit_root, plan}
use Rattle.plan_rules.specs.Tape.{no_tag, note, tape}
use Rattle.plan_rules.specs.Limits.{max_depth}
use Rattle.plan_rules.specs.Questions.{query_refusal}
use Rattle.plan_rules.specs.Outcome.{Outcome, outcome, refused, fresh_plan, tape_of, delivered, sound_outcome, checked_outcome_up_to, outcome_up_to, outcome_of}
use Rattle.plan_rules.proofs.OutcomeTheorem.{query_refused, query_passed}

-- ---- a tape is not empty: it ends with its totals

length_totals : (s : ScenePlan) → length (encode (totals s)) ≡ 62
unfolding encode
length_totals s = length-record_bytes (fields_of (totals s))

tape_ends : (l : List (Unit {0} × Event)) (s : ScenePlan) → 0 < length (tape ((tt, totals s) ∷ l))
tape_ends l s = omega (arith, length-append (tape l) (encode (totals s)), length_totals s)

tape_not_empty : (S : Sheet) (cells : ℕ) (q : Query) → 0 < length (tape_of S cells q)
unfolding tape_of fresh_plan plan say
tape_not_empty S cells q =
    let v = visit_root no_tag note S cells q q.depth tt (world empty_plan [] (replicate (counts_named cells q.depth) 0) (replicate (marks_named cells q.depth) 0)) in
    tape_ends v.out v.state

-- ---- outcomes

pub record Told (c : Outcome) : Type 0 where
  pub planned : c.number ≡ 0 → 0 < c.tape_length
  pub within : c.number ≡ 0 → c.tape_length ≤ length c.out

told_if : (b : Bool) {x y : Outcome} → Told x → Told y → Told (cond b x y)
told_if true p q = p
told_if false p q = q

told_refused : (number offset : ℕ) (o k m : List ℕ) → 0 < number → Told (refused number offset o k m)
told_refused number offset o k m h = record { planned = λ e. absurd (omega arith); within = λ e. absurd (omega arith) }

told_no_room : (n : ℕ) (o k m : List ℕ) → Told (outcome (Err (NoRoom n)) o k m)
told_no_room n o k m = record { planned = λ e. absurd (omega arith); within = λ e. absurd (omega arith) }

module _ (S : Sheet) (cells : ℕ) (q : Query) (o k m : List ℕ) where
  abbrev nk : ℕ
  nk = counts_named cells q.depth

  abbrev nm : ℕ
  nm = marks_named cells q.depth

  told_delivered : Told (delivered (tape_of S cells q) nk nm o k m)
  unfolding delivered
  told_delivered =
      told_if (leb (length (tape_of S cells q)) (length o))
      (record { planned = λ e. tape_not_empty S cells q; within = λ e. omega (arith, length-append (tape_of S cells q) (drop (length (tape_of S cells q)) o)) })
      (told_no_room _ _ _ _)

  told_sound : Told (sound_outcome S cells q o k m)
  told_sound = by (query_refusal q.view q.zoom q.depth cells (length k) (length m)) refl
    where
      by : (n : ℕ) → n ≡ query_refusal q.view q.zoom q.depth cells (length k) (length m) → Told (sound_outcome S cells q o k m)
      by zero e = subst Told (sym (query_passed max_depth S cells q o k m (sym e))) told_delivered
      by (suc n) e = subst Told (sym (query_refused max_depth S cells q o k m e (λ z. omega arith))) (told_refused (suc n) 0 o k m (omega arith))

told_checked : (c : Checked) (S : Sheet) (q : Query) (o k m : List ℕ) → Told (checked_outcome_up_to max_depth c S q o k m)
told_checked (Err x) S q o k m = told_refused _ _ o k m (numbered x).positive
told_checked (Ok counts) S q o k m = told_sound S counts.cells q o k m

pub told : (s : List ℕ) (q : Query) (o k m : List ℕ) → Told (outcome_of s q o k m)
unfolding outcome_up_to
told s q o k m = told_checked (check_sheet s) (sheet_of s) q o k m
