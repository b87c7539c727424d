-- Question 13 by code path, and what a call with a finder and one without have in common: the statements of `Agreement`.
-- Assumes nothing.
use mathlib.Core.Path.{◌≡◌, refl, sym, ap, ◌∙◌}
use mathlib.Core.Logic.{◌⊎◌, inl, inr}
use mathlib.Core.Bool.{Bool, true, false}
use mathlib.Core.List.{List, [], ◌++◌}
use Prim.Native.Nat.{ℕ}
use native.Mathlib.Omega.{arith}
use lib.Seq.{drop-append_seam}
use Rattle.abstract_sheet.specs.Sheet.{Sheet, sheet_of}
use Rattle.check_sheet.specs.declared.Counts.{Counts}
use Rattle.std.specs.Prelude.{Ok, Err}
use Rattle.check_sheet.specs.Check.{Checked, check_sheet}
use Rattle.check_sheet.specs.declared.SheetError.{SheetError}
use Rattle.check_sheet.proofs.Valid.{valid_sound, sound_counts}
use Rattle.look_up.specs.Look.{sheet_with}
use Rattle.finder.specs.Finder.{finder_of, belongs}
use Rattle.finder.proofs.SheetBy.{own_finder_gives_the_sheet, no_finder_gives_the_sheet}
use Rattle.finder.proofs.TurnedAway.{starting_with_the_finder_belongs, short_is_turned_away, different_is_turned_away}
use Rattle.plan_rules.specs.declared.refusal.PlanError.TheVariants as error
use Rattle.plan_rules.specs.Limits.{max_depth}
use Rattle.plan_rules.specs.World.{Query}
use Rattle.plan_rules.specs.OnTape.{asked}
use Rattle.plan_rules.specs.Outcome.{Outcome, outcome, sound_outcome, outcome_of}
use Rattle.plan_rules.proofs.OutcomeTheorem.{sheet_refused, sheet_sound}
use Rattle.planner.specs.WithFinder.{turned_away, checked_with_up_to, outcome_with_up_to, outcome_with}
use Rattle.planner.specs.Agreement.{OwnFinderAgrees, RefusedSheetAgrees, DifferentFinderIsRefused, ShortFinderIsRefused, AcceptedWithIsAccepted}

module _ (s finder : List ℕ) (q : Query) (o k m : List ℕ) where
  pub with_refused : (x : SheetError) → check_sheet s ≡ Err x → outcome_with s finder q o k m ≡ outcome (Err (error.Sheet x)) o k m
  unfolding outcome_with_up_to
  with_refused x e = ap (λ (c : Checked). checked_with_up_to max_depth c s finder q o k m) e

  -- the same as without a finder
  refused_agrees : (x : SheetError) → check_sheet s ≡ Err x → outcome_with s finder q o k m ≡ outcome_of s q o k m
  refused_agrees x e = with_refused x e ∙ sym (sheet_refused max_depth s q o k m x e)

  module _ (counts : Counts) (sound : check_sheet s ≡ Ok counts) where
    pub with_own : belongs finder s ≡ true → outcome_with s finder q o k m ≡ sound_outcome (sheet_of s) counts.cells q o k m
    unfolding outcome_with_up_to
    with_own own = ap (λ (c : Checked). checked_with_up_to max_depth c s finder q o k m) sound ∙ rw own

    pub with_foreign : belongs finder s ≡ false → outcome_with s finder q o k m ≡ turned_away o k m
    unfolding outcome_with_up_to
    with_foreign foreign = ap (λ (c : Checked). checked_with_up_to max_depth c s finder q o k m) sound ∙ rw foreign

    -- with the sheet's own finder the look-ups show the sheet
    pub own_seen : belongs finder s ≡ true → sound_outcome (sheet_with s finder counts) counts.cells q o k m ≡ outcome_with s finder q o k m
    own_seen own =
        let same = ap (λ (n : Counts). sheet_with s finder n) (sound_counts s counts sound) ∙ own_finder_gives_the_sheet s finder own in
        ap (λ (S : Sheet). sound_outcome S counts.cells q o k m) same ∙ sym (with_own own)

  -- with the sheet's own finder a call is one without
  pub own_agrees : belongs finder s ≡ true → outcome_with s finder q o k m ≡ outcome_of s q o k m
  own_agrees own = by_check (check_sheet s) refl
    where
      by_check : (c : Checked) → check_sheet s ≡ c → outcome_with s finder q o k m ≡ outcome_of s q o k m
      by_check (Err x) e = refused_agrees x e
      by_check (Ok counts) e = with_own counts e own ∙ sym (sheet_sound max_depth s q o k m counts e)

-- and without a finder they show it too
pub none_seen : (s : List ℕ) (q : Query) (o k m : List ℕ) (counts : Counts) → check_sheet s ≡ Ok counts
    → sound_outcome (sheet_with s [] counts) counts.cells q o k m ≡ outcome_of s q o k m
none_seen s q o k m counts sound =
    ap (λ (S : Sheet). sound_outcome S counts.cells q o k m) (no_finder_gives_the_sheet s counts) ∙ sym (sheet_sound max_depth s q o k m counts sound)

pub own_finder_agrees : OwnFinderAgrees
own_finder_agrees s more q o k m =
    own_agrees s (finder_of s ++ more) q o k m
    (starting_with_the_finder_belongs s (finder_of s ++ more) (ap (λ (l : List ℕ). finder_of s ++ l) (sym (drop-append_seam (finder_of s) more))))

pub refused_sheet_agrees : RefusedSheetAgrees
refused_sheet_agrees s finder q o k m x e = refused_agrees s finder q o k m x e

pub different_finder_is_refused : DifferentFinderIsRefused
unfolding turned_away
different_finder_is_refused s finder q o k m valid i below differs =
    with_foreign s finder q o k m _ (valid_sound s valid) (different_is_turned_away s finder i below differs)

pub short_finder_is_refused : ShortFinderIsRefused
unfolding turned_away
short_finder_is_refused s finder q o k m valid short = with_foreign s finder q o k m _ (valid_sound s valid) (short_is_turned_away s finder short)

-- whatever list is lent, a call with it is one without a finder, or turned away
pub agrees_or_turned_away : (s finder : List ℕ) (q : Query) (o k m : List ℕ) → (outcome_with s finder q o k m ≡ outcome_of s q o k m) ⊎ (outcome_with s finder q o k m ≡ turned_away o k m)
agrees_or_turned_away s finder q o k m = by_check (check_sheet s) refl (belongs finder s) refl
  where
    by_check : (c : Checked) → check_sheet s ≡ c → (b : Bool) → belongs finder s ≡ b → (outcome_with s finder q o k m ≡ outcome_of s q o k m) ⊎ (outcome_with s finder q o k m ≡ turned_away o k m)
    by_check c e true own = inl (own_agrees s finder q o k m own)
    by_check (Err x) e false foreign = inl (refused_agrees s finder q o k m x e)
    by_check (Ok counts) e false foreign = inr (with_foreign s finder q o k m counts e foreign)

not_turned_away : (s finder : List ℕ) (q : Query) (o k m : List ℕ) → (outcome_with s finder q o k m).number ≡ 0 → outcome_with s finder q o k m ≡ outcome_of s q o k m
unfolding turned_away
not_turned_away s finder q o k m accepted = by (agrees_or_turned_away s finder q o k m)
  where
    by : (outcome_with s finder q o k m ≡ outcome_of s q o k m) ⊎ (outcome_with s finder q o k m ≡ turned_away o k m) → outcome_with s finder q o k m ≡ outcome_of s q o k m
    by (inl agrees) = agrees
    by (inr turned) =
        let thirteen : ◌≡◌ {A = ℕ} 13 0 = sym (ap (λ (x : Outcome). x.number) turned) ∙ accepted in
        absurd (omega arith)

pub accepted_with_is_accepted : AcceptedWithIsAccepted
accepted_with_is_accepted sheet finder query hidden out counts marks a out₁ counts₁ marks₁ met accepted =
    record {
      met = met ∙ not_turned_away sheet finder (asked query hidden) out counts marks (sym (ap (λ (x : Outcome). x.number) met) ∙ accepted);
      accepted = accepted;
    }
