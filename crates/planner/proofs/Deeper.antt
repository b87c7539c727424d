-- DEEPER SHEETS WITH A FINDER: the statements of paper 13 about `outcome_with`, from those about a call without a finder.
-- Assumes nothing.
use mathlib.Core.Path.{◌≡◌, refl, sym, ap, ◌∙◌}
use mathlib.Core.Logic.{◌⊎◌, inl, inr}
use mathlib.Core.Bool.{cond}
use Prim.Native.Nat.{ℕ, ◌<◌}
use native.Mathlib.Omega.{arith}
use Rattle.abstract_sheet.specs.Sheet.{sheet_of}
use Rattle.std.specs.Prelude.{Ok, Err}
use Rattle.check_sheet.specs.Check.{Checked, check_sheet}
use Rattle.finder.specs.Finder.{belongs}
use Rattle.plan_rules.specs.Limits.{max_depth}
use Rattle.plan_rules.specs.Outcome.{Outcome, outcome_of}
use Rattle.plan_rules.specs.Deeper.{former_max_depth}
use Rattle.plan_rules.proofs.Deeper.{same_sound, only_deeper_is_too_deep}
use Rattle.planner.specs.WithFinder.{turned_away, checked_with_up_to, outcome_with_up_to, outcome_with}
use Rattle.planner.specs.Deeper.{FormerAnswersStayWith, OnlyDeeperIsTooDeepWith}
use Rattle.planner.proofs.Finders.{agrees_or_turned_away}

pub former_answers_stay_with : FormerAnswersStayWith
unfolding outcome_with_up_to
former_answers_stay_with s finder q o k m h = by (check_sheet s)
  where
    by : (c : Checked) → checked_with_up_to max_depth c s finder q o k m ≡ checked_with_up_to former_max_depth c s finder q o k m
    by (Err e) = refl
    by (Ok counts) =
        ap (λ (x : Outcome). cond (belongs finder s) x (turned_away o k m)) (same_sound max_depth former_max_depth q o k m (omega (arith, h)) h (sheet_of s) counts.cells)

pub only_deeper_is_too_deep_with : OnlyDeeperIsTooDeepWith
unfolding turned_away
only_deeper_is_too_deep_with s finder q o k m e = by (agrees_or_turned_away s finder q o k m)
  where
    by : (outcome_with s finder q o k m ≡ outcome_of s q o k m) ⊎ (outcome_with s finder q o k m ≡ turned_away o k m) → max_depth < q.depth
    by (inl agrees) = only_deeper_is_too_deep s q o k m (ap (λ (x : Outcome). x.number) (sym agrees) ∙ e)
    by (inr turned) =
        let ten : ◌≡◌ {A = ℕ} 13 10 = ap (λ (x : Outcome). x.number) (sym turned) ∙ e in
        absurd (omega arith)
