-- Demands 2 and 3, and papers 8 and 14, of `planner::plan`: what holds of a call's outcome holds of what the call leaves.
-- Assumes nothing.
use mathlib.Core.Path.{◌≡◌, sym, ap, ◌∙◌, subst}
use mathlib.Core.Logic.{◌⊎◌, inl, inr}
use mathlib.Core.List.{List}
use Prim.Native.Nat.{ℕ, ◌≤◌}
use native.Mathlib.Omega.{arith}
use lib.ListN.{take}
use Rattle.abstract_sheet.specs.Sheet.{sheet_of}
use Rattle.plan_rules.specs.declared.SceneOptions.{SceneOptions}
use Rattle.plan_rules.specs.Outcome.{length_of, Outcome, outcome_of}
use Rattle.cover.specs.Trace.{Trace}
use Rattle.cover.specs.Demand3.{LosesNothing, IsTape}
use Rattle.cover.specs.Manual.{PlacedByManual}
use Rattle.cover.proofs.AcceptedCall.{demand_3}
use Rattle.cover.proofs.Manual.{manual_along_path}
use Rattle.fractions.specs.Errors.{position_error, most_bounded}
use Rattle.slanted.specs.Slanted.{PlacesWithin, most_references, sixty_fourth}
use Rattle.slanted.proofs.Call.{slanted, by_references}
use Rattle.plan_rules.specs.OnTape.{asked}
use Rattle.totals.specs.Proxies.{TapeAddsUp, untagged_events}
use Rattle.totals.specs.TapeLength.{most_tape}
use Rattle.totals.proofs.Tape.{call_adds_up}
use Rattle.totals.proofs.TapeLength.{tape_at_most}
use Rattle.planner.specs.WithFinder.{turned_away, outcome_with}
use Rattle.planner.specs.LosesNothing.{PlanLosesNothing, PlanPlacesByManual}
use Rattle.planner.specs.PlacesNear.{Leaves, PlanPlacesNear, PlanPlacesByReferences}
use Rattle.planner.specs.Totals.{PlanAddsUp, PlanTapeAtMost, FinderTapeAtMost}
use Rattle.planner.proofs.Finders.{agrees_or_turned_away}

-- what holds of the events of an accepted outcome holds of those whose tape the call leaves
leaves : (sheet : List ℕ) (query : SceneOptions) (hidden out counts marks : List ℕ) (F : Trace → Type 0)
    → (let o = outcome_of sheet (asked query hidden) out counts marks in o.number ≡ 0 → (trace : Trace) × IsTape sheet (asked query hidden) o trace out × F trace)
    → Leaves sheet query hidden out counts marks F
leaves sheet query hidden out counts marks F of-outcome a out₁ counts₁ marks₁ call =
    let d = of-outcome (sym (ap (λ (o : Outcome). o.number) call.met) ∙ call.accepted) in
    (d.0, subst (λ (o : Outcome). IsTape sheet (asked query hidden) o d.0 out) (sym call.met) d.1, d.2)

pub plan_loses_nothing : PlanLosesNothing
plan_loses_nothing sheet query hidden out counts marks square true-boxes view zoom =
    leaves sheet query hidden out counts marks (LosesNothing (sheet_of sheet) (asked query hidden)) (demand_3 sheet (asked query hidden) out counts marks square true-boxes view zoom)

pub plan_places_by_manual : PlanPlacesByManual
plan_places_by_manual sheet query hidden out counts marks square =
    leaves sheet query hidden out counts marks (PlacedByManual (sheet_of sheet) (asked query hidden)) (manual_along_path sheet (asked query hidden) out counts marks square)

pub plan_places_near : PlanPlacesNear
plan_places_near sheet query hidden out counts marks bounds =
    leaves sheet query hidden out counts marks (PlacesWithin most_references (λ n. 1) sixty_fourth (sheet_of sheet) (asked query hidden)) (slanted sheet (asked query hidden) out counts marks bounds)

pub plan_places_by_references : PlanPlacesByReferences
plan_places_by_references sheet query hidden out counts marks bounds =
    leaves sheet query hidden out counts marks (PlacesWithin most_bounded position_error 53 (sheet_of sheet) (asked query hidden)) (by_references sheet (asked query hidden) out counts marks bounds)

pub plan_adds_up : PlanAddsUp
plan_adds_up sheet query hidden out counts marks a out₁ counts₁ marks₁ call =
    subst (λ (o : Outcome). TapeAddsUp (take o.tape_length o.out) (untagged_events sheet (asked query hidden))) (sym call.met)
    (call_adds_up sheet (asked query hidden) out counts marks (sym (ap (λ (o : Outcome). o.number) call.met) ∙ call.accepted))

pub plan_tape_at_most : PlanTapeAtMost
plan_tape_at_most sheet query hidden out counts marks a out₁ counts₁ marks₁ met =
    subst (λ (o : Outcome). o.tape_length ≤ most_tape) (sym met) (tape_at_most sheet (asked query hidden) out counts marks (omega arith))

-- a call that is turned away tells the length 0
pub finder_tape_at_most : FinderTapeAtMost
unfolding turned_away
finder_tape_at_most sheet finder query hidden out counts marks a out₁ counts₁ marks₁ met = by (agrees_or_turned_away sheet finder (asked query hidden) out counts marks)
  where
    by : (outcome_with sheet finder (asked query hidden) out counts marks ≡ outcome_of sheet (asked query hidden) out counts marks) ⊎ (outcome_with sheet finder (asked query hidden) out counts marks ≡ turned_away out counts marks) → length_of a ≤ most_tape
    by (inl agrees) = plan_tape_at_most sheet query hidden out counts marks a out₁ counts₁ marks₁ (met ∙ agrees)
    by (inr turned) = let none : length_of a ≡ 0 = ap (λ (o : Outcome). o.tape_length) (met ∙ turned) in omega arith
