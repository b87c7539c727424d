-- DEMANDS 2 AND 3 OF `planner::plan`, as a caller has them: `met` is the equation of the entry point's contract, its names `answers` and `plan_outcome` opened.
-- Definitions only; rests on the rules' outcome of a call and on cover's words.
use Rattle.std.specs.Prelude.{◌≡◌, false, List, ℕ, T as Yes, pos}
use Rattle.std.specs.Float.{fin}
use Rattle.std.specs.Float.Ieee.{le}
use Rattle.abstract_sheet.specs.Sheet.{sheet_of}
use Rattle.exact.specs.Screen.{zoom_power}
use Rattle.plan_rules.specs.declared.SceneOptions.{SceneOptions}
use Rattle.plan_rules.specs.OnTape.{asked}
use Rattle.plan_rules.specs.Outcome.{Answer, number_of, outcome, outcome_of}
use Rattle.paths.specs.Square.{Square}
use Rattle.paths.specs.TrueBoxes.{TrueBoxes}
use Rattle.cover.specs.View.{WholeView}
use Rattle.cover.specs.Trace.{Trace}
use Rattle.cover.specs.Demand3.{LosesNothing, IsTape}
use Rattle.cover.specs.Manual.{PlacedByManual}

-- an accepted call: what it answered and left is the outcome that the rules define, and its number is 0
pub record AcceptedCall (sheet : List ℕ) (query : SceneOptions) (hidden out counts marks : List ℕ) (a : Answer) (out₁ counts₁ marks₁ : List ℕ) : Type 0 where
  pub met : outcome a out₁ counts₁ marks₁ ≡ outcome_of sheet (asked query hidden) out counts marks
  pub accepted : number_of a ≡ 0

-- Demand 3: the bytes that an accepted call leaves are the tape of events that lose nothing.
abbrev pub PlanLosesNothing : Type 0
PlanLosesNothing = (sheet : List ℕ) (query : SceneOptions) (hidden out counts marks : List ℕ)
    → Square (sheet_of sheet) → TrueBoxes (sheet_of sheet) → WholeView query.view → Yes (le query.zoom (fin false 1 (pos zoom_power)))
    → (a : Answer) (out₁ counts₁ marks₁ : List ℕ) → AcceptedCall sheet query hidden out counts marks a out₁ counts₁ marks₁
    → (trace : Trace) × IsTape sheet (asked query hidden) (outcome a out₁ counts₁ marks₁) trace out × LosesNothing (sheet_of sheet) (asked query hidden) trace

-- Demand 2: on a square sheet every record of these bytes stands where the manual's placing along its path puts it.
abbrev pub PlanPlacesByManual : Type 0
PlanPlacesByManual = (sheet : List ℕ) (query : SceneOptions) (hidden out counts marks : List ℕ) → Square (sheet_of sheet)
    → (a : Answer) (out₁ counts₁ marks₁ : List ℕ) → AcceptedCall sheet query hidden out counts marks a out₁ counts₁ marks₁
    → (trace : Trace) × IsTape sheet (asked query hidden) (outcome a out₁ counts₁ marks₁) trace out × PlacedByManual (sheet_of sheet) (asked query hidden) trace
