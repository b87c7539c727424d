-- PAPER 14 OF `planner::plan`, as a caller has it: `Leaves` speaks of what an accepted call leaves.
-- Definitions only; rests on `LosesNothing` and on the words of `slanted`.
use Rattle.std.specs.Prelude.{List, ℕ}
use Rattle.abstract_sheet.specs.Sheet.{sheet_of}
use Rattle.plan_rules.specs.declared.SceneOptions.{SceneOptions}
use Rattle.plan_rules.specs.OnTape.{asked}
use Rattle.plan_rules.specs.Outcome.{Answer, outcome}
use Rattle.cover.specs.Trace.{Trace}
use Rattle.cover.specs.Demand3.{IsTape}
use Rattle.fractions.specs.Errors.{position_error, most_bounded}
use Rattle.slanted.specs.Sheet.{SlantedSheet}
use Rattle.slanted.specs.Slanted.{PlacesWithin, most_references, sixty_fourth}
use Rattle.planner.specs.LosesNothing.{AcceptedCall}

-- what an accepted call leaves is the tape of events of which F holds
abbrev pub Leaves : List ℕ → SceneOptions → List ℕ → List ℕ → List ℕ → List ℕ → (Trace → Type 0) → Type 0
Leaves sheet query hidden out counts marks F = (a : Answer) (out₁ counts₁ marks₁ : List ℕ) → AcceptedCall sheet query hidden out counts marks a out₁ counts₁ marks₁
    → (trace : Trace) × IsTape sheet (asked query hidden) (outcome a out₁ counts₁ marks₁) trace out × F trace

-- On a slanted sheet every record of a text or node point at a path with at most `most` references is within E n / 2 ^ k of its exact position, n of them being on the path.
module _ (most : ℕ) (E : ℕ → ℕ) (k : ℕ) where
  abbrev pub PlanPlacesWithin : Type 0
  PlanPlacesWithin = (sheet : List ℕ) (query : SceneOptions) (hidden out counts marks : List ℕ) → SlantedSheet (sheet_of sheet)
      → Leaves sheet query hidden out counts marks (PlacesWithin most E k (sheet_of sheet) (asked query hidden))

-- "at most four references .. within 1/64 unit"
abbrev pub PlanPlacesNear : Type 0
PlanPlacesNear = PlanPlacesWithin most_references (λ n. 1) sixty_fourth

-- the bound of the recurrence, by the number of references
abbrev pub PlanPlacesByReferences : Type 0
PlanPlacesByReferences = PlanPlacesWithin most_bounded position_error 53
