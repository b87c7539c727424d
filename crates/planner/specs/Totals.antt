-- PAPER 8 OF `planner::plan` and `plan_with_finder`, as a caller has it: what the bytes of an accepted call say of its proxies, and the length that no call exceeds.
-- Definitions only; rests on the rules' outcome of a call and on the words of `totals`.
use Rattle.std.specs.Prelude.{◌≡◌, List, ℕ, ◌≤◌, take}
use Rattle.plan_rules.specs.declared.SceneOptions.{SceneOptions}
use Rattle.plan_rules.specs.OnTape.{asked}
use Rattle.plan_rules.specs.Outcome.{Answer, length_of, outcome, outcome_of}
use Rattle.totals.specs.Proxies.{TapeAddsUp, untagged_events}
use Rattle.totals.specs.TapeLength.{most_tape}
use Rattle.planner.specs.WithFinder.{outcome_with}
use Rattle.planner.specs.LosesNothing.{AcceptedCall}

-- The proxies that the tape lists, and those that its last field counts as dropped, are the ones that the rules call for.
abbrev pub PlanAddsUp : Type 0
PlanAddsUp = (sheet : List ℕ) (query : SceneOptions) (hidden out counts marks : List ℕ)
    → (a : Answer) (out₁ counts₁ marks₁ : List ℕ) → AcceptedCall sheet query hidden out counts marks a out₁ counts₁ marks₁
    → TapeAddsUp (take (length_of a) out₁) (untagged_events sheet (asked query hidden))

-- No call, accepted or not, tells a longer tape,
abbrev pub PlanTapeAtMost : Type 0
PlanTapeAtMost = (sheet : List ℕ) (query : SceneOptions) (hidden out counts marks : List ℕ)
    → (a : Answer) (out₁ counts₁ marks₁ : List ℕ) → outcome a out₁ counts₁ marks₁ ≡ outcome_of sheet (asked query hidden) out counts marks → length_of a ≤ most_tape

-- with a finder, whatever list is lent, neither.
abbrev pub FinderTapeAtMost : Type 0
FinderTapeAtMost = (sheet finder : List ℕ) (query : SceneOptions) (hidden out counts marks : List ℕ)
    → (a : Answer) (out₁ counts₁ marks₁ : List ℕ) → outcome a out₁ counts₁ marks₁ ≡ outcome_with sheet finder (asked query hidden) out counts marks → length_of a ≤ most_tape
