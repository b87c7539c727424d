-- DEEPER SHEETS WITH A FINDER: document 02, paper 13, of the outcome that the contract of `plan_with_finder` cites; that of `plan` is `plan_rules` `Deeper`.
-- Statements only; rests on the outcome of a call with a finder.
use Rattle.std.specs.Prelude.{◌≡◌, List, ℕ, ◌≤◌, ◌<◌}
use Rattle.plan_rules.specs.Limits.{max_depth}
use Rattle.plan_rules.specs.World.{Query}
use Rattle.plan_rules.specs.Deeper.{former_max_depth}
use Rattle.planner.specs.WithFinder.{outcome_with_up_to, outcome_with}

-- "up to 32 every answer is what it was", whatever list is lent.
abbrev pub FormerAnswersStayWith : Type 0
FormerAnswersStayWith = (s finder : List ℕ) (q : Query) (o k m : List ℕ) → q.depth ≤ former_max_depth → outcome_with s finder q o k m ≡ outcome_with_up_to former_max_depth s finder q o k m

-- "Only depth above 48 gets number 10"
abbrev pub OnlyDeeperIsTooDeepWith : Type 0
OnlyDeeperIsTooDeepWith = (s finder : List ℕ) (q : Query) (o k m : List ℕ) → (outcome_with s finder q o k m).number ≡ 10 → max_depth < q.depth
