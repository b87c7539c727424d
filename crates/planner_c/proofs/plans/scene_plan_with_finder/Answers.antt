-- `planner_c::scene_plan_with_finder` meets its contract: the numbers of the answer in the equation that `planner::plan_with_finder` gives.
-- Assumes nothing.
use mathlib.Core.Path.{ap, ◌∙◌}
use Rattle.plan_rules.specs.declared.SceneOptions.{SceneOptions}
use Rattle.planner.specs.WithFinder.{finder_outcome}
use Rattle.planner_c.proofs.Told.{told}
use Rattle.planner_c.proofs.plans.scene_plan_with_finder.Goals as goal

pub returns : goal.returns
returns c =
    let a = c.args in
    told c.plan_with_finder-answer.result _ _ _ c.tell.ensures
    ∙ c.plan_with_finder-answer.ensures
    ∙ ap (λ (query : SceneOptions). finder_outcome a.sheet a.finder query a.hidden a.out a.counts a.marks) c.options_from-query.ensures
