-- `planner_c::scene_plan` meets its contract: the numbers of the answer in the equation that `planner::plan` gives.
-- Assumes nothing.
use mathlib.Core.Path.{ap, ◌∙◌}
use Rattle.plan_rules.specs.declared.SceneOptions.{SceneOptions}
use Rattle.plan_rules.specs.OnTape.{plan_outcome}
use Rattle.planner_c.proofs.Told.{told}
use Rattle.planner_c.proofs.plans.scene_plan.Goals as goal

pub returns : goal.returns
returns c =
    let a = c.args in
    told c.plan-answer.result _ _ _ c.tell.ensures
    ∙ c.plan-answer.ensures
    ∙ ap (λ (query : SceneOptions). plan_outcome a.sheet query a.hidden a.out a.counts a.marks) c.options_from-query.ensures
