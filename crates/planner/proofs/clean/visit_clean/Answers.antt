-- `planner::clean::visit_clean` meets its contract: its steps are a sweep, by `Sweep`.
-- Assumes nothing.
use mathlib.Core.Path.{sym, ◌∙◌}
use Rattle.plan_rules.specs.OnTape.{given_of}
use Rattle.planner.proofs.Sweep.{default_is_empty, clean}
use Rattle.planner.proofs.clean.visit_clean.Goals as goal

pub returns : goal.returns
returns c =
    let a = c.args in
    clean (given_of a.given.now) _ a.counts.now a.marks.now _ _ _ _ _ _ _ _ _ (c.fill.ensures.after (λ y e. e)) (c.fill-2.ensures.after (λ y e. e)) (default_is_empty _ c.default.ensures) c.visit_root-plan.ensures.visits
    (c.visit_root-plan.ensures.others.2 ∙ c.fill.ensures.len)
    (c.visit_root-plan.ensures.others.3 ∙ c.fill-2.ensures.len)
    (c.counts-1.given.1.1 (sym c.visit_root-plan.ensures.others.0) ∙ c.fill-3.ensures.after (λ y e. e))
    (c.marks-1.given.1.1 (sym c.visit_root-plan.ensures.others.1) ∙ c.fill-4.ensures.after (λ y e. e))
