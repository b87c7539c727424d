-- `planner::finish::finish` meets its contract: the tape's end, totals included, decides.
-- Assumes nothing.
use mathlib.Core.Path.{ap, ◌∙◌}
use Rattle.plan_rules.specs.World.{world}
use Rattle.planner.specs.Answered.{answered}
use Rattle.planner.proofs.Answers.{tape_fits, tape_exceeds}
use Rattle.planner.proofs.finish.finish.Goals as goal

pub returns-then-whole-out : goal.returns-then-whole-out
returns-then-whole-out c =
    let listed = c.list_totals-whole in
    λ k m. tape_fits (world listed.result listed.new.out k m) c.if-whole-out.true ∙ ap answered (listed.ensures k m)

pub returns : goal.returns
returns c =
    let listed = c.list_totals-whole in
    λ k m. tape_exceeds (world listed.result listed.new.out k m) c.if-whole-out.false (c.fill.ensures.after (λ y e. e)) ∙ ap answered (listed.ensures k m)
