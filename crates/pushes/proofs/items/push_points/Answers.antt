-- `pushes::push_points` meets its contract: what is left to do from here is the whole.
-- Assumes nothing.
use mathlib.Core.Path.{refl, sym, ap, ◌∙◌}
use Rattle.std.proofs.Common.{rules}
use Rattle.std.proofs.lemmas.Result.{err_from_is_err_and}
use Rattle.records.specs.declared.PreparedNode.{PreparedNode}
use Rattle.abstract_sheet.specs.Sheet.{node_record_at}
use Rattle.plan_rules.proofs.Paths.Loops.{each_from, each_go, each_halt, each_done}
use Rattle.pushes.proofs.items.push_points.Goals as goal

pub loop-i-init : goal.loop-i-init
unfolding node_record_at
loop-i-init c = (refl, λ k m. each_from _ _ _ _ (ap (λ (x : PreparedNode). x.points) c.node_at-i-end.ensures))

pub returns-in_err-plan : goal.returns-in_err-plan
returns-in_err-plan c k m =
    let p = err_from_is_err_and c.from_residual.result c.from_residual.ensures.1 in
    rw (p.1, p.2) (sym (each_halt _ _ c.loop-i.i _ _ c.loop-i-test.true (sym (c.in_err-plan.ensures k m))) ∙ c.loop-i.invariant.1 k m)

pub returns : goal.returns
returns c k m = sym (each_done _ _ c.loop-i.i _ c.loop-i-test.false) ∙ c.loop-i.invariant.1 k m

pub loop-i-preserved : goal.loop-i-preserved
loop-i-preserved c = (
  search (rules, c.loop-i.invariant.0, c.push_point.auto.out),
  λ k m. sym (each_go _ _ c.loop-i.i _ _ c.loop-i-test.true (sym (c.in_ok-plan.ensures k m))) ∙ c.loop-i.invariant.1 k m,
)
