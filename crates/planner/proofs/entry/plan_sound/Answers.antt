-- `planner::entry::plan_sound` meets its contract: the first no of the query, or the end of the call by `Delivered`.
-- Assumes nothing.
use mathlib.Core.Path.{sym, ap, ◌∙◌}
use Rattle.plan_rules.specs.Questions.{refusal_of}
use native.Mathlib.Omega.{arith}
use lib.Seq.{length-take-le}
use Rattle.plan_rules.specs.Limits.{max_scene_objects}
use Rattle.plan_rules.specs.OnTape.{given}
use Rattle.plan_rules.proofs.OutcomeTheorem.{query_refused, query_passed}
use Rattle.check_query.proofs.Lent.{counts_lent, marks_lent}
use Rattle.planner.proofs.Refusals.{query_positive, handed}
use Rattle.planner.proofs.Delivered.{sweep_delivered}
use Rattle.planner.proofs.entry.plan_sound.Goals as goal

pub returns-in_err-check_query : goal.returns-in_err-check_query
returns-in_err-check_query c =
    handed _ _ _ _ _ c.from_residual.ensures.1
    ∙ sym (query_refused _ _ _ _ _ _ _ (ap refusal_of (sym c.in_err-check_query.was) ∙ c.check_query.ensures) (λ e. omega (arith, query_positive c.in_err-check_query.field-0.0, e)))

pub slice_bounds-visit_clean-end : goal.slice_bounds-visit_clean-end
slice_bounds-visit_clean-end c =
    counts_lent _ _ _ _ _ _ c.check_query.ensures c.in_ok-check_query.was c.counts_named-counts_used.ensures

pub slice_bounds-visit_clean-end-2 : goal.slice_bounds-visit_clean-end-2
slice_bounds-visit_clean-end-2 c =
    sym (length-take-le _ _ (counts_lent _ _ _ _ _ _ c.check_query.ensures c.in_ok-check_query.was c.counts_named-counts_used.ensures))

pub slice_bounds-visit_clean-end-3 : goal.slice_bounds-visit_clean-end-3
slice_bounds-visit_clean-end-3 c =
    marks_lent _ _ _ _ _ _ c.check_query.ensures c.in_ok-check_query.was c.marks_named-marks_used.ensures

pub slice_bounds-visit_clean-end-4 : goal.slice_bounds-visit_clean-end-4
slice_bounds-visit_clean-end-4 c =
    sym (length-take-le _ _ (marks_lent _ _ _ _ _ _ c.check_query.ensures c.in_ok-check_query.was c.marks_named-marks_used.ensures))

pub returns : goal.returns
returns c =
    let a = c.args in
    let counts = counts_lent _ _ _ _ _ _ c.check_query.ensures c.in_ok-check_query.was c.counts_named-counts_used.ensures in
    let marks = marks_lent _ _ _ _ _ _ c.check_query.ensures c.in_ok-check_query.was c.marks_named-marks_used.ensures in
    sweep_delivered (given (record { options = a.query; object_limit = max_scene_objects; counts = a.kinds }) a.sheet a.finder a.hidden) _ _ _ _ _ c.counts_named-counts_used.ensures c.marks_named-marks_used.ensures counts marks
    (omega (arith, c.well_formed)) _ _ _ _ c.visit_clean-plan.ensures c.finish.result _ c.finish.ensures
    ∙ sym (query_passed _ _ _ _ _ _ _ (sym c.check_query.ensures ∙ ap refusal_of c.in_ok-check_query.was))
