-- `pushes::push_point` meets its contract: one law of the rules for each way out.
-- Assumes nothing.
use mathlib.Core.Path.{sym}
use Rattle.abstract_sheet.specs.Sheet.{node_record_at}
use Rattle.plan_rules.specs.World.{world}
use Rattle.plan_rules.specs.OnTape.{given_of}
use Rattle.plan_rules.proofs.Paths.Pushes.{point_outside, point_exhausted, point_listed}
use Rattle.pushes.proofs.items.push_point.Goals as goal

pub returns-then-not-point_in_bbox : goal.returns-then-not-point_in_bbox
unfolding node_record_at
returns-then-not-point_in_bbox c k m =
    let a = c.args in
    sym (point_outside (given_of a.given.now) a.transform (node_record_at a.given.now.sheet.now a.at) a.i (world a.plan a.out.now k m) (cc))

pub returns-then-detail_budget_exhausted : goal.returns-then-detail_budget_exhausted
unfolding node_record_at
returns-then-detail_budget_exhausted c k m =
    let a = c.args in
    sym (point_exhausted (given_of a.given.now) a.transform (node_record_at a.given.now.sheet.now a.at) a.i (world a.plan a.out.now k m) (cc) (cc (c.detail_budget_exhausted.ensures a.given.now.hidden.now)))

pub returns : goal.returns
unfolding node_record_at
returns c k m =
    let a = c.args in
    let listed = point_listed (given_of a.given.now) a.transform (node_record_at a.given.now.sheet.now a.at) a.i (world a.plan a.out.now k m) (cc) (cc (c.detail_budget_exhausted.ensures a.given.now.hidden.now)) in
    cc (c.list_point.ensures k m, listed)
