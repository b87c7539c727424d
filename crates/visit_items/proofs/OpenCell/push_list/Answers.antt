-- `visit_items::OpenCell::push_list` meets its contract: each way out by its law in `CellLists`.
-- Assumes nothing.
use mathlib.Core.Path.{ap, ◌∙◌}
use Rattle.plan_rules.specs.World.{halt}
use Rattle.visit_items.proofs.CellLists
use Rattle.visit_items.proofs.OpenCell.push_list.Goals as goal

pub returns-then-count-eq0 : goal.returns-then-count-eq0
returns-then-count-eq0 g c k m = CellLists.none _ _ _ _ c.count-count.ensures _ c.if-count-eq0.true

pub returns-then-detail_budget_exhausted : goal.returns-then-detail_budget_exhausted
returns-then-detail_budget_exhausted g c k m =
    ap halt (c.load.ensures k m)
    ∙ CellLists.exhausted _ _ _ _ c.count-count.ensures _ c.if-count-eq0.false (cc (c.detail_budget_exhausted.ensures c.args.given.now.hidden.now))

pub returns-in-Ok : goal.returns-in-Ok
returns-in-Ok g c k m =
    CellLists.listed _ _ _ _ c.count-count.ensures _ c.number-first.ensures (cc (c.detail_budget_exhausted.ensures c.args.given.now.hidden.now)) (c.in-Ok.ensures k m)

pub returns-in-Err : goal.returns-in-Err
returns-in-Err g c k m =
    ap halt (c.load-in-Err.ensures k m)
    ∙ CellLists.listed _ _ _ _ c.count-count.ensures _ c.number-first.ensures (cc (c.detail_budget_exhausted.ensures c.args.given.now.hidden.now)) (c.in-Err.ensures k m)
