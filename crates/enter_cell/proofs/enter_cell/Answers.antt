-- `enter_cell::enter_cell` meets its contract: each way out by its law in `FoundCell`.
-- Assumes nothing.
use Rattle.std.proofs.Common.{◌≡◌, sym, ap, ◌∙◌, List, ℕ}
use Rattle.geometry.specs.declared.bbox.Bounds.{Bounds}
use Rattle.geometry.specs.declared.placement.Placement.{Placement}
use Rattle.geometry.specs.Bbox.{transform_bounds}
use Rattle.plan_rules.specs.Event.{detail_cell}
use Rattle.plan_rules.specs.World.{world}
use Rattle.plan_rules.specs.OnTape.{say}
use Rattle.enter_cell.proofs.FoundCell.{cell_outside, cell_detail_full, cell_exhausted, cell_open, cell_entered}
use Rattle.enter_cell.proofs.enter_cell.Goals as goal

-- the placed box is that of the record, whose box is the one given
placed : (p : Placement) {a b made : Bounds} → made ≡ transform_bounds p b → a ≡ b → made ≡ transform_bounds p a
placed p e given = e ∙ ap (transform_bounds p) (sym given)

pub returns-then-is_outside-clause-enters : goal.returns-then-is_outside-clause-enters
returns-then-is_outside-clause-enters c =
    λ g on d k e.
    cell_outside g on _ _ d _ _ (placed c.args.transform c.transform_bounds-bounds.ensures e)
    (sym c.is_outside.ensures ∙ c.if-is_outside.true)

pub returns-then-full-clause-enters : goal.returns-then-full-clause-enters
returns-then-full-clause-enters c =
    λ g on d k e.
    cell_detail_full g on _ _ d _ _ (placed c.args.transform c.transform_bounds-bounds.ensures e)
    (sym c.is_outside.ensures ∙ c.if-is_outside.false)
    (sym c.detail_cells_full-full.ensures ∙ c.if-full.true) _ (c.add_load_if_boxed-boxed.ensures k _)

pub returns-then-detail_budget_exhausted-clause-enters : goal.returns-then-detail_budget_exhausted-clause-enters
returns-then-detail_budget_exhausted-clause-enters c =
    λ g on d k e.
    cell_exhausted g on _ _ d _ _ (placed c.args.transform c.transform_bounds-bounds.ensures e)
    (sym c.is_outside.ensures ∙ c.if-is_outside.false)
    (sym c.detail_cells_full-full.ensures ∙ c.if-full.false)
    (sym (c.detail_budget_exhausted.ensures g.hidden) ∙ c.if-detail_budget_exhausted.true) _
    (c.add_load_if_boxed-boxed-then-detail_budget_exhausted.ensures k _)

pub returns-then-stack_contains-clause-enters : goal.returns-then-stack_contains-clause-enters
returns-then-stack_contains-clause-enters c =
    λ g on d k e.
    cell_open g on _ _ d _ _ (placed c.args.transform c.transform_bounds-bounds.ensures e)
    (sym c.is_outside.ensures ∙ c.if-is_outside.false)
    (sym c.detail_cells_full-full.ensures ∙ c.if-full.false)
    (sym (c.detail_budget_exhausted.ensures g.hidden) ∙ c.if-detail_budget_exhausted.false)
    (sym c.stack_contains.ensures ∙ c.if-stack_contains.true) _ (c.add_load_if_boxed-boxed-then-stack_contains.ensures k _)

pub returns-clause-enters : goal.returns-clause-enters
returns-clause-enters c =
    λ g on d k e.
    cell_entered g on _ _ d _ _ (placed c.args.transform c.transform_bounds-bounds.ensures e)
    (sym c.is_outside.ensures ∙ c.if-is_outside.false)
    (sym c.detail_cells_full-full.ensures ∙ c.if-full.false)
    (sym (c.detail_budget_exhausted.ensures g.hidden) ∙ c.if-detail_budget_exhausted.false)
    (sym c.stack_contains.ensures ∙ c.if-stack_contains.false) _
    (c.count_detail_cell-opened.ensures _ k _ ∙ ap (λ (m : List ℕ). say detail_cell (world c.args.plan c.args.out.now k m)) c.stack_insert.ensures.marks)
