-- `open_reference::open_reference` meets its contract: each way out by its law in `SourcedReference`.
-- Assumes nothing.
use Rattle.std.proofs.Common.{sym, ap, ◌∙◌, ℕ}
use Rattle.geometry.specs.Bbox.{bounds_of}
use Rattle.plan_rules.specs.World.{world}
use Rattle.plan_rules.specs.declared.Reason.TheVariants as reason
use Rattle.plan_rules.specs.OnTape.{add_load}
use Rattle.open_reference.proofs.SourcedReference.{reference_unboxed, reference_empty, reference_culled, reference_detail_full, reference_exhausted, reference_opened}
use Rattle.open_reference.proofs.open_reference.Goals as goal

-- ---- the ways out

pub returns-in_default-clause-opens : goal.returns-in_default-clause-opens
returns-in_default-clause-opens c =
    λ g on depth k m.
    reference_unboxed g on depth _ _ _ (sym c.bbox.ensures.back ∙ ap bounds_of c.in_default.is)

pub returns-in_default-bbox-clause-opens : goal.returns-in_default-bbox-clause-opens
returns-in_default-bbox-clause-opens c =
    λ g on depth k m.
    reference_empty g on depth _ _ _ _ (sym c.bbox.ensures.back ∙ ap bounds_of c.in-Some.is)
    (sym c.reference_bbox-members_bounds.ensures ∙ sym c.bbox-2.ensures.back ∙ ap bounds_of c.in_default-bbox.is)

pub returns-then-not-overlaps-clause-opens : goal.returns-then-not-overlaps-clause-opens
returns-then-not-overlaps-clause-opens c =
    λ g on depth k m.
    reference_culled g on depth _ _ _ _ (sym c.bbox.ensures.back ∙ ap bounds_of c.in-Some.is)
    _ (sym c.reference_bbox-members_bounds.ensures ∙ sym c.bbox-2.ensures.back ∙ ap bounds_of c.in-Some-bbox.is) c.transform_bbox-world_bbox.ensures
    (sym c.overlaps.ensures ∙ c.if-not-overlaps.true) _ (c.count_culled_reference-culled.ensures _ k m)

pub returns-then-detail_cells_full-clause-opens : goal.returns-then-detail_cells_full-clause-opens
returns-then-detail_cells_full-clause-opens c =
    λ g on depth k m.
    reference_detail_full g on depth _ _ _ _ (sym c.bbox.ensures.back ∙ ap bounds_of c.in-Some.is)
    _ (sym c.reference_bbox-members_bounds.ensures ∙ sym c.bbox-2.ensures.back ∙ ap bounds_of c.in-Some-bbox.is) c.transform_bbox-world_bbox.ensures
    (sym c.overlaps.ensures ∙ c.if-not-overlaps.false)
    (sym c.detail_cells_full.ensures ∙ c.if-detail_cells_full.true) _
    (c.add_load-boxed.ensures k m
    ∙ ap (λ (l : ℕ). add_load reason.CellLimit l c.transform_bbox-world_bbox.result (world c.args.plan c.args.out.now k m)) c.label-label.ensures)

pub returns-then-detail_budget_exhausted-clause-opens : goal.returns-then-detail_budget_exhausted-clause-opens
returns-then-detail_budget_exhausted-clause-opens c =
    λ g on depth k m.
    reference_exhausted g on depth _ _ _ _ (sym c.bbox.ensures.back ∙ ap bounds_of c.in-Some.is)
    _ (sym c.reference_bbox-members_bounds.ensures ∙ sym c.bbox-2.ensures.back ∙ ap bounds_of c.in-Some-bbox.is) c.transform_bbox-world_bbox.ensures
    (sym c.overlaps.ensures ∙ c.if-not-overlaps.false)
    (sym c.detail_cells_full.ensures ∙ c.if-detail_cells_full.false)
    (sym (c.detail_budget_exhausted.ensures g.hidden) ∙ c.if-detail_budget_exhausted.true) _
    (c.add_load-boxed-then-detail_budget_exhausted.ensures k m
    ∙ ap (λ (l : ℕ). add_load reason.OtherLimit l c.transform_bbox-world_bbox.result (world c.args.plan c.args.out.now k m)) c.label-label.ensures)

pub returns-clause-opens : goal.returns-clause-opens
returns-clause-opens c =
    λ g on depth k m.
    reference_opened g on depth _ _ _ _ (sym c.bbox.ensures.back ∙ ap bounds_of c.in-Some.is)
    _ (sym c.reference_bbox-members_bounds.ensures ∙ sym c.bbox-2.ensures.back ∙ ap bounds_of c.in-Some-bbox.is) c.transform_bbox-world_bbox.ensures
    (sym c.overlaps.ensures ∙ c.if-not-overlaps.false)
    (sym c.detail_cells_full.ensures ∙ c.if-detail_cells_full.false)
    (sym (c.detail_budget_exhausted.ensures g.hidden) ∙ c.if-detail_budget_exhausted.false)
