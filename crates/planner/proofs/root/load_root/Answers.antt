-- `planner::root::load_root` meets its contract: one law of the rules for each way out.
-- Assumes nothing.
use mathlib.Core.Path.{sym, ap, ◌∙◌}
use Rattle.geometry.specs.Bbox.{boxed, bounds_of}
use Rattle.records.specs.declared.PreparedCell.{PreparedCell}
use Rattle.abstract_sheet.specs.Sheet.{cells, cell_record_at}
use Rattle.look_up.proofs.Looking.{item_looked}
use Rattle.plan_rules.specs.OnTape.{given_of}
use Rattle.plan_rules.proofs.Paths.Plans.{root_missing, root_unboxed, root_outside, root_loaded}
use Rattle.planner.proofs.root.load_root.Goals as goal

pub returns-in_default : goal.returns-in_default
returns-in_default c k m =
    let a = c.args in
    sym (root_missing (given_of a.given.now) _ (item_looked cells _ _ _ _ c.look_up.ensures c.in_default.is))

pub returns-in_default-bbox : goal.returns-in_default-bbox
unfolding cell_record_at
returns-in_default-bbox c k m =
    let a = c.args in
    let there = item_looked cells _ _ _ _ c.look_up.ensures c.in-Some.is in
    let box = sym (ap (λ (r : PreparedCell). r.bbox) c.cell_at-record.ensures) ∙ sym c.bbox.ensures.back ∙ ap bounds_of c.in_default-bbox.is in
    sym (root_unboxed (given_of a.given.now) _ there box)

pub returns-then-not-overlaps : goal.returns-then-not-overlaps
unfolding cell_record_at boxed
returns-then-not-overlaps c k m =
    let a = c.args in
    let there = item_looked cells _ _ _ _ c.look_up.ensures c.in-Some.is in
    let box = sym (ap (λ (r : PreparedCell). r.bbox) c.cell_at-record.ensures) ∙ sym c.bbox.ensures.back ∙ ap bounds_of c.in-Some-bbox.is in
    let unseen = sym c.overlaps.ensures ∙ c.if-not-overlaps.true in
    sym (root_outside (given_of a.given.now) _ there box unseen)

pub returns : goal.returns
unfolding cell_record_at boxed
returns c k m =
    let a = c.args in
    let there = item_looked cells _ _ _ _ c.look_up.ensures c.in-Some.is in
    let box = sym (ap (λ (r : PreparedCell). r.bbox) c.cell_at-record.ensures) ∙ sym c.bbox.ensures.back ∙ ap bounds_of c.in-Some-bbox.is in
    let seen = sym c.overlaps.ensures ∙ c.if-not-overlaps.false in
    c.add_load.ensures k m
    ∙ sym (root_loaded (given_of a.given.now) _ there box seen)
