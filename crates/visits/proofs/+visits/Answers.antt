-- The visits, in one induction over the falling number of `Invariants`: the ways out of each function are laws of `Cells` and `References`. Assumes nothing.
use mathlib.Core.Path.{◌≡◌, refl, sym, ap, ◌∙◌, subst}
use Prim.Native.Nat.{◌-◌}
use Rattle.abstract_sheet.specs.Sheet.{cell_record_with}
use Rattle.scratch.specs.Lent.{StaysLent}
use Rattle.plan_rules.specs.World.{world, go, ending}
use Rattle.plan_rules.specs.OnTape.{given_of, on_reference, on_source, on_source_below}
use Rattle.visit_items.specs.declared.OpenCell.{OpenCell}
use Rattle.visit_items.specs.Lists.{opened}
use Rattle.visit_items.proofs.Body.{with_references}
use Rattle.plan_rules.proofs.Paths.Loops.{each_go, each_halt, each_done}
use Rattle.visits.proofs.Cells
use Rattle.visits.proofs.References
use Rattle.visits.proofs.+visits.Goals as goal
use Rattle.visits.proofs.+visits.Goals.{visit_reference-in-Passed, visit_reference-in-Opens+in-Ok}

-- ---- `visit_cell`

pub visit_cell-returns-in_default-clause-visits : goal.visit_cell-returns-in_default-clause-visits
visit_cell-returns-in_default-clause-visits t c =
    let a = c.args in
    Cells.cell_missing a.given.now a.depth a.cell a.transform _ c.look_up.ensures c.in_default.is

pub visit_cell-returns-in-Break-clause-visits : goal.visit_cell-returns-in-Break-clause-visits
visit_cell-returns-in-Break-clause-visits t c =
    let a = c.args in
    let g = given_of a.given.now in
    rw c.enter_cell.ensures.others.1
    (c.in-Break.ensures.enters g (on_reference g a.depth) (cell_record_with a.given.now.sheet.now c.in-Some.at c.cell_at-record.result) a.scratch.now.counts.now refl
    ∙ Cells.found a.given.now a.depth a.cell a.transform _ c.look_up.ensures _ c.in-Some.is _ c.cell_at-record.ensures)

pub visit_cell-returns-in-Err-clause-visits : goal.visit_cell-returns-in-Err-clause-visits
visit_cell-returns-in-Err-clause-visits t c =
    let a = c.args in
    let g = given_of a.given.now in
    let open_cell : OpenCell = record { number = a.cell; at = c.in-Some.at; «record» = c.cell_at-record.result; transform = a.transform; bounds = c.in-Continue.entered.bounds } in
    rw (c.stack_remove.ensures.others.1, c.enter_cell.ensures.others.1)
    (Cells.lists_over a.given.now.fixed a.cell
    (with_references g open_cell (opened a.given.now.sheet.now open_cell) _ (c.in-Err.ensures a.scratch.now.counts.now c.enter_cell.new.scratch.marks.now) (on_reference g a.depth))
    (c.in-Continue.ensures.enters g (on_reference g a.depth) (cell_record_with a.given.now.sheet.now c.in-Some.at c.cell_at-record.result) a.scratch.now.counts.now refl
    ∙ Cells.found a.given.now a.depth a.cell a.transform _ c.look_up.ensures _ c.in-Some.is _ c.cell_at-record.ensures)
    c.stack_remove.ensures.marks)

pub visit_cell-loop-i-init : goal.visit_cell-loop-i-init
visit_cell-loop-i-init t c =
    let a = c.args in
    let g = given_of a.given.now in
    let open_cell : OpenCell = record { number = a.cell; at = c.in-Some.at; «record» = c.cell_at-record.result; transform = a.transform; bounds = c.in-Continue.entered.bounds } in
    record {
      others = c.enter_cell.ensures.others.0;
      left =
          rw c.enter_cell.ensures.others.1
          (Cells.loop_begins a.given.now.fixed a.cell _ _ _
          (with_references g open_cell (opened a.given.now.sheet.now open_cell) _ (c.in-Ok.ensures a.scratch.now.counts.now c.enter_cell.new.scratch.marks.now) (on_reference g a.depth))
          (c.in-Continue.ensures.enters g (on_reference g a.depth) (cell_record_with a.given.now.sheet.now c.in-Some.at c.cell_at-record.result) a.scratch.now.counts.now refl
          ∙ Cells.found a.given.now a.depth a.cell a.transform _ c.look_up.ensures _ c.in-Some.is _ c.cell_at-record.ensures));
    }

pub visit_cell-loop-i-preserved : goal.visit_cell-loop-i-preserved
visit_cell-loop-i-preserved t c =
    let a = c.args in
    record {
      others = (c.visit_reference-next.ensures.others.0 ∙ c.loop-i.invariant.others.0, c.visit_reference-next.ensures.others.1 ∙ c.loop-i.invariant.others.1, c.visit_reference-next.ensures.others.2 ∙ c.loop-i.invariant.others.2, c.visit_reference-next.ensures.others.3 ∙ c.loop-i.invariant.others.3);
      left =
          sym (ap (Cells.closed a.given.now.fixed a.cell) (each_go _ _ c.loop-i.i _ _ c.loop-i-test.true
          (Cells.turn_goes a.given.now a.depth _ c.loop-i.i _ _ _
          (sym (c.detail_budget_exhausted.ensures a.given.now.hidden.now) ∙ c.if-detail_budget_exhausted.false) c.cell_reference_at-reference.ensures c.visit_reference-next.ensures.visits)))
          ∙ c.loop-i.invariant.left;
    }

pub visit_cell-returns-then-detail_budget_exhausted-clause-visits : goal.visit_cell-returns-then-detail_budget_exhausted-clause-visits
visit_cell-returns-then-detail_budget_exhausted-clause-visits t c =
    let a = c.args in
    rw c.stack_remove-then-detail_budget_exhausted.ensures.others.1
    (Cells.loop_over a.given.now.fixed a.cell _ c.loop-i.invariant.left
    (ap ending (each_halt _ _ c.loop-i.i _ _ c.loop-i-test.true
    (Cells.turn_exhausted a.given.now a.depth _ c.loop-i.i _ _
    (sym (c.detail_budget_exhausted.ensures a.given.now.hidden.now) ∙ c.if-detail_budget_exhausted.true) (c.load-boxed.ensures c.loop-i.scratch.counts.now c.loop-i.scratch.marks.now))))
    c.stack_remove-then-detail_budget_exhausted.ensures.marks)

pub visit_cell-returns-clause-visits : goal.visit_cell-returns-clause-visits
visit_cell-returns-clause-visits t c =
    rw c.stack_remove-2.ensures.others.1
    (Cells.loop_over c.args.given.now.fixed c.args.cell _ c.loop-i.invariant.left (ap ending (each_done _ _ c.loop-i.i _ c.loop-i-test.false)) c.stack_remove-2.ensures.marks)

-- ---- `visit_reference`

pub visit_reference-returns-in_default-clause-visits : goal.visit_reference-returns-in_default-clause-visits
visit_reference-returns-in_default-clause-visits t c =
    let a = c.args in
    References.missing a.given.now a.depth a.number a.transform _ c.look_up.ensures c.in_default.is

pub visit_reference-returns-in-Break-clause-visits : goal.visit_reference-returns-in-Break-clause-visits
visit_reference-returns-in-Break-clause-visits t c =
    let a = c.args in
    let g = given_of a.given.now in
    c.in-Break.ensures.opens g (on_source_below g a.depth) a.depth a.scratch.now.counts.now a.scratch.now.marks.now
    ∙ References.found a.given.now a.depth a.number a.transform _ c.look_up.ensures _ c.in-Some.is _ c.reference_at-record.ensures

pub visit_reference-returns-in-Some-reference_test-clause-visits : goal.visit_reference-returns-in-Some-reference_test-clause-visits
visit_reference-returns-in-Some-reference_test-clause-visits t c =
    let a = c.args in
    let g = given_of a.given.now in
    let units = c.reference_draw_units-draw_units in
    References.collapsed g a.depth c.in-Continue.reference (world a.plan c.open_reference.new.out a.scratch.now.counts.now a.scratch.now.marks.now)
    (c.in-Continue.ensures.opens g (on_source_below g a.depth) a.depth a.scratch.now.counts.now a.scratch.now.marks.now
    ∙ References.found a.given.now a.depth a.number a.transform _ c.look_up.ensures _ c.in-Some.is _ c.reference_at-record.ensures)
    units.ensures.units c.grid_count-count.ensures c.reference_test.ensures c.in-Some-reference_test.is c.collapse_reason-why.ensures c.label-label.ensures
    (c.add_load.ensures units.new.scratch.counts.now units.new.scratch.marks.now)

pub visit_reference-loop-i-init : goal.visit_reference-loop-i-init
visit_reference-loop-i-init t c =
    let a = c.args in
    let g = given_of a.given.now in
    let units = c.reference_draw_units-draw_units in
    let reached = world a.plan c.open_reference.new.out a.scratch.now.counts.now a.scratch.now.marks.now in
    let rest =
    c.in-Continue.ensures.opens g (on_source_below g a.depth) a.depth a.scratch.now.counts.now a.scratch.now.marks.now
    ∙ References.found a.given.now a.depth a.number a.transform _ c.look_up.ensures _ c.in-Some.is _ c.reference_at-record.ensures in
    record {
      others = units.ensures.lent;
      deep = References.deep g a.depth c.in-Continue.reference reached rest units.ensures.units c.grid_count-count.ensures c.reference_test.ensures c.in_default-reference_test.is;
      left = References.expanded g a.depth c.in-Continue.reference reached rest units.ensures.units c.grid_count-count.ensures c.reference_test.ensures c.in_default-reference_test.is c.source_units-share.ensures;
    }

pub visit_reference-returns-in-Halted-clause-visits : goal.visit_reference-returns-in-Halted-clause-visits
visit_reference-returns-in-Halted-clause-visits t c =
    let a = c.args in
    let g = given_of a.given.now in
    sym (ap ending (each_halt _ _ c.loop-i.i _ _ c.loop-i-test.true (sym (c.in-Halted.ensures g (on_source g (a.depth - 1)) c.loop-i.scratch.counts.now c.loop-i.scratch.marks.now))))
    ∙ c.loop-i.invariant.left

pub visit_reference-returns-in-Err-clause-visits : goal.visit_reference-returns-in-Err-clause-visits
visit_reference-returns-in-Err-clause-visits t c =
    let a = c.args in
    let g = given_of a.given.now in
    sym (ap ending (each_halt _ _ c.loop-i.i _ _ c.loop-i-test.true
    (References.source_halted g (a.depth - 1) c.in-Continue.reference _ _ _ _ (c.in-Opens.ensures g (on_source g (a.depth - 1)) c.loop-i.scratch.counts.now c.loop-i.scratch.marks.now) c.in-Err.ensures.visits
    c.label-label.ensures (c.load_member.ensures c.visit_source.new.scratch.counts.now c.visit_source.new.scratch.marks.now))))
    ∙ c.loop-i.invariant.left

pub visit_reference-returns-clause-visits : goal.visit_reference-returns-clause-visits
visit_reference-returns-clause-visits t c = sym (ap ending (each_done _ _ c.loop-i.i _ c.loop-i-test.false)) ∙ c.loop-i.invariant.left

pub visit_reference-loop-i-preserved : goal.visit_reference-loop-i-preserved
visit_reference-loop-i-preserved t c =
    let a = c.args in
    let g = given_of a.given.now in
    let turn = References.turn g a.depth c.in-Continue.reference c.source_units-share.result in
    let here = world c.loop-i.next c.loop-i.out c.loop-i.scratch.counts.now c.loop-i.scratch.marks.now in
    let there = world c.match-try_member.next c.match-try_member.out c.match-try_member.scratch.counts.now c.match-try_member.scratch.marks.now in
    let turned : turn c.loop-i.i here ≡ go there =
    elim c.match-try_member.branch [
      | visit_reference-in-Passed w ↦
          sym (w.in-Passed.ensures g (on_source g (a.depth - 1)) c.loop-i.scratch.counts.now c.loop-i.scratch.marks.now) ∙ sym (λ j. go (world (w.next-is j) (w.out-is j) (w.scratch-is j).counts.now (w.scratch-is j).marks.now))
      | visit_reference-in-Opens+in-Ok w ↦
          References.source_passed g (a.depth - 1) c.in-Continue.reference _ _ _ _ (w.in-Opens.ensures g (on_source g (a.depth - 1)) c.loop-i.scratch.counts.now c.loop-i.scratch.marks.now)
          w.in-Ok.ensures.visits ∙ sym (λ j. go (world (w.next-is j) (w.out-is j) (w.scratch-is j).counts.now (w.scratch-is j).marks.now))
    ] in
    record {
      others = elim c.match-try_member.branch [
        | visit_reference-in-Passed w ↦ subst (StaysLent a.scratch.now) (sym w.scratch-is) c.loop-i.invariant.others
        | visit_reference-in-Opens+in-Ok w ↦ subst (StaysLent a.scratch.now) (sym w.scratch-is) (w.visit_source.ensures.others.0 ∙ c.loop-i.invariant.others.0, w.visit_source.ensures.others.1 ∙ c.loop-i.invariant.others.1, w.visit_source.ensures.others.2 ∙ c.loop-i.invariant.others.2, w.visit_source.ensures.others.3 ∙ c.loop-i.invariant.others.3)
      ];
      deep = c.loop-i.invariant.deep;
      left = sym (ap ending (each_go turn c.grid_count-count.result c.loop-i.i here there c.loop-i-test.true turned)) ∙ c.loop-i.invariant.left;
    }

-- ---- `visit_source`

pub visit_source-returns-in-Cell-clause-visits : goal.visit_source-returns-in-Cell-clause-visits
visit_source-returns-in-Cell-clause-visits t c =
    let a = c.args in
    Cells.source_cell a.given.now a.depth a.source _ a.transform (world a.plan a.out.now a.scratch.now.counts.now a.scratch.now.marks.now) c.in-Cell.is _ c.visit_cell.ensures.visits

pub visit_source-returns-in-Geometry-clause-visits : goal.visit_source-returns-in-Geometry-clause-visits
visit_source-returns-in-Geometry-clause-visits t c =
    let a = c.args in
    Cells.source_geometry a.given.now a.depth a.source _ a.transform (world a.plan a.out.now a.scratch.now.counts.now a.scratch.now.marks.now) _ _ c.in-Geometry.is (c.push_numbers.ensures a.scratch.now.counts.now a.scratch.now.marks.now)

pub visit_source-returns-in-Text-clause-visits : goal.visit_source-returns-in-Text-clause-visits
visit_source-returns-in-Text-clause-visits t c =
    let a = c.args in
    Cells.source_text a.given.now a.depth a.source _ a.transform (world a.plan a.out.now a.scratch.now.counts.now a.scratch.now.marks.now) _ _ c.in-Text.is (c.push_numbers-in-Text.ensures a.scratch.now.counts.now a.scratch.now.marks.now)

pub visit_source-returns-in-Node-clause-visits : goal.visit_source-returns-in-Node-clause-visits
visit_source-returns-in-Node-clause-visits t c =
    let a = c.args in
    Cells.source_node a.given.now a.depth a.source _ a.transform (world a.plan a.out.now a.scratch.now.counts.now a.scratch.now.marks.now) _ _ c.in-Node.is (c.push_numbers-in-Node.ensures a.scratch.now.counts.now a.scratch.now.marks.now)

pub visit_source-returns-in-Reference-clause-visits : goal.visit_source-returns-in-Reference-clause-visits
visit_source-returns-in-Reference-clause-visits t c =
    let a = c.args in
    Cells.source_reference a.given.now a.depth a.source _ a.transform (world a.plan a.out.now a.scratch.now.counts.now a.scratch.now.marks.now) c.in-Reference.is _ c.visit_reference.ensures.visits
