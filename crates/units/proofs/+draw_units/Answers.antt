-- The draw units, in one induction over the falling number of `Invariants`: the ways out are laws of `Exits`, and most are found by them.
-- Assumes nothing.
use mathlib.Core.Path.{sym, ◌∙◌}
use Rattle.plan_rules.specs.Event.{saturate}
use Rattle.plan_rules.proofs.Paths.Loops.{fold_turn, fold_done}
use Rattle.units.proofs.Exits
use Rattle.units.proofs.+draw_units.Goals as goal

pub cell_draw_units-loop-i-preserved : goal.cell_draw_units-loop-i-preserved
cell_draw_units-loop-i-preserved t c =
    let more = c.numbered_draw_units-more in
    let here = c.loop-i.invariant in
    record {
      lent =
          (more.ensures.lent.0 ∙ here.lent.0, more.ensures.lent.1 ∙ here.lent.1, more.ensures.lent.2 ∙ here.lent.2, more.ensures.lent.3 ∙ here.lent.3);
      folded =
          here.folded
          ∙ fold_turn _ _ c.loop-i.i _ _ c.loop-i-test.true
          (Exits.reference_added _ _ _ _ _ c.loop-i.i c.cell_reference_at-number.result c.loop-i.count more.result c.saturating_add-count.result
          c.loop-i.scratch.counts.now c.loop-i.scratch.marks.now more.new.scratch.counts.now more.new.scratch.marks.now c.cell_reference_at-number.ensures more.ensures.units c.saturating_add-count.ensures);
    }

pub cell_draw_units-returns-clause-units : goal.cell_draw_units-returns-clause-units
cell_draw_units-returns-clause-units t c =
    let a = c.args in
    let opened = c.stack_insert in
    let loop = c.loop-i in
    let closed = c.stack_remove in
    Exits.cell_counted a.sheet.now a.finder.now a.kinds a.depth a.cell a.scratch.now.counts.now a.scratch.now.marks.now c.look_up.ensures _ c.in-Some.is c.if-depth-eq0.false
    (sym c.cache_contains.ensures ∙ c.if-cache_contains.false)
    c.cell_at-record.result loop.count
    opened.new.self.marks.now loop.scratch.marks.now closed.new.self.marks.now c.cache_insert.new.self.marks.now loop.scratch.counts.now c.cache_insert.new.self.counts.now
    (sym c.stack_contains.ensures ∙ c.if-stack_contains.false) opened.ensures.marks c.cell_at-record.ensures
    (rw (← opened.ensures.others.1) (loop.invariant.folded ∙ fold_done _ _ loop.i _ c.loop-i-test.false))
    closed.ensures.marks
    c.cache_insert.ensures.marks
    (rw (← closed.ensures.others.1) c.cache_insert.ensures.counts)

pub reference_draw_units-returns-clause-units : goal.reference_draw_units-returns-clause-units
unfolding saturate
reference_draw_units-returns-clause-units t c =
    let a = c.args in
    let source = c.source_draw_units-source_count in
    Exits.reference_deep a.sheet.now a.finder.now a.kinds a.depth a.reference a.scratch.now.counts.now a.scratch.now.marks.now c.grid_count-count.result c.grid_count-count.ensures c.if-count-eq0.false
    source.result c.saturating_mul-2.result _ _ c.if-depth-le1.false source.ensures.units c.saturating_mul-2.ensures
