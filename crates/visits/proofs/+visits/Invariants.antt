-- The falling number is 3 * depth and the place in the order reference, cell, source: a source visits a cell or a reference at its own depth, a cell its
-- references at its own depth, and a reference its source one depth below. The invariants: the visit is what is left of its loop from here.
-- Assumes nothing.
use mathlib.Core.Path.{◌≡◌}
use Prim.Native.Nat.{◌+◌, ◌-◌, ◌*◌, ◌<◌}
use Rattle.scratch.specs.Lent.{StaysLent}
use Rattle.plan_rules.specs.World.{world, ending, each}
use Rattle.plan_rules.specs.OnTape.{given_of, visit_cell, visit_reference}
use Rattle.visits.proofs.Cells
use Rattle.visits.proofs.References
use Rattle.visits.proofs.+visits.Given as goal

abbrev pub decreases-visit_reference : goal.decreases-visit_reference
decreases-visit_reference l = 3 * l.depth + 1

abbrev pub decreases-visit_cell : goal.decreases-visit_cell
decreases-visit_cell l = 3 * l.depth + 2

abbrev pub decreases-visit_source : goal.decreases-visit_source
decreases-visit_source l = 3 * l.depth + 3

-- the references of a cell
abbrev pub invariant-visit_cell-loop-i : goal.invariant-visit_cell-loop-i
invariant-visit_cell-loop-i l =
    let g = given_of l.given in
    record {
      others : StaysLent l.fn.scratch l.scratch;
      left : Cells.closed l.fixed l.cell (each (Cells.turn l.given l.depth l.open_cell) (l.i-end - l.i) l.i (world l.next l.out l.scratch.counts.now l.scratch.marks.now))
          ≡ visit_cell g l.depth l.cell l.transform (world l.fn.plan l.fn.out l.fn.scratch.counts.now l.fn.scratch.marks.now);
    }

-- the members of a reference
abbrev pub invariant-visit_reference-loop-i : goal.invariant-visit_reference-loop-i
invariant-visit_reference-loop-i l =
    let g = given_of l.given in
    record {
      others : StaysLent l.fn.scratch l.scratch;
      deep : 1 < l.depth;
      left : ending (each (References.turn g l.depth l.reference l.share) (l.count - l.i) l.i (world l.next l.out l.scratch.counts.now l.scratch.marks.now))
          ≡ visit_reference g l.depth l.fn.number l.fn.transform (world l.fn.plan l.fn.out l.fn.scratch.counts.now l.fn.scratch.marks.now);
    }
