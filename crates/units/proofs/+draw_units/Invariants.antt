-- The falling number is 4 * depth and the place in the order reference, number, cell, source: a source asks a cell or a number at its own depth, a cell
-- a number and a number its reference at its own depth, and a reference its source one depth below.
use Prim.Native.Nat.{◌+◌, ◌-◌, ◌*◌}
use mathlib.Core.Path.{◌≡◌}
use Rattle.scratch.specs.Lent.{StaysLent}
use Rattle.plan_rules.specs.DrawUnits.{counted, fold}
use Rattle.units.proofs.Exits
use Rattle.units.proofs.+draw_units.Given as goal

abbrev pub decreases-reference_draw_units : goal.decreases-reference_draw_units
decreases-reference_draw_units l = 4 * l.depth + 1

abbrev pub decreases-numbered_draw_units : goal.decreases-numbered_draw_units
decreases-numbered_draw_units l = 4 * l.depth + 2

abbrev pub decreases-cell_draw_units : goal.decreases-cell_draw_units
decreases-cell_draw_units l = 4 * l.depth + 3

abbrev pub decreases-source_draw_units : goal.decreases-source_draw_units
decreases-source_draw_units l = 4 * l.depth + 4

-- the whole fold is what is left to fold from here
abbrev pub invariant-cell_draw_units-loop-i : goal.invariant-cell_draw_units-loop-i
invariant-cell_draw_units-loop-i l =
    record {
      lent : StaysLent l.fn.scratch l.scratch;
      folded : fold (Exits.added_at l.sheet l.finder l.kinds l.depth l.at) l.references 0 (counted l.initial.count l.initial.scratch.counts.now l.initial.scratch.marks.now)
          ≡ fold (Exits.added_at l.sheet l.finder l.kinds l.depth l.at) (l.references - l.i) l.i (counted l.count l.scratch.counts.now l.scratch.marks.now);
    }
