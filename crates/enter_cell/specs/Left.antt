-- A cell that is there: its visit from here on, and what is left of it after `enter_cell`, for any way to visit on.
-- Definitions only; rests on the rules at the code's end.
use Rattle.std.specs.Prelude.{◌≡◌, List, ℕ}
use Rattle.std.specs.declared.ops.ControlFlow.{ControlFlow}
use Rattle.std.specs.declared.ops.ControlFlow.TheVariants.{Continue, Break}
use Rattle.std.proofs.Math.Option.{some}
use Rattle.std.specs.Borrow.{MutBor}
use Rattle.geometry.specs.declared.bbox.Bounds.{Bounds}
use Rattle.geometry.specs.declared.placement.Placement.{Placement}
use Rattle.abstract_sheet.specs.Sheet.{CellRecord}
use Rattle.plan_rules.specs.declared.ScenePlan.{ScenePlan}
use Rattle.plan_rules.specs.declared.Fixed.{Fixed}
use Rattle.plan_rules.specs.Scratch.{open_place}
use Rattle.plan_rules.specs.World.{world, ending, set_mark}
use Rattle.plan_rules.specs.OnTape.{Given, Output, VisitReference, cell_body, visit_found_cell}
use Rattle.enter_cell.specs.declared.Entered.{Entered}

module _ {f : Fixed} (g : Given f) where
  abbrev pub found_cell : VisitReference g → ℕ → CellRecord → Placement → Output → Output
  found_cell on n c p w = visit_found_cell g on n p (some c) w

  -- its lists, and then the cell is closed; or nothing
  abbrev pub left_of_cell : VisitReference g → ℕ → CellRecord → Placement → ControlFlow ScenePlan Entered → List ℕ → List ℕ → List ℕ → Output
  left_of_cell on n c p (Continue r) o k m = set_mark (open_place f.counts.cells n) 0 (ending (cell_body g n c p r.bounds on (world r.plan o k m)))
  left_of_cell on n c p (Break s) o k m = world s o k m

-- What the step promises of a cell by its box, from the output and marks (before) to those that it leaves: whatever a plan is given and the way to visit
-- on, what is left to do is the visit from the step on.
abbrev pub EntersCell : Fixed → ℕ → Bounds → Placement → ControlFlow ScenePlan Entered → MutBor (List ℕ) → MutBor (List ℕ) → ScenePlan → MutBor (List ℕ) → MutBor (List ℕ) → Type 0
EntersCell f n bbox p r out marks plan outBefore marksBefore =
    (g : Given f) (on : VisitReference g) (c : CellRecord) (k : List ℕ) → c.bbox ≡ bbox
    → left_of_cell g on n c p r out.now k marks.now ≡ found_cell g on n c p (world plan outBefore.now k marksBefore.now)
