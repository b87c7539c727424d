-- Lists of numbers, and the loops of `visit_cell` for a cell that is open, at the code's end of the rules.
-- Definitions only; rests on the rules.
use Rattle.std.specs.Prelude.{◌≡◌, cond, List, ℕ, eqb, Result}
use Rattle.std.specs.Borrow.{MutBor}
use Rattle.abstract_sheet.specs.Sheet.{CellRecord, cell_record_with}
use Rattle.plan_rules.specs.declared.ScenePlan.{ScenePlan}
use Rattle.plan_rules.specs.declared.Halted.{Halted}
use Rattle.plan_rules.specs.declared.Fixed.{Fixed}
use Rattle.plan_rules.specs.declared.Reason.TheVariants.{OtherLimit}
use Rattle.plan_rules.specs.World.{detail_budget_exhausted, world, Flow, halt, bind, each, ending}
use Rattle.plan_rules.specs.OnTape.{Given, query, Output, VisitReference, add_load_if_boxed, halt_with_cell, flow_of, geometry_step, text_step, node_step, reference_step, cell_body}
use Rattle.visit_items.specs.declared.OpenCell.{OpenCell}

-- what is done with a number
abbrev pub Push : Type 0
Push = ℕ → Output → Flow (List ℕ)

module _ {f : Fixed} (g : Given f) (push : Push) (at : ℕ → ℕ) where
  -- ---- a list of numbers

  -- the number at a place: the first is given and pushed whatever the budget, each of the others with room, else the list halts
  unfoldable pub push_at : ℕ → ℕ → Output → Flow (List ℕ)
  push_at first i w = cond (eqb i 0) (push first w) (cond (detail_budget_exhausted (query g) w.state) (halt w) (push (at i) w))

  abbrev pub push_numbers : ℕ → ℕ → Output → Flow (List ℕ)
  push_numbers first count = each (push_at first) count 0

  -- ---- a list of a cell

  module _ (c : OpenCell) where
    -- each number with room; where a limit stops the list, the cell's box is added
    unfoldable pub cell_step : ℕ → Output → Flow (List ℕ)
    cell_step i w =
        cond (detail_budget_exhausted (query g) w.state) (halt (add_load_if_boxed OtherLimit c.number c.bounds w))
        (halt_with_cell c.number c.bounds (push (at i) w))

    abbrev pub cell_list : ℕ → Output → Flow (List ℕ)
    cell_list count = each cell_step count 0

-- ---- the lists of a cell

-- the cell's record, with its lists in the sheet's bytes
abbrev pub opened : List ℕ → OpenCell → CellRecord
opened s c = cell_record_with s c.at c.record

-- its lists by that record
module _ {f : Fixed} (g : Given f) (c : OpenCell) (x : CellRecord) where
  abbrev pub cell_geometries : Output → Flow (List ℕ)
  cell_geometries = each (geometry_step g c.number x c.transform c.bounds) x.geometries.count 0

  abbrev pub cell_texts : Output → Flow (List ℕ)
  cell_texts = each (text_step g c.number x c.transform c.bounds) x.texts.count 0

  abbrev pub cell_nodes : Output → Flow (List ℕ)
  cell_nodes = each (node_step g c.number x c.transform c.bounds) x.nodes.count 0

  -- the three, one after the other: `cell_body` up to its references
  abbrev pub cell_lists : Output → Flow (List ℕ)
  cell_lists w = bind (bind (cell_geometries w) cell_texts) cell_nodes

  -- all its lists, its references among them
  abbrev pub visit_lists : VisitReference g → Output → Output
  visit_lists on w = ending (cell_body g c.number x c.transform c.bounds on w)

  -- what is left after `OpenCell::push_items`, as its contract said before: whatever the way to visit on and the scratch, the references, visited where no limit was met, leave what all its lists leave
  abbrev pub LeavesReferences : Result ScenePlan Halted → MutBor (List ℕ) → ScenePlan → MutBor (List ℕ) → Type 0
  LeavesReferences r out plan before =
      (on : VisitReference g) (k m : List ℕ)
      → ending (bind (flow_of r (λ p. world p out.now k m)) (each (reference_step g c.number x c.transform c.bounds on) x.references.count 0))
      ≡ visit_lists on (world plan before.now k m)
