-- `visit_cell` of a cell that is there, by code path up to its loops, however its references are visited.
-- Assumes nothing.
use mathlib.Core.Path.{◌≡◌, ◌∙◌}
use mathlib.Core.Bool.{true, false}
use mathlib.Core.Option.{some}
use Prim.Native.Nat.{ℕ}
use Rattle.geometry.specs.declared.bbox.Bounds.{Bounds}
use Rattle.geometry.specs.declared.placement.Placement.{Placement}
use Rattle.geometry.specs.Bbox.{transform_bounds, is_outside}
use Rattle.abstract_sheet.specs.Sheet.{CellRecord}
use Rattle.plan_rules.specs.declared.Fixed.{Fixed}
use Rattle.plan_rules.specs.declared.Reason.TheVariants as reason
use Rattle.plan_rules.specs.Event.{detail_cell}
use Rattle.plan_rules.specs.World.{detail_cells_full, detail_budget_exhausted, ending, set_mark}
use Rattle.plan_rules.specs.Scratch.{open_place, is_marked}
use Rattle.plan_rules.specs.Visit as visit
use Rattle.plan_rules.specs.OnTape.{Given, Output, query, say, add_load_if_boxed, VisitReference, cell_body, visit_found_cell}

module _ {f : Fixed} (g : Given f) (on : VisitReference g) (n : ℕ) (p : Placement) (c : CellRecord) (w : Output) (box : Bounds) (placed : box ≡ transform_bounds p c.bbox) where
  abbrev visited : Output
  visited = visit_found_cell g on n p (some c) w

  pub cell_outside : is_outside box f.options.view ≡ true → w ≡ visited
  unfolding visit.visit_found_cell
  cell_outside a = rw (← placed, a)

  module _ (inside : is_outside box f.options.view ≡ false) where
    -- a limit is met, or the cell is open: v is the world with its box added
    pub cell_detail_full : detail_cells_full w.state ≡ true → (v : Output) → v ≡ add_load_if_boxed reason.CellLimit n box w → v ≡ visited
    unfolding visit.visit_found_cell
    cell_detail_full b v added = added ∙ (rw (← placed, inside, b))

    module _ (cells_left : detail_cells_full w.state ≡ false) where
      pub cell_exhausted : detail_budget_exhausted (query g) w.state ≡ true → (v : Output) → v ≡ add_load_if_boxed reason.OtherLimit n box w → v ≡ visited
      unfolding visit.visit_found_cell
      cell_exhausted x v added = added ∙ (rw (← placed, inside, cells_left, x))

      pub cell_open : detail_budget_exhausted (query g) w.state ≡ false → is_marked w.marks (open_place f.counts.cells n) ≡ true
          → (v : Output) → v ≡ add_load_if_boxed reason.Circle n box w → v ≡ visited
      unfolding visit.visit_found_cell
      cell_open room y v added = added ∙ (rw (← placed, inside, cells_left, room, y))

    -- v is the world in which the cell is open and counted
    pub cell_entered : detail_cells_full w.state ≡ false
        → detail_budget_exhausted (query g) w.state ≡ false
        → is_marked w.marks (open_place f.counts.cells n) ≡ false
        → (v : Output) → v ≡ say detail_cell (set_mark (open_place f.counts.cells n) 1 w)
        → set_mark (open_place f.counts.cells n) 0 (ending (cell_body g n c p box on v)) ≡ visited
    unfolding visit.visit_found_cell
    cell_entered cells_left room closed v opened = rw (← placed, inside, cells_left, room, closed, ← opened)
