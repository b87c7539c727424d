-- `visit_cell` and `visit_source` by code path, over the bytes of a sheet: one law for each way out, its premises being what the calls on that way ensure.
-- They join the look-up laws of the abstract sheet with the rules by code path.
-- Assumes nothing.
use mathlib.Core.Path.{◌≡◌, sym, ap, ◌∙◌}
use mathlib.Core.Bool.{true, false}
use mathlib.Core.List.{List}
use mathlib.Core.Option.{Option}
use Prim.Native.Nat.{ℕ, ◌-◌}
use lib.ListN.{set}
use Rattle.geometry.specs.declared.placement.Placement.{Placement}
use Rattle.walk.specs.Find.{Found}
use Rattle.std.proofs.Common.{Some, None}
use Rattle.records.specs.declared.PreparedSource.{PreparedSource}
use Rattle.records.specs.declared.PreparedSource.TheVariants.{Geometry, Text, Node, Reference, Cell}
use Rattle.records.specs.declared.PreparedCell.{PreparedCell}
use Rattle.records.specs.Records.{cell_at, cell_reference_at}
use Rattle.abstract_sheet.specs.Sheet.{CellRecord, cell_record_with, cell_record_at, cells}
use Rattle.look_up.specs.Look.{look}
use Rattle.look_up.proofs.Looking.{item_looked}
use Rattle.plan_rules.specs.declared.ScenePlan.{ScenePlan}
use Rattle.plan_rules.specs.declared.Fixed.{Fixed}
use Rattle.plan_rules.specs.declared.Given as lends
use Rattle.plan_rules.specs.declared.Reason.TheVariants.{OtherLimit}
use Rattle.plan_rules.specs.World.{detail_budget_exhausted, world, Flow, go, halt, ending, each, set_mark}
use Rattle.plan_rules.specs.Scratch.{open_place}
use Rattle.plan_rules.specs.Visit as rules
use Rattle.plan_rules.specs.OnTape.{Given, given_of, Output, query, add_load_if_boxed, push_geometry, push_text, push_node, reference_step, visit_found_cell, on_reference, visit_cell, visit_reference, visit_source}
use Rattle.plan_rules.proofs.Paths.Cells as Paths
use Rattle.plan_rules.proofs.Paths.Loops.{each_start}
use Rattle.visit_items.specs.declared.OpenCell.{OpenCell}
use Rattle.visit_items.specs.Lists.{opened, push_numbers}
use Rattle.visit_items.proofs.NumberLoop.{one}
use Rattle.enter_cell.specs.Left.{found_cell}

-- one turn of the loop over the references of the cell at an offset
abbrev pub turn : lends.Given → ℕ → OpenCell → ℕ → Output → Flow (List ℕ)
turn d depth c = reference_step (given_of d) c.number (opened d.sheet.now c) c.transform c.bounds (on_reference (given_of d) depth)

-- a cell is closed after its loop
unfoldable pub closed : Fixed → ℕ → Flow (List ℕ) → Output
closed f cell x = set_mark (open_place f.counts.cells cell) 0 (ending x)

module _ (f : Fixed) (cell : ℕ) {visited : Output} where
  -- its lists are visited: the marks that the code leaves are those of the closed cell
  pub lists_over : {plan : ScenePlan} {o k m m' : List ℕ} {lists : Output} → world plan o k m ≡ lists → set_mark (open_place f.counts.cells cell) 0 lists ≡ visited
      → m' ≡ set m (open_place f.counts.cells cell) 0 → world plan o k m' ≡ visited
  lists_over {plan = plan} {o = o} {k = k} over whole close =
      ap (λ (n : List ℕ). world plan o k n) close ∙ ap (set_mark (open_place f.counts.cells cell) 0) over ∙ whole

  -- the same by its loop, as it begins and where it ends
  pub loop_begins : (step : ℕ → Output → Flow (List ℕ)) (count : ℕ) (w : Output) {lists : Output} → ending (each step count 0 w) ≡ lists
      → set_mark (open_place f.counts.cells cell) 0 lists ≡ visited → closed f cell (each step (count - 0) 0 w) ≡ visited
  unfolding closed
  loop_begins step count w listed whole =
      ap (closed f cell) (each_start step count w) ∙ ap (set_mark (open_place f.counts.cells cell) 0) listed ∙ whole

  pub loop_over : (x : Flow (List ℕ)) {plan : ScenePlan} {o k m m' : List ℕ} → closed f cell x ≡ visited → ending x ≡ world plan o k m
      → m' ≡ set m (open_place f.counts.cells cell) 0 → world plan o k m' ≡ visited
  unfolding closed
  loop_over x whole over close = lists_over (sym over) whole close

module _ (d : lends.Given) (depth : ℕ) where
  abbrev g : Given d.fixed
  g = given_of d

  -- ---- the loop of `visit_cell`

  module _ (c : OpenCell) (i : ℕ) (w v : Output) where
    pub turn_exhausted : detail_budget_exhausted (query g) w.state ≡ true → v ≡ add_load_if_boxed OtherLimit c.number c.bounds w → turn d depth c i w ≡ halt v
    turn_exhausted full boxed = Paths.reference_step_exhausted g c.number (opened d.sheet.now c) c.transform c.bounds i w full _ ∙ ap halt (sym boxed)

    pub turn_goes : (number : ℕ)
        → detail_budget_exhausted (query g) w.state ≡ false
        → number ≡ cell_reference_at d.sheet.now c.at i
        → v ≡ visit_reference g depth number c.transform w
        → turn d depth c i w ≡ go v
    turn_goes number room listed visited =
        Paths.reference_step_goes g c.number (opened d.sheet.now c) c.transform c.bounds i w room _
        ∙ ap (λ (n : ℕ). go (visit_reference g depth n c.transform w)) (sym listed)
        ∙ ap go (sym visited)

  -- ---- `visit_cell`

  module _ (cell : ℕ) (p : Placement) (w : Output) where
    abbrev visited : Output
    visited = visit_cell g depth cell p w

    pub cell_missing : {found : Found} → found ≡ look d.sheet.now d.finder.now d.fixed.counts 5 cell → found ≡ None → w ≡ visited
    cell_missing looked told = sym (Paths.cell_missing g depth cell p w (item_looked cells d.sheet.now d.finder.now d.fixed.counts cell looked told))

    -- the cell is found at an offset, and its record is read
    module _ {looked_up : Found} (looked : looked_up ≡ look d.sheet.now d.finder.now d.fixed.counts 5 cell) (at : ℕ) (told : looked_up ≡ Some at) (record₁ : PreparedCell) (read : record₁ ≡ cell_at d.sheet.now at) where
      pub found : found_cell g (on_reference g depth) cell (cell_record_with d.sheet.now at record₁) p w ≡ visited
      unfolding rules.visit_cell cell_record_at
      found =
          ap (λ (x : PreparedCell). found_cell g (on_reference g depth) cell (cell_record_with d.sheet.now at x) p w) read
          ∙ sym (ap (λ (o : Option CellRecord). visit_found_cell g (on_reference g depth) cell p o w) (item_looked cells d.sheet.now d.finder.now d.fixed.counts cell looked told))

  -- ---- `visit_source`

  module _ (source : PreparedSource) (n : ℕ) (p : Placement) (w : Output) where
    abbrev sourced : Flow (List ℕ)
    sourced = visit_source g depth source p w

    pub source_cell : source ≡ Cell n → (v : Output) → v ≡ visit_cell g depth n p w → go v ≡ sourced
    source_cell e v f = rw e (ap go f ∙ sym (Paths.source_cell g depth n p w))

    -- a list of the one number
    module _ (at : ℕ → ℕ) (x : Flow (List ℕ)) where
      pub source_geometry : source ≡ Geometry n → x ≡ push_numbers g (λ n w. go (push_geometry g n p w)) at n 1 w → x ≡ sourced
      source_geometry e f = rw e (f ∙ one g _ at n w ∙ sym (Paths.source_geometry g depth n p w))

      pub source_text : source ≡ Text n → x ≡ push_numbers g (λ n w. go (push_text g n p w)) at n 1 w → x ≡ sourced
      source_text e f = rw e (f ∙ one g _ at n w ∙ sym (Paths.source_text g depth n p w))

      pub source_node : source ≡ Node n → x ≡ push_numbers g (λ n w. push_node g n p w) at n 1 w → x ≡ sourced
      source_node e f = rw e (f ∙ one g _ at n w ∙ sym (Paths.source_node g depth n p w))

    pub source_reference : source ≡ Reference n → (v : Output) → v ≡ visit_reference g depth n p w → go v ≡ sourced
    source_reference e v f = rw e (ap go f ∙ sym (Paths.source_reference g depth n p w))
