-- A plan over the Rust's memory: `complexity_cache`, `complexity_stack` and `cell_stack` stand beside what the events are sent to, and no scratch is lent.
-- Only what touches the memory is written anew: `visit_cell`, and the count in `visit_reference`. All else is the rules' own.
-- Definitions only. Assumes nothing.
use Rattle.std.specs.Prelude.{true, false, not, cond, [], ℕ, zero, suc}
use Rattle.std.proofs.Math.Option.{Option, none, some}
use Rattle.geometry.specs.declared.bbox.WorldBBox.{WorldBBox}
use Rattle.geometry.specs.declared.bbox.Bounds.{Bounds}
use Rattle.geometry.specs.declared.bbox.Bounds.TheVariants.{Absent, Box}
use Rattle.geometry.specs.declared.placement.Placement.{Placement}
use Rattle.geometry.specs.Placement.{IDENTITY}
use Rattle.geometry.specs.Bbox.{transform_bbox, overlaps, transform_bounds, is_outside, bbox}
use Rattle.grid.specs.Grid.{reference_bbox}
use Rattle.records.specs.declared.PreparedSource.TheVariants.{Geometry, Text, Node, Reference, Cell}
use Rattle.records.specs.declared.PreparedReference.{PreparedReference}
use Rattle.records.specs.Sources.{label}
use Rattle.abstract_sheet.specs.Sheet.{CellRecord, Sheet}
use Rattle.plan_rules.specs.declared.Reason.TheVariants as reason
use Rattle.plan_rules.specs.Event.{Event, culled_reference, detail_cell, totals, Step, empty_plan}
use Rattle.plan_rules.specs.World.{Query, detail_cells_full, detail_budget_exhausted, World, world, go, ending}
use Rattle.plan_rules.specs.DrawUnits.{counted}
use Rattle.plan_rules.specs.Push.{say, add_load, add_load_if_boxed, push_geometry, push_text, push_node}
use Rattle.plan_rules.specs.Visit.{VisitReference, VisitSource, cell_body, visit_counted_reference}
use Rattle.plan_rules.specs.Plan.{load_root}
use Rattle.plan_rules.specs.Maps.{Maps, empty_maps, opened, mapped_reference}

module _ {P A : Type 0} (enter : Step → P → P) (emit : P → Event → ℕ → A → A) where
  -- an event leaves the memory alone
  abbrev pub emit_beside : P → Event → ℕ → A × Maps → A × Maps
  emit_beside t e at x = (emit t e at x.0, x.1)

  -- the memory as an insertion, a removal or a count leaves it
  abbrev pub with_maps : Maps → World (A × Maps) → World (A × Maps)
  with_maps w x = world x.state (x.out.0, w) x.counts x.marks

  module _ (S : Sheet) (q : Query) where
    -- `visit_cell`, with `self.cell_stack.insert(..)` and `self.cell_stack.remove(..)`
    unfoldable pub visit_mapped_cell : VisitReference enter emit_beside S 0 q → P → ℕ → Placement → Option CellRecord → World (A × Maps) → World (A × Maps)
    visit_mapped_cell visit t n p none w = w
    visit_mapped_cell visit t n p (some c) w =
        let box = transform_bounds p c.bbox in
        cond (is_outside box q.view) w
        (cond (detail_cells_full w.state) (add_load_if_boxed enter emit_beside t reason.CellLimit n box w)
        (cond (detail_budget_exhausted q w.state) (add_load_if_boxed enter emit_beside t reason.OtherLimit n box w)
        (cond (w.out.1.cell_stack n) (add_load_if_boxed enter emit_beside t reason.Circle n box w)
        (let v = ending (cell_body enter emit_beside S 0 q t n c p box visit (say enter emit_beside t detail_cell (with_maps (opened n true w.out.1) w))) in
        with_maps (opened n false v.out.1) v))))

    -- `visit_source`
    unfoldable pub visit_mapped_source : VisitReference enter emit_beside S 0 q → VisitSource enter emit_beside S 0 q
    visit_mapped_source visit t (Geometry n) p w = go (push_geometry enter emit_beside S q t n p w)
    visit_mapped_source visit t (Text n) p w = go (push_text enter emit_beside S q t n p w)
    visit_mapped_source visit t (Node n) p w = push_node enter emit_beside S q t n p w
    visit_mapped_source visit t (Reference n) p w = go (visit t n p w)
    visit_mapped_source visit t (Cell n) p w = go (visit_mapped_cell visit t n p (S.cell n) w)

    -- `visit_reference` from its box on, with `self.reference_draw_units(..)`
    unfoldable pub visit_mapped_boxed : VisitSource enter emit_beside S 0 q → ℕ → P → PreparedReference → Placement → WorldBBox → Bounds → World (A × Maps) → World (A × Maps)
    visit_mapped_boxed visit depth t r p sourceBox Absent w = w
    visit_mapped_boxed visit depth t r p sourceBox (Box a b c d) w =
        let world_box = transform_bbox p (bbox a b c d) in
        let u = mapped_reference S depth r w.out.1 in
        cond (not (overlaps world_box q.view)) (say enter emit_beside t culled_reference w)
        (cond (detail_cells_full w.state) (add_load enter emit_beside t reason.CellLimit (label r.source) world_box w)
        (cond (detail_budget_exhausted q w.state) (add_load enter emit_beside t reason.OtherLimit (label r.source) world_box w)
        (visit_counted_reference enter emit_beside S 0 q visit depth t r p sourceBox world_box (counted u.units [] []) (with_maps u.maps w))))

    -- `let Some(source_bbox) = reference.source_bbox else { return; }`
    unfoldable pub visit_mapped_sourced : VisitSource enter emit_beside S 0 q → ℕ → P → PreparedReference → Placement → Bounds → World (A × Maps) → World (A × Maps)
    visit_mapped_sourced visit depth t r p Absent w = w
    visit_mapped_sourced visit depth t r p (Box a b c d) w = visit_mapped_boxed visit depth t r p (bbox a b c d) (reference_bbox r.grid (bbox a b c d)) w

    -- a reference by number
    unfoldable pub visit_mapped_found : VisitSource enter emit_beside S 0 q → ℕ → P → Placement → Option PreparedReference → World (A × Maps) → World (A × Maps)
    visit_mapped_found visit depth t p none w = w
    visit_mapped_found visit depth t p (some r) w = visit_mapped_sourced visit depth t r p r.source_bbox w

    -- `visit_reference` at a depth
    unfoldable pub visit_mapped_reference : ℕ → VisitReference enter emit_beside S 0 q
    visit_mapped_reference zero t n p w = visit_mapped_found (λ t s p w. go w) 0 t p (S.reference n) w
    visit_mapped_reference (suc depth) t n p w = visit_mapped_found (visit_mapped_source (visit_mapped_reference depth)) (suc depth) t p (S.reference n) w

    -- the root, as `visit_root` of `Plan`
    unfoldable pub visit_mapped_root : ℕ → P → World (A × Maps) → World (A × Maps)
    visit_mapped_root zero t w = load_root enter emit_beside S 0 q t (S.cell q.root) w
    visit_mapped_root (suc depth) t w = visit_mapped_cell (visit_mapped_reference (suc depth)) t q.root IDENTITY (S.cell q.root) w

    -- `plan`, from empty maps
    unfoldable pub mapped_plan : P → A → World (A × Maps)
    mapped_plan t o =
        let v = visit_mapped_root q.depth t (world empty_plan (o, empty_maps) [] []) in
        say enter emit_beside t (totals v.state) v
