-- The visits: `visit_cell`, `visit_reference` and `visit_source` of bevy_scene.rs, with their tests and their records in the Rust's order.
-- Document 01: "Visiting follows `visit_cell`, `visit_reference` and `visit_source`, where depth falls by one."
-- Only the visit of a reference recurses, on the depth; the other two are given how a reference is visited.
-- Definitions only; rests on the definitions of geometry, grid and screen, the abstract sheet, `DrawUnits` and `Push`.
use Rattle.std.specs.Prelude.{false, not, cond, Some, None, ℕ, zero, suc, ◌/◌, max, eqb}
use Rattle.std.proofs.Math.Option.{Option, none, some}
use Rattle.geometry.specs.declared.bbox.WorldBBox.{WorldBBox}
use Rattle.geometry.specs.declared.bbox.Bounds.{Bounds}
use Rattle.geometry.specs.declared.bbox.Bounds.TheVariants.{Absent, Box}
use Rattle.geometry.specs.declared.placement.Placement.{Placement}
use Rattle.screen.specs.declared.CollapseTest.{CollapseTest}
use Rattle.screen.specs.declared.CollapseTest.TheVariants as test
use Rattle.geometry.specs.Placement.{◌·◌}
use Rattle.geometry.specs.Bbox.{transform_bbox, overlaps, source_is_degenerate, transform_bounds, is_outside, bbox}
use Rattle.grid.specs.Grid.{grid_count, grid_member_transform, reference_bbox}
use Rattle.screen.specs.Screen.{FirstMet, reference_screen_size, is_subpixel, collapse_test, collapses}
use Rattle.records.specs.declared.PreparedSource.{PreparedSource}
use Rattle.records.specs.declared.PreparedSource.TheVariants.{Geometry, Text, Node, Reference, Cell}
use Rattle.records.specs.declared.PreparedReference.{PreparedReference}
use Rattle.records.specs.Sources.{no_label, label}
use Rattle.abstract_sheet.specs.Sheet.{CellRecord, Sheet}
use Rattle.plan_rules.specs.declared.Reason.{Reason}
use Rattle.plan_rules.specs.declared.Reason.TheVariants as reason
use Rattle.plan_rules.specs.Event.{Event, skipped_member, culled_reference, detail_cell, Step, batch_at, text_at, node_at, reference_at, member}
use Rattle.plan_rules.specs.World.{Query, detail_cells_full, detail_budget_exhausted, World, world, Flow, go, halt, bind, ending, each, set_mark}
use Rattle.plan_rules.specs.Scratch.{open_place, is_marked}
use Rattle.plan_rules.specs.DrawUnits.{Units, reference_draw_units}
use Rattle.plan_rules.specs.Push.{say, add_load, add_load_if_boxed, push_geometry, push_text, push_node}

-- ---- values

-- `draw_units.checked_div(grid_count).unwrap_or(1).max(1)`
unfoldable pub source_units : ℕ → ℕ → ℕ
source_units units count = max (cond (eqb count 0) 1 (units / count)) 1

-- the reason that the first test met gives
abbrev pub collapse_reason : CollapseTest → Reason
collapse_reason test.Depth = reason.DepthAtMostOne
collapse_reason test.Side = reason.SmallSide
collapse_reason test.Grid = reason.LargeGrid
collapse_reason test.Density = reason.DenseReference

-- that of the box. (A reference that passes all the tests gets none.)
abbrev pub box_reason : FirstMet → Reason
box_reason None = reason.DenseReference
box_reason (Some test) = collapse_reason test

module _ {P A : Type 0} (enter : Step → P → P) (emit : P → Event → ℕ → A → A) where
  -- `push_node` was `false`: the cell's box is added, and the visit of the cell is over
  abbrev pub halt_with_cell : P → ℕ → Bounds → Flow A → Flow A
  halt_with_cell t n box (go w) = go w
  halt_with_cell t n box (halt w) = halt (add_load_if_boxed enter emit t reason.OtherLimit n box w)

  -- Document 02, paper 5: "Then the whole reference's box shall be added after the member's box, without a label, also if that member is the last."
  abbrev pub load_member : P → P → ℕ → WorldBBox → WorldBBox → World A → World A
  load_member t here l box world_box w = add_load enter emit t reason.OtherLimit no_label world_box (add_load enter emit here reason.OtherLimit l box w)

  -- `visit_source` was `false`: the member's box and the reference's are added, and the visit of the reference is over. Only a node's visit is `false`.
  abbrev pub halt_with_member : P → P → ℕ → WorldBBox → WorldBBox → Flow A → Flow A
  halt_with_member t here l box world_box (go w) = go w
  halt_with_member t here l box world_box (halt w) = halt (load_member t here l box world_box w)

  -- the scratch as a count leaves it
  abbrev pub with_scratch : Units → World A → World A
  with_scratch u w = world w.state w.out u.counts u.marks

  module _ (S : Sheet) (cells : ℕ) (q : Query) where
    abbrev pub VisitReference : Type 0
    VisitReference = P → ℕ → Placement → World A → World A

    abbrev pub VisitSource : Type 0
    VisitSource = P → PreparedSource → Placement → World A → Flow A

    -- ---- `visit_cell`

    -- the four loops: at an exhausted budget the cell's box is added, and the visit is over
    module _ (t : P) (n : ℕ) (c : CellRecord) (p : Placement) (box : Bounds) where
      unfoldable pub geometry_step : ℕ → World A → Flow A
      geometry_step i w =
          cond (detail_budget_exhausted q w.state) (halt (add_load_if_boxed enter emit t reason.OtherLimit n box w))
          (go (push_geometry enter emit S q (enter (batch_at i) t) (c.geometries.at i) p w))

      unfoldable pub text_step : ℕ → World A → Flow A
      text_step i w =
          cond (detail_budget_exhausted q w.state) (halt (add_load_if_boxed enter emit t reason.OtherLimit n box w))
          (go (push_text enter emit S q (enter (text_at i) t) (c.texts.at i) p w))

      unfoldable pub node_step : ℕ → World A → Flow A
      node_step i w =
          cond (detail_budget_exhausted q w.state) (halt (add_load_if_boxed enter emit t reason.OtherLimit n box w))
          (halt_with_cell t n box (push_node enter emit S q (enter (node_at i) t) (c.nodes.at i) p w))

      unfoldable pub reference_step : VisitReference → ℕ → World A → Flow A
      reference_step visit i w =
          cond (detail_budget_exhausted q w.state) (halt (add_load_if_boxed enter emit t reason.OtherLimit n box w))
          (go (visit (enter (reference_at i) t) (c.references.at i) p w))

      unfoldable pub cell_body : VisitReference → World A → Flow A
      cell_body visit w =
          bind (bind (bind (each geometry_step c.geometries.count 0 w)
          (each text_step c.texts.count 0))
          (each node_step c.nodes.count 0))
          (each (reference_step visit) c.references.count 0)

    -- "A circle of cells ends in a proxy if the cell met again has a box, else in nothing."
    unfoldable pub visit_found_cell : VisitReference → P → ℕ → Placement → Option CellRecord → World A → World A
    visit_found_cell visit t n p none w = w
    visit_found_cell visit t n p (some c) w =
        let box = transform_bounds p c.bbox in
        cond (is_outside box q.view) w
        (cond (detail_cells_full w.state) (add_load_if_boxed enter emit t reason.CellLimit n box w)
        (cond (detail_budget_exhausted q w.state) (add_load_if_boxed enter emit t reason.OtherLimit n box w)
        (cond (is_marked w.marks (open_place cells n)) (add_load_if_boxed enter emit t reason.Circle n box w)
        (set_mark (open_place cells n) 0 (ending (cell_body t n c p box visit (say enter emit t detail_cell (set_mark (open_place cells n) 1 w))))))))

    -- ---- `visit_source`

    unfoldable pub visit_source_with : VisitReference → VisitSource
    visit_source_with visit t (Geometry n) p w = go (push_geometry enter emit S q t n p w)
    visit_source_with visit t (Text n) p w = go (push_text enter emit S q t n p w)
    visit_source_with visit t (Node n) p w = push_node enter emit S q t n p w
    visit_source_with visit t (Reference n) p w = go (visit t n p w)
    visit_source_with visit t (Cell n) p w = go (visit_found_cell visit t n p (S.cell n) w)

    -- ---- `visit_reference` at a depth, given how a source is visited at the depth below

    module _ (visit : VisitSource) (depth : ℕ) (t : P) (r : PreparedReference) (p : Placement) (sourceBox world_box : WorldBBox) where
      -- one member, `units` being one member's share of the draw units
      unfoldable pub member_step : ℕ → ℕ → ℕ → World A → Flow A
      member_step units column row w =
          let placement = p · grid_member_transform r.grid column row in
          let box = transform_bbox placement sourceBox in
          let size = reference_screen_size box q.zoom (source_is_degenerate sourceBox) in
          let test = collapse_test size.width size.height 1 units depth false in
          let here = enter (member column row) t in
          cond (detail_budget_exhausted q w.state) (halt (add_load enter emit t reason.OtherLimit (label r.source) world_box w))
          (cond (not (overlaps box q.view)) (go (say enter emit here culled_reference w))
          (cond (is_subpixel size) (go (say enter emit here (skipped_member (source_is_degenerate sourceBox) box) w))
          (cond (collapses test) (go (add_load enter emit here (box_reason test) (label r.source) box w))
          (halt_with_member t here (label r.source) box world_box (visit here r.source placement w)))))

      unfoldable pub column_step : ℕ → ℕ → World A → Flow A
      column_step units column w = each (member_step units column) r.grid.rows 0 w

      -- its draw units counted, the reference collapses or its members are visited, column by column
      unfoldable pub visit_counted_reference : Units → World A → World A
      visit_counted_reference u w =
          let size = reference_screen_size world_box q.zoom (source_is_degenerate sourceBox) in
          let test = collapse_test size.width size.height (grid_count r.grid) u.units depth false in
          cond (collapses test)
          (add_load enter emit t (box_reason test) (label r.source) world_box (with_scratch u w))
          (ending (each (column_step (source_units u.units (grid_count r.grid))) r.grid.columns 0 (with_scratch u w)))

    -- `let Some(local_bbox) = reference_bbox(..) else { return; }` and what follows
    unfoldable pub visit_boxed_reference : VisitSource → ℕ → P → PreparedReference → Placement → WorldBBox → Bounds → World A → World A
    visit_boxed_reference visit depth t r p sourceBox Absent w = w
    visit_boxed_reference visit depth t r p sourceBox (Box a b c d) w =
        let world_box = transform_bbox p (bbox a b c d) in
        cond (not (overlaps world_box q.view)) (say enter emit t culled_reference w)
        (cond (detail_cells_full w.state) (add_load enter emit t reason.CellLimit (label r.source) world_box w)
        (cond (detail_budget_exhausted q w.state) (add_load enter emit t reason.OtherLimit (label r.source) world_box w)
        (visit_counted_reference visit depth t r p sourceBox world_box (reference_draw_units S cells depth r w.counts w.marks) w)))

    -- `let Some(source_bbox) = reference.source_bbox else { return; }`
    unfoldable pub visit_sourced_reference : VisitSource → ℕ → P → PreparedReference → Placement → Bounds → World A → World A
    visit_sourced_reference visit depth t r p Absent w = w
    visit_sourced_reference visit depth t r p (Box a b c d) w =
        visit_boxed_reference visit depth t r p (bbox a b c d) (reference_bbox r.grid (bbox a b c d)) w

    -- (A number that names no reference is passed over; no sheet that passes question 7 has one.)
    unfoldable pub visit_found_reference : VisitSource → ℕ → P → Placement → Option PreparedReference → World A → World A
    visit_found_reference visit depth t p none w = w
    visit_found_reference visit depth t p (some r) w = visit_sourced_reference visit depth t r p r.source_bbox w

    -- ---- the three visits. At depth 0, as at depth 1, a reference collapses and no source is visited.

    unfoldable pub visit_reference : ℕ → VisitReference
    visit_reference zero t n p w = visit_found_reference (λ t s p w. go w) 0 t p (S.reference n) w
    visit_reference (suc depth) t n p w = visit_found_reference (visit_source_with (visit_reference depth)) (suc depth) t p (S.reference n) w

    unfoldable pub visit_source : ℕ → VisitSource
    visit_source depth = visit_source_with (visit_reference depth)

    unfoldable pub visit_cell : ℕ → VisitReference
    visit_cell depth t n p w = visit_found_cell (visit_reference depth) t n p (S.cell n) w
