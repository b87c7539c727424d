-- HOW MANY PROXIES A PLAN CAN DROP, visit by visit: a reference at depth d at most 2 × (d − 1), a cell whose references are at depth d one more, so a plan at most 2 × depth − 1.
-- Assumes nothing.
use mathlib.Core.Path.{◌≡◌, refl, ◌∙◌}
use mathlib.Core.Bool.{Bool, true, false, not, cond}
use mathlib.Core.List.{List, []}
use mathlib.Core.Option.{Option, none, some}
use Prim.Native.Nat.{ℕ, zero, suc, ◌+◌, ◌-◌, ◌*◌, ◌≤◌}
use native.Mathlib.Omega.{arith}
use borrow.Author.Tests.{le-leb}
use Rattle.geometry.specs.declared.bbox.WorldBBox.{WorldBBox}
use Rattle.geometry.specs.declared.bbox.Bounds.{Bounds}
use Rattle.geometry.specs.declared.bbox.Bounds.TheVariants.{Absent, Box}
use Rattle.geometry.specs.declared.placement.Placement.{Placement}
use Rattle.geometry.specs.Placement.{IDENTITY, transform_point2, ◌·◌}
use Rattle.geometry.specs.Bbox.{transform_bbox, overlaps, point_in_bbox, source_is_degenerate, bbox, transform_bounds, is_outside}
use Rattle.grid.specs.Grid.{grid_count, grid_member_transform, reference_bbox}
use Rattle.screen.specs.Screen.{screen_size, reference_screen_size, is_subpixel, is_dense_batch, collapse_test, collapses}
use Rattle.records.specs.declared.PreparedSource.{PreparedSource}
use Rattle.records.specs.declared.PreparedSource.TheVariants.{Geometry, Text, Node, Reference, Cell}
use Rattle.records.specs.declared.PreparedGeometry.{PreparedGeometry}
use Rattle.records.specs.declared.PreparedText.{PreparedText}
use Rattle.records.specs.declared.PreparedReference.{PreparedReference}
use Rattle.records.specs.Sources.{no_label, label}
use Rattle.abstract_sheet.specs.Sheet.{NodeRecord, CellRecord, Sheet}
use Rattle.plan_rules.specs.declared.Reason.TheVariants as reason
use Rattle.plan_rules.specs.Event.{batch, text, skipped_member, skipped_batch, culled_reference, culled_batch, detail_cell, ◌⊞◌, empty_plan, after}
use Rattle.plan_rules.specs.World.{Query, hides, detail_cells_full, detail_budget_exhausted, world, go, halt, bind, ending, each, set_mark}
use Rattle.plan_rules.specs.Scratch.{open_place, is_marked}
use Rattle.plan_rules.specs.DrawUnits.{Units, reference_draw_units}
use Rattle.plan_rules.specs.Push.{say, add_load, add_load_if_boxed, push_found_geometry, push_geometry, push_found_text, push_text, push_point, push_found_node, push_node}
use Rattle.plan_rules.specs.Visit.{source_units, box_reason, halt_with_cell, halt_with_member, with_scratch, VisitReference, VisitSource, geometry_step, text_step, node_step, reference_step, cell_body, visit_found_cell, visit_source_with, member_step, column_step, visit_counted_reference, visit_boxed_reference, visit_sourced_reference, visit_found_reference, visit_reference, visit_cell}
use Rattle.plan_rules.specs.Plan.{load_root_box, load_root, visit_root}
use Rattle.plan_rules.specs.Tape.{no_tag, note}
use Rattle.totals.specs.Proxies.{dropped_proxies, most_dropped}
use Rattle.totals.proofs.Proxies.{visited}
use Rattle.totals.proofs.Dropped.{Noted, NotedFlow, Free, dropped_at, Adds, still, filled, AddsFlow, Unwinds, more, after_same, ending_adds, cond_adds, cond_flow, bind_unwinds, each_unwinds, exhausted, say_adds, load_free, load_full, boxed_free, boxed_full}

module _ (S : Sheet) (cells : ℕ) (q : Query) where
  -- ---- pushes, from a list that is not full

  found_geometry : (n : ℕ) (p : Placement) (o : Option PreparedGeometry) (w : Noted) → Free w → Adds 0 w (push_found_geometry no_tag note S q tt n p o w)
  unfolding push_found_geometry
  found_geometry n p none w h = still h refl
  found_geometry n p (some x) w h =
      let box = transform_bbox p x.bbox in
      cond_adds (hides q x.layer x.data_type) _ _ (still h refl)
      (cond_adds (not (overlaps box q.view)) _ _ (say_adds culled_batch w refl)
      (cond_adds (is_subpixel (screen_size box q.zoom)) _ _ (say_adds (skipped_batch box) w refl)
      (cond_adds (is_dense_batch (screen_size box q.zoom) x.element_count) _ _ (load_free reason.DenseBatch no_label box w h)
      (cond_adds (detail_budget_exhausted q w.state) _ _ (load_free reason.OtherLimit no_label box w h)
      (say_adds (batch n p) w refl)))))

  found_text : (n : ℕ) (p : Placement) (o : Option PreparedText) (w : Noted) → Free w → Adds 0 w (push_found_text no_tag note S q tt n p o w)
  unfolding push_found_text
  found_text n p none w h = still h refl
  found_text n p (some x) w h =
      cond_adds (hides q x.layer x.data_type) _ _ (still h refl)
      (cond_adds (point_in_bbox (transform_point2 p x.origin) q.view) _ _ (say_adds (text n (transform_point2 p x.origin)) w refl) (still h refl))

  -- a node's points add no proxy, whether they go on or stop
  abbrev Quiet : Noted → NotedFlow → Type 0
  Quiet w (go v) = Free v × (dropped_at v ≡ dropped_at w)
  Quiet w (halt v) = Free v × (dropped_at v ≡ dropped_at w)

  cond_quiet : (w : Noted) (b : Bool) (x y : NotedFlow) → Quiet w x → Quiet w y → Quiet w (cond b x y)
  cond_quiet w true x y h k = h
  cond_quiet w false x y h k = k

  point_quiet : (p : Placement) (x : NodeRecord) (j : ℕ) (w : Noted) → Free w → Quiet w (push_point no_tag note S q tt p x j w)
  unfolding push_point say after ◌⊞◌
  point_quiet p x j w h =
      cond_quiet w (not (point_in_bbox (transform_point2 p (x.point j)) q.view)) _ _ (h, refl)
      (cond_quiet w (detail_budget_exhausted q w.state) _ _ (h, refl) (h, omega arith))

  points_quiet : (p : Placement) (x : NodeRecord) (n j : ℕ) (w : Noted) → Free w → Quiet w (each (push_point no_tag note S q tt p x) n j w)
  unfolding each
  points_quiet p x zero j w h = (h, refl)
  points_quiet p x (suc n) j w h = onward (each (push_point no_tag note S q tt p x) n (j + 1)) (λ v f. points_quiet p x n (j + 1) v f) (push_point no_tag note S q tt p x j w) (point_quiet p x j w h)
    where
      later : (v : Noted) (y : NotedFlow) → dropped_at v ≡ dropped_at w → Quiet v y → Quiet w y
      later v (go u) e m = (m.0, m.1 ∙ e)
      later v (halt u) e m = (m.0, m.1 ∙ e)

      onward : (rest : Noted → NotedFlow) → ((v : Noted) → Free v → Quiet v (rest v)) → (y : NotedFlow) → Quiet w y → Quiet w (bind y rest)
      onward rest k (go v) m = later v (rest v) m.1 (k v m.0)
      onward rest k (halt v) m = m

  found_node : (p : Placement) (o : Option NodeRecord) (w : Noted) → Free w → Quiet w (push_found_node no_tag note S q tt p o w)
  unfolding push_found_node
  found_node p none w h = (h, refl)
  found_node p (some x) w h = cond_quiet w (hides q x.layer x.node_type) _ _ (h, refl) (points_quiet p x x.count 0 w h)

  -- ---- a cell

  -- what a visit of a reference or a cell may drop
  abbrev Visits : ℕ → (Noted → Noted) → Type 0
  Visits g f = (w : Noted) → Free w → Adds g w (f w)

  module _ (g : ℕ) (visit : VisitReference no_tag note S cells q) (hv : (n : ℕ) (p : Placement) → Visits g (visit tt n p)) where
    module _ (n : ℕ) (c : CellRecord) (p : Placement) (box : Bounds) where
      -- at an exhausted budget each loop adds the cell's box and is over
      step : (body : Noted → NotedFlow) → ((w : Noted) → Free w → AddsFlow g w (body w))
          → Unwinds g (λ w. cond (detail_budget_exhausted q w.state) (halt (add_load_if_boxed no_tag note tt reason.OtherLimit n box w)) (body w))
      step body h = record {
        free = λ w l. cond_flow g w (detail_budget_exhausted q w.state) _ _ (boxed_free reason.OtherLimit n box w l) (h w l);
        full = λ w l. rw (exhausted q w.state l) (boxed_full reason.OtherLimit n box w l);
      }

      none_more : {w v : Noted} → Adds 0 w v → Adds g w v
      none_more h = more (omega arith) h

      geometries : (i : ℕ) → Unwinds g (geometry_step no_tag note S cells q tt n c p box i)
      unfolding geometry_step push_geometry
      geometries i = step (λ w. go (push_geometry no_tag note S q tt (c.geometries.at i) p w)) (λ w l. none_more (found_geometry (c.geometries.at i) p (S.geometry (c.geometries.at i)) w l))

      texts : (i : ℕ) → Unwinds g (text_step no_tag note S cells q tt n c p box i)
      unfolding text_step push_text
      texts i = step (λ w. go (push_text no_tag note S q tt (c.texts.at i) p w)) (λ w l. none_more (found_text (c.texts.at i) p (S.text (c.texts.at i)) w l))

      node_halts : (w : Noted) (x : NotedFlow) → Quiet w x → AddsFlow g w (halt_with_cell no_tag note tt n box x)
      node_halts w (go v) m = still m.0 m.1
      node_halts w (halt v) m = after_same m.1 (boxed_free reason.OtherLimit n box v m.0)

      nodes : (i : ℕ) → Unwinds g (node_step no_tag note S cells q tt n c p box i)
      unfolding node_step push_node
      nodes i = step (λ w. halt_with_cell no_tag note tt n box (push_node no_tag note S q tt (c.nodes.at i) p w)) (λ w l. node_halts w (push_node no_tag note S q tt (c.nodes.at i) p w) (found_node p (S.node (c.nodes.at i)) w l))

      references : (i : ℕ) → Unwinds g (reference_step no_tag note S cells q tt n c p box visit i)
      unfolding reference_step
      references i = step (λ w. go (visit tt (c.references.at i) p w)) (λ w l. hv (c.references.at i) p w l)

      body : Unwinds g (cell_body no_tag note S cells q tt n c p box visit)
      unfolding cell_body
      body =
          bind_unwinds _ _
          (bind_unwinds _ _ (bind_unwinds _ _ (each_unwinds _ geometries c.geometries.count 0) (each_unwinds _ texts c.texts.count 0)) (each_unwinds _ nodes c.nodes.count 0))
          (each_unwinds _ references c.references.count 0)

    found_cell_lem : (n : ℕ) (p : Placement) (o : Option CellRecord) → Visits (g + 1) (visit_found_cell no_tag note S cells q visit tt n p o)
    unfolding visit_found_cell
    found_cell_lem n p none w h = still h refl
    found_cell_lem n p (some c) w h =
        let box = transform_bounds p c.bbox in
        let opened = set_mark (open_place cells n) 1 w in
        cond_adds (is_outside box q.view) _ _ (still h refl)
        (cond_adds (detail_cells_full w.state) _ _ (boxed_free reason.CellLimit n box w h)
        (cond_adds (detail_budget_exhausted q w.state) _ _ (boxed_free reason.OtherLimit n box w h)
        (cond_adds (is_marked w.marks (open_place cells n)) _ _ (boxed_free reason.Circle n box w h)
        (closed (say no_tag note tt detail_cell opened) (unfold say in unfold after in unfold ◌⊞◌ in h) (unfold say in omega arith) c box))))
      where
        closed : (v : Noted) → Free v → dropped_at v ≡ dropped_at w → (c : CellRecord) (box : Bounds) → Adds (g + 1) w (set_mark (open_place cells n) 0 (ending (cell_body no_tag note S cells q tt n c p box visit v)))
        closed v f e c box = marked (ending_adds g (cell_body no_tag note S cells q tt n c p box visit v) ((body n c p box).free v f))
          where
            marked : {u : Noted} → Adds (g + 1) v u → Adds (g + 1) w (set_mark (open_place cells n) 0 u)
            marked (still i j) = still i (j ∙ e)
            marked (filled i j) = filled i (omega (arith, e))

  -- ---- a reference

  -- what a visit of a source may drop: it is over only at a node, which adds no proxy
  abbrev SourceVisits : ℕ → Noted → NotedFlow → Type 0
  SourceVisits g w (go v) = Adds g w v
  SourceVisits g w (halt v) = Free v × (dropped_at v ≡ dropped_at w)

  quiet_source : (g : ℕ) (w : Noted) (x : NotedFlow) → Quiet w x → SourceVisits g w x
  quiet_source g w (go v) h = still h.0 h.1
  quiet_source g w (halt v) h = h

  source : (g : ℕ) (visit : VisitReference no_tag note S cells q) → ((n : ℕ) (p : Placement) → Visits g (visit tt n p)) → (x : PreparedSource) (p : Placement) (w : Noted) → Free w
      → SourceVisits (g + 1) w (visit_source_with no_tag note S cells q visit tt x p w)
  unfolding visit_source_with push_geometry push_text push_node
  source g visit hv (Geometry n) p w h = more (omega arith) (found_geometry n p (S.geometry n) w h)
  source g visit hv (Text n) p w h = more (omega arith) (found_text n p (S.text n) w h)
  source g visit hv (Node n) p w h = quiet_source (g + 1) w (push_found_node no_tag note S q tt p (S.node n) w) (found_node p (S.node n) w h)
  source g visit hv (Reference n) p w h = more (omega arith) (hv n p w h)
  source g visit hv (Cell n) p w h = found_cell_lem g visit hv n p (S.cell n) w h

  module _ (visit : VisitSource no_tag note S cells q) (depth : ℕ) (r : PreparedReference) (p : Placement) (sb wb : WorldBBox) where
    -- at depth 1 and below it is boxed
    boxed_reference : depth ≤ 1 → (u : Units) → Visits 0 (visit_counted_reference no_tag note S cells q visit depth tt r p sb wb u)
    unfolding visit_counted_reference collapse_test
    boxed_reference low u w h = rw (le-leb depth 1 low) (after_same {u = w} refl (load_free reason.DepthAtMostOne (label r.source) wb (with_scratch no_tag note u w) h))

    module _ (g : ℕ) (hv : (x y : ℕ) (w : Noted) → Free w → SourceVisits g w (visit tt r.source (p · grid_member_transform r.grid x y) w)) where
      member_halts : (l : ℕ) (b : WorldBBox) (w : Noted) (x : NotedFlow) → SourceVisits g w x → AddsFlow g w (halt_with_member no_tag note tt tt l b wb x)
      member_halts l b w (go v) h = h
      member_halts l b w (halt v) h = both (add_load no_tag note tt reason.OtherLimit l b v) (load_free reason.OtherLimit l b v h.0)
        where
          both : (u : Noted) → Adds 0 v u → Adds (g + 1) w (add_load no_tag note tt reason.OtherLimit no_label wb u)
          both u (still f e) = after_same (e ∙ h.1) (load_free reason.OtherLimit no_label wb u f)
          both u (filled f e) = let m = load_full reason.OtherLimit no_label wb u f in filled m.0 (omega (arith, m.1, h.1))

      member_unwinds : (u x y : ℕ) → Unwinds g (member_step no_tag note S cells q visit depth tt r p sb wb u x y)
      unfolding member_step
      member_unwinds u x y =
          let placement = p · grid_member_transform r.grid x y in
          let box = transform_bbox placement sb in
          let size = reference_screen_size box q.zoom (source_is_degenerate sb) in
          record {
            free = λ w h.
                cond_flow g w (detail_budget_exhausted q w.state) _ _ (load_free reason.OtherLimit (label r.source) wb w h)
                (cond_flow g w (not (overlaps box q.view)) _ _ (say_adds culled_reference w refl)
                (cond_flow g w (is_subpixel size) _ _ (say_adds (skipped_member (source_is_degenerate sb) box) w refl)
                (cond_flow g w (collapses (collapse_test size.width size.height 1 u depth false)) _ _ (load_free _ (label r.source) box w h)
                (member_halts (label r.source) box w (visit tt r.source placement w) (hv x y w h)))));
            full = λ w h. rw (exhausted q w.state h) (load_full reason.OtherLimit (label r.source) wb w h);
          }

      opened_reference : (u : Units) → Visits (g + 1) (visit_counted_reference no_tag note S cells q visit depth tt r p sb wb u)
      unfolding visit_counted_reference column_step
      opened_reference u w h =
          let size = reference_screen_size wb q.zoom (source_is_degenerate sb) in
          let share = source_units u.units (grid_count r.grid) in
          let members = each (column_step no_tag note S cells q visit depth tt r p sb wb share) r.grid.columns 0 in
          let test = collapse_test size.width size.height (grid_count r.grid) u.units depth false in
          after_same {u = w} refl
          (cond_adds (collapses test) _ _
          (load_free (box_reason test) (label r.source) wb (with_scratch no_tag note u w) h)
          (ending_adds g (members (with_scratch no_tag note u w)) ((each_unwinds _ (λ x. each_unwinds _ (member_unwinds share x) r.grid.rows 0) r.grid.columns 0).free (with_scratch no_tag note u w) h)))

  -- ---- the visits

  module _ (g : ℕ) (visit : VisitSource no_tag note S cells q) (depth : ℕ) (p : Placement)
      (hc : (r : PreparedReference) (sb wb : WorldBBox) (u : Units) → Visits g (visit_counted_reference no_tag note S cells q visit depth tt r p sb wb u)) where
    boxed_visit : (r : PreparedReference) (sb : WorldBBox) (o : Bounds) → Visits g (visit_boxed_reference no_tag note S cells q visit depth tt r p sb o)
    unfolding visit_boxed_reference
    boxed_visit r sb Absent w h = still h refl
    boxed_visit r sb (Box x₀ y₀ x₁ y₁) w h =
        let wb = transform_bbox p (bbox x₀ y₀ x₁ y₁) in
        cond_adds (not (overlaps wb q.view)) _ _ (say_adds culled_reference w refl)
        (cond_adds (detail_cells_full w.state) _ _ (load_free reason.CellLimit (label r.source) wb w h)
        (cond_adds (detail_budget_exhausted q w.state) _ _ (load_free reason.OtherLimit (label r.source) wb w h)
        (hc r sb wb (reference_draw_units S cells depth r w.counts w.marks) w h)))

    found_reference_lem : (o : Option PreparedReference) → Visits g (visit_found_reference no_tag note S cells q visit depth tt p o)
    unfolding visit_found_reference visit_sourced_reference
    found_reference_lem none w h = still h refl
    found_reference_lem (some r) w h = sourced r.source_bbox
      where
        sourced : (o : Bounds) → Adds g w (visit_sourced_reference no_tag note S cells q visit depth tt r p o w)
        sourced Absent = still h refl
        sourced (Box x₀ y₀ x₁ y₁) = boxed_visit r (bbox x₀ y₀ x₁ y₁) (reference_bbox r.grid (bbox x₀ y₀ x₁ y₁)) w h

  -- a reference at depth 1 is boxed, and each depth above it opens one reference and one cell more
  reference : (d n : ℕ) (p : Placement) → Visits (2 * (d - 1)) (visit_reference no_tag note S cells q d tt n p)
  unfolding visit_reference
  reference zero n p w h = found_reference_lem 0 _ 0 p (λ r sb wb u. boxed_reference _ 0 r p sb wb (omega arith) u) (S.reference n) w h
  reference (suc zero) n p w h = found_reference_lem 0 _ 1 p (λ r sb wb u. boxed_reference _ 1 r p sb wb (omega arith) u) (S.reference n) w h
  reference (suc (suc d)) n p w h =
      more (omega arith)
      (found_reference_lem (2 * (suc d - 1) + 1 + 1) (visit_source_with no_tag note S cells q (visit_reference no_tag note S cells q (suc d))) (suc (suc d)) p
      (λ r sb wb u. opened_reference _ (suc (suc d)) r p sb wb (2 * (suc d - 1) + 1)
      (λ x y v f. source (2 * (suc d - 1)) (visit_reference no_tag note S cells q (suc d)) (reference (suc d)) r.source (p · grid_member_transform r.grid x y) v f) u)
      (S.reference n) w h)

  root_box : (b : Bounds) → Visits 0 (load_root_box no_tag note S cells q tt b)
  unfolding load_root_box
  root_box Absent w h = still h refl
  root_box (Box x₀ y₀ x₁ y₁) w h =
      cond_adds (overlaps (bbox x₀ y₀ x₁ y₁) q.view) _ _ (load_free reason.DepthZero q.root (bbox x₀ y₀ x₁ y₁) w h) (still h refl)

  load_root_lem : (o : Option CellRecord) → Visits 0 (load_root no_tag note S cells q tt o)
  unfolding load_root
  load_root_lem none w h = still h refl
  load_root_lem (some c) w h = root_box c.bbox w h

  root : (d : ℕ) → Visits (most_dropped d) (visit_root no_tag note S cells q d tt)
  unfolding visit_root visit_cell
  root zero w h = load_root_lem (S.cell q.root) w h
  root (suc d) w h = more (omega arith) (found_cell_lem (2 * (suc d - 1)) (visit_reference no_tag note S cells q (suc d)) (reference (suc d)) q.root IDENTITY (S.cell q.root) w h)

  -- ---- the plan

  pub visits_drop_at_most : (k m : List ℕ) → dropped_proxies (visited no_tag S cells q tt k m).out ≤ most_dropped q.depth
  visits_drop_at_most k m = by (root q.depth (world empty_plan [] k m) (unfold empty_plan in omega arith))
    where
      by : {v : Noted} → Adds (most_dropped q.depth) (world empty_plan [] k m) v → dropped_at v ≤ most_dropped q.depth
      by (still f e) = omega (arith, e)
      by (filled f e) = omega (arith, e)
