-- The induction: two runs of the rules with their own tags and ends, related before, are related after every push, visit and plan.
-- `keeps` is its one clause: an event that may be said keeps the relation. Depth falls by one from a reference to its source.
-- Assumes nothing.
use mathlib.Core.Path.{◌≡◌, refl}
use mathlib.Core.Bool.{false, not, cond}
use mathlib.Core.List.{List}
use mathlib.Core.Option.{Option, none, some}
use Prim.Native.Nat.{ℕ, zero, suc, ◌<◌}
use lib.ListN.{set}
use lib.Dec.{ltb}
use lib.Dec.{T as Yes}
use Rattle.geometry.specs.declared.bbox.WorldBBox.{WorldBBox}
use Rattle.geometry.specs.declared.bbox.Bounds.{Bounds}
use Rattle.geometry.specs.declared.bbox.Bounds.TheVariants.{Absent, Box}
use Rattle.geometry.specs.declared.placement.Placement.{Placement}
use Rattle.geometry.specs.Placement.{IDENTITY, transform_point2, ◌·◌}
use Rattle.geometry.specs.Bbox.{transform_bbox, overlaps, point_in_bbox, source_is_degenerate, bbox, boxed, transform_bounds, is_outside}
use Rattle.grid.specs.Grid.{grid_count, grid_member_transform, reference_bbox}
use Rattle.screen.specs.Screen.{screen_size, reference_screen_size, is_subpixel, is_dense_batch, collapse_test, collapses}
use Rattle.records.specs.declared.PreparedSource.{PreparedSource}
use Rattle.records.specs.declared.PreparedSource.TheVariants.{Geometry, Text, Node, Reference, Cell}
use Rattle.records.specs.declared.PreparedGeometry.{PreparedGeometry}
use Rattle.records.specs.declared.PreparedText.{PreparedText}
use Rattle.records.specs.declared.PreparedReference.{PreparedReference}
use Rattle.records.specs.Sources.{no_label, label}
use Rattle.abstract_sheet.specs.Sheet.{NodeRecord, CellRecord, Sheet}
use Rattle.plan_rules.specs.declared.ScenePlan.{ScenePlan}
use Rattle.plan_rules.specs.Limits.{max_load_proxies}
use Rattle.plan_rules.specs.declared.Reason.{Reason}
use Rattle.plan_rules.specs.declared.Reason.TheVariants as reason
use Rattle.plan_rules.specs.Event.{Event, batch, text, point, proxy, dropped_proxy, skipped_member, skipped_batch, culled_reference, culled_batch, detail_cell, totals, Step, batch_at, text_at, node_at, reference_at, member, point_at, after}
use Rattle.plan_rules.specs.World.{Query, hides, detail_cells_full, detail_budget_exhausted, World, world, Flow, go, halt, set_mark}
use Rattle.plan_rules.specs.Scratch.{open_place, is_marked}
use Rattle.plan_rules.specs.DrawUnits.{Units, reference_draw_units}
use Rattle.plan_rules.specs.Push.{say, add_load, add_load_if_boxed, push_found_geometry, push_geometry, push_found_text, push_text, push_point, push_found_node, push_node}
use Rattle.plan_rules.specs.Visit.{source_units, halt_with_cell, halt_with_member, VisitReference, VisitSource, geometry_step, text_step, node_step, reference_step, cell_body, visit_found_cell, visit_source_with, member_step, column_step, visit_counted_reference, visit_boxed_reference, visit_sourced_reference, visit_found_reference, visit_reference, visit_cell}
use Rattle.plan_rules.specs.Plan.{load_root_box, load_root, visit_root, plan}
use Rattle.plan_rules.proofs.Simulation.{Related, related, RelatedFlow, goes, halts, KeepsAt, Keeps, KeepsFlowAt, KeepsFlow, apply_sim, apply_flow_sim, cond_sim, cond_flow_sim, bind_sim, ending_sim, each_sim}
use Rattle.plan_rules.proofs.Simulation.Premises.{Room, Premises}

module _ {PA PB A B : Type 0} (enterA : Step → PA → PA) (enterB : Step → PB → PB) (emitA : PA → Event → ℕ → A → A) (emitB : PB → Event → ℕ → B → B) (S : Sheet) (cells : ℕ) (q : Query)
    (R : ScenePlan → A → B → Type 0) (Stands : ℕ → PA → PreparedSource → Placement → Type 0) (Allowed : PA → Event → Type 0) (G : Premises enterA S q Stands Allowed)
    (keeps : (ta : PA) (tb : PB) (e : Event) → Allowed ta e → (s : ScenePlan) → Room q s e → (a : A) (b : B) → R s a b → R (after e s) (emitA ta e s.tape_end a) (emitB tb e s.tape_end b)) where
  pub say_sim : (ta : PA) (tb : PB) (e : Event) → Allowed ta e → (s : ScenePlan) → Room q s e → (a : A) (b : B) (k m : List ℕ) → R s a b → Related R (say enterA emitA ta e (world s a k m)) (say enterB emitB tb e (world s b k m))
  unfolding say
  say_sim ta tb e ok s room a b k m r = related (keeps ta tb e ok s room a b r)

  pub load_sim : (ta : PA) (tb : PB) (y : Reason) (l : ℕ) (x : WorldBBox) → Keeps R (add_load enterA emitA ta y l x) (add_load enterB emitB tb y l x)
  unfolding add_load
  load_sim ta tb y l x s a b k m r =
      cond_sim R (ltb s.load_proxies max_load_proxies)
      (λ z. say_sim ta tb (proxy y l x) (G.listed_proxy ta y l x) s z a b k m r)
      (λ z. say_sim ta tb (dropped_proxy y l x) (G.dropped_proxy_lem ta y l x) s z a b k m r)

  pub load_if_boxed_sim : (ta : PA) (tb : PB) (y : Reason) (l : ℕ) (x : Bounds) → Keeps R (add_load_if_boxed enterA emitA ta y l x) (add_load_if_boxed enterB emitB tb y l x)
  load_if_boxed_sim ta tb y l Absent s a b k m r = related r
  load_if_boxed_sim ta tb y l (Box x₀ y₀ x₁ y₁) s a b k m r = load_sim ta tb y l (bbox x₀ y₀ x₁ y₁) s a b k m r

  halt_with_cell_sim : (ta : PA) (tb : PB) (n : ℕ) (x : Bounds) {f : Flow A} {g : Flow B} → RelatedFlow R f g → RelatedFlow R (halt_with_cell enterA emitA ta n x f) (halt_with_cell enterB emitB tb n x g)
  halt_with_cell_sim ta tb n x (goes h) = goes h
  halt_with_cell_sim ta tb n x (halts h) = halts (apply_sim R (add_load_if_boxed enterA emitA ta reason.OtherLimit n x) (add_load_if_boxed enterB emitB tb reason.OtherLimit n x) (load_if_boxed_sim ta tb reason.OtherLimit n x) h)

  halt_with_member_sim : (ta ha : PA) (tb hb : PB) (l : ℕ) (x z : WorldBBox) {f : Flow A} {g : Flow B} → RelatedFlow R f g → RelatedFlow R (halt_with_member enterA emitA ta ha l x z f) (halt_with_member enterB emitB tb hb l x z g)
  halt_with_member_sim ta ha tb hb l x z (goes h) = goes h
  halt_with_member_sim ta ha tb hb l x z (halts h) =
      halts (apply_sim R (add_load enterA emitA ta reason.OtherLimit no_label z) (add_load enterB emitB tb reason.OtherLimit no_label z) (load_sim ta tb reason.OtherLimit no_label z)
      (apply_sim R (add_load enterA emitA ha reason.OtherLimit l x) (add_load enterB emitB hb reason.OtherLimit l x) (load_sim ha hb reason.OtherLimit l x) h))

  -- ---- pushes

  abbrev pub Budget : ScenePlan → Type 0
  Budget s = Yes (not (detail_budget_exhausted q s))

  found_geometry_sim : (d : ℕ) (ta : PA) (tb : PB) (n : ℕ) (p : Placement) → Stands d ta (Geometry n) p → (o : Option PreparedGeometry) → S.geometry n ≡ o
      → Keeps R (push_found_geometry enterA emitA S q ta n p o) (push_found_geometry enterB emitB S q tb n p o)
  unfolding push_found_geometry
  found_geometry_sim d ta tb n p h none e s a b k m r = related r
  found_geometry_sim d ta tb n p h (some x) e s a b k m r =
      let box = transform_bbox p x.bbox in
      let size = screen_size box q.zoom in
      cond_sim R (hides q x.layer x.data_type) (λ _. related r)
      (λ _. cond_sim R (not (overlaps box q.view)) (λ _. say_sim ta tb culled_batch (G.culled_batch_lem ta) s tt a b k m r)
      (λ _. cond_sim R (is_subpixel size) (λ y. say_sim ta tb (skipped_batch box) (G.skipped_batch_lem d ta n x p h e y) s tt a b k m r)
      (λ _. cond_sim R (is_dense_batch size x.element_count) (λ _. load_sim ta tb _ no_label box s a b k m r)
      (λ _. cond_sim R (detail_budget_exhausted q s) (λ _. load_sim ta tb _ no_label box s a b k m r)
      (λ z. say_sim ta tb (batch n p) (G.listed_batch d ta n x p h e) s z a b k m r)))))

  geometry_sim : (d : ℕ) (ta : PA) (tb : PB) (n : ℕ) (p : Placement) → Stands d ta (Geometry n) p → Keeps R (push_geometry enterA emitA S q ta n p) (push_geometry enterB emitB S q tb n p)
  unfolding push_geometry
  geometry_sim d ta tb n p h = found_geometry_sim d ta tb n p h (S.geometry n) refl

  found_text_sim : (d : ℕ) (ta : PA) (tb : PB) (n : ℕ) (p : Placement) → Stands d ta (Text n) p → (o : Option PreparedText) → S.text n ≡ o
      → (s : ScenePlan) → Budget s → KeepsAt R s (push_found_text enterA emitA S q ta n p o) (push_found_text enterB emitB S q tb n p o)
  unfolding push_found_text
  found_text_sim d ta tb n p h none e s z a b k m r = related r
  found_text_sim d ta tb n p h (some x) e s z a b k m r =
      let v = transform_point2 p x.origin in
      cond_sim R (hides q x.layer x.data_type) (λ _. related r)
      (λ _. cond_sim R (point_in_bbox v q.view) (λ _. say_sim ta tb (text n v) (G.listed_text d ta n x p h e) s z a b k m r) (λ _. related r))

  text_sim : (d : ℕ) (ta : PA) (tb : PB) (n : ℕ) (p : Placement) → Stands d ta (Text n) p → (s : ScenePlan) → Budget s → KeepsAt R s (push_text enterA emitA S q ta n p) (push_text enterB emitB S q tb n p)
  unfolding push_text
  text_sim d ta tb n p h = found_text_sim d ta tb n p h (S.text n) refl

  pub point_sim : (d : ℕ) (ta : PA) (tb : PB) (n : ℕ) (p : Placement) → Stands d ta (Node n) p → (x : NodeRecord) → S.node n ≡ some x → (j : ℕ) → j < x.count
      → KeepsFlow R (push_point enterA emitA S q ta p x j) (push_point enterB emitB S q tb p x j)
  unfolding push_point
  point_sim d ta tb n p h x e j j< s a b k m r =
      let v = transform_point2 p (x.point j) in
      cond_flow_sim R (not (point_in_bbox v q.view)) (λ _. goes (related r))
      (λ _. cond_flow_sim R (detail_budget_exhausted q s) (λ _. halts (related r))
      (λ z. goes (say_sim (enterA (point_at j) ta) (enterB (point_at j) tb) (point x.layer x.node_type v) (G.listed_point d ta n x j p h e j<) s z a b k m r)))

  found_node_sim : (d : ℕ) (ta : PA) (tb : PB) (n : ℕ) (p : Placement) → Stands d ta (Node n) p → (o : Option NodeRecord) → S.node n ≡ o
      → KeepsFlow R (push_found_node enterA emitA S q ta p o) (push_found_node enterB emitB S q tb p o)
  unfolding push_found_node
  found_node_sim d ta tb n p h none e s a b k m r = goes (related r)
  found_node_sim d ta tb n p h (some x) e s a b k m r =
      cond_flow_sim R (hides q x.layer x.node_type) (λ _. goes (related r))
      (λ _. each_sim R (push_point enterA emitA S q ta p x) (push_point enterB emitB S q tb p x) x.count (point_sim d ta tb n p h x e) s a b k m r)

  node_sim : (d : ℕ) (ta : PA) (tb : PB) (n : ℕ) (p : Placement) → Stands d ta (Node n) p → KeepsFlow R (push_node enterA emitA S q ta n p) (push_node enterB emitB S q tb n p)
  unfolding push_node
  node_sim d ta tb n p h = found_node_sim d ta tb n p h (S.node n) refl

  -- ---- a cell, given that the visit of a reference keeps the relation

  abbrev pub KeepsReferences : ℕ → VisitReference enterA emitA S cells q → VisitReference enterB emitB S cells q → Type 0
  KeepsReferences d va vb = (ta : PA) (tb : PB) (n : ℕ) (p : Placement) → Stands d ta (Reference n) p → Keeps R (va ta n p) (vb tb n p)

  module _ (d : ℕ) (va : VisitReference enterA emitA S cells q) (vb : VisitReference enterB emitB S cells q) (hv : KeepsReferences d va vb) where
    module _ (ta : PA) (tb : PB) (n : ℕ) (c : CellRecord) (p : Placement) (box : Bounds) (h : Stands d ta (Cell n) p) (e : S.cell n ≡ some c) where
      -- at an exhausted budget each loop adds the cell's box and is over
      step_sim : (s : ScenePlan) (a : A) (b : B) (k m : List ℕ) → R s a b → {f : Flow A} {g : Flow B} → (Budget s → RelatedFlow R f g)
          → RelatedFlow R (cond (detail_budget_exhausted q s) (halt (add_load_if_boxed enterA emitA ta reason.OtherLimit n box (world s a k m))) f) (cond (detail_budget_exhausted q s) (halt (add_load_if_boxed enterB emitB tb reason.OtherLimit n box (world s b k m))) g)
      step_sim s a b k m r u = cond_flow_sim R (detail_budget_exhausted q s) (λ _. halts (load_if_boxed_sim ta tb _ n box s a b k m r)) u

      pub geometry_step_sim : (i : ℕ) → i < c.geometries.count → KeepsFlow R (geometry_step enterA emitA S cells q ta n c p box i) (geometry_step enterB emitB S cells q tb n c p box i)
      unfolding geometry_step
      geometry_step_sim i i< s a b k m r = step_sim s a b k m r (λ _. goes (geometry_sim d (enterA (batch_at i) ta) (enterB (batch_at i) tb) (c.geometries.at i) p (G.at_batch d ta n c i p h e i<) s a b k m r))

      pub text_step_sim : (i : ℕ) → i < c.texts.count → KeepsFlow R (text_step enterA emitA S cells q ta n c p box i) (text_step enterB emitB S cells q tb n c p box i)
      unfolding text_step
      text_step_sim i i< s a b k m r = step_sim s a b k m r (λ z. goes (text_sim d (enterA (text_at i) ta) (enterB (text_at i) tb) (c.texts.at i) p (G.at_text d ta n c i p h e i<) s z a b k m r))

      pub node_step_sim : (i : ℕ) → i < c.nodes.count → KeepsFlow R (node_step enterA emitA S cells q ta n c p box i) (node_step enterB emitB S cells q tb n c p box i)
      unfolding node_step
      node_step_sim i i< s a b k m r = step_sim s a b k m r (λ _. halt_with_cell_sim ta tb n box (node_sim d (enterA (node_at i) ta) (enterB (node_at i) tb) (c.nodes.at i) p (G.at_node d ta n c i p h e i<) s a b k m r))

      pub reference_step_sim : (i : ℕ) → i < c.references.count → KeepsFlow R (reference_step enterA emitA S cells q ta n c p box va i) (reference_step enterB emitB S cells q tb n c p box vb i)
      unfolding reference_step
      reference_step_sim i i< s a b k m r = step_sim s a b k m r (λ _. goes (hv (enterA (reference_at i) ta) (enterB (reference_at i) tb) (c.references.at i) p (G.at_reference d ta n c i p h e i<) s a b k m r))

      body_sim : KeepsFlow R (cell_body enterA emitA S cells q ta n c p box va) (cell_body enterB emitB S cells q tb n c p box vb)
      unfolding cell_body
      body_sim s a b k m r =
          bind_sim R _ _ (each_sim R _ _ c.references.count reference_step_sim)
          (bind_sim R _ _ (each_sim R _ _ c.nodes.count node_step_sim)
          (bind_sim R _ _ (each_sim R _ _ c.texts.count text_step_sim)
          (each_sim R _ _ c.geometries.count geometry_step_sim s a b k m r)))

    found_cell_sim : (ta : PA) (tb : PB) (n : ℕ) (p : Placement) → Stands d ta (Cell n) p → (o : Option CellRecord) → S.cell n ≡ o
        → Keeps R (visit_found_cell enterA emitA S cells q va ta n p o) (visit_found_cell enterB emitB S cells q vb tb n p o)
    unfolding visit_found_cell
    found_cell_sim ta tb n p h none e s a b k m r = related r
    found_cell_sim ta tb n p h (some c) e s a b k m r =
        let box = transform_bounds p c.bbox in
        cond_sim R (is_outside box q.view) (λ _. related r)
        (λ _. cond_sim R (detail_cells_full s) (λ _. load_if_boxed_sim ta tb _ n box s a b k m r)
        (λ _. cond_sim R (detail_budget_exhausted q s) (λ _. load_if_boxed_sim ta tb _ n box s a b k m r)
        (λ _. cond_sim R (is_marked m (open_place cells n)) (λ _. load_if_boxed_sim ta tb _ n box s a b k m r)
        (λ _. apply_sim R (set_mark (open_place cells n) 0) (set_mark (open_place cells n) 0) (λ s a b k m r. related r)
        (ending_sim R (apply_flow_sim R (cell_body enterA emitA S cells q ta n c p box va) (cell_body enterB emitB S cells q tb n c p box vb) (body_sim ta tb n c p box h e)
        (say_sim ta tb detail_cell (G.detail_cell_lem ta) s tt a b k (set m (open_place cells n) 1) r)))))))

    pub source_sim : (ta : PA) (tb : PB) (x : PreparedSource) (p : Placement) → Stands d ta x p → (s : ScenePlan) → Budget s → KeepsFlowAt R s (visit_source_with enterA emitA S cells q va ta x p) (visit_source_with enterB emitB S cells q vb tb x p)
    unfolding visit_source_with
    source_sim ta tb (Geometry n) p h s z a b k m r = goes (geometry_sim d ta tb n p h s a b k m r)
    source_sim ta tb (Text n) p h s z a b k m r = goes (text_sim d ta tb n p h s z a b k m r)
    source_sim ta tb (Node n) p h s z a b k m r = node_sim d ta tb n p h s a b k m r
    source_sim ta tb (Reference n) p h s z a b k m r = goes (hv ta tb n p h s a b k m r)
    source_sim ta tb (Cell n) p h s z a b k m r = goes (found_cell_sim ta tb n p h (S.cell n) refl s a b k m r)

  -- ---- a reference, given that the visit of its members' sources keeps the relation where the budget is not exhausted

  abbrev pub KeepsMembers : VisitSource enterA emitA S cells q → VisitSource enterB emitB S cells q → PA → PB → PreparedReference → Placement → Type 0
  KeepsMembers va vb ta tb r p = (x y : ℕ) → x < r.grid.columns → y < r.grid.rows → (s : ScenePlan) → Budget s
      → KeepsFlowAt R s (va (enterA (member x y) ta) r.source (p · grid_member_transform r.grid x y)) (vb (enterB (member x y) tb) r.source (p · grid_member_transform r.grid x y))

  module _ (d : ℕ) (va : VisitSource enterA emitA S cells q) (vb : VisitSource enterB emitB S cells q) (ta : PA) (tb : PB) (n : ℕ) (r : PreparedReference) (p : Placement) (sb wb : WorldBBox)
      (h : Stands d ta (Reference n) p) (e : S.reference n ≡ some r) (eb : r.source_bbox ≡ boxed sb) (hv : KeepsMembers va vb ta tb r p) where
    pub member_sim : (u x : ℕ) → x < r.grid.columns → (y : ℕ) → y < r.grid.rows → KeepsFlow R (member_step enterA emitA S cells q va d ta r p sb wb u x y) (member_step enterB emitB S cells q vb d tb r p sb wb u x y)
    unfolding member_step
    member_sim u x x< y y< s a b k m o =
        let box = transform_bbox (p · grid_member_transform r.grid x y) sb in
        let size = reference_screen_size box q.zoom (source_is_degenerate sb) in
        let hereA = enterA (member x y) ta in
        let hereB = enterB (member x y) tb in
        cond_flow_sim R (detail_budget_exhausted q s) (λ _. halts (load_sim ta tb _ (label r.source) wb s a b k m o))
        (λ z. cond_flow_sim R (not (overlaps box q.view)) (λ _. goes (say_sim hereA hereB culled_reference (G.culled_reference_lem hereA) s tt a b k m o))
        (λ _. cond_flow_sim R (is_subpixel size) (λ i. goes (say_sim hereA hereB (skipped_member (source_is_degenerate sb) box) (G.skipped_member_lem d ta n r sb x y p h e eb x< y< i) s tt a b k m o))
        (λ _. cond_flow_sim R (collapses (collapse_test size.width size.height 1 u d false)) (λ _. goes (load_sim hereA hereB _ (label r.source) box s a b k m o))
        (λ _. halt_with_member_sim ta hereA tb hereB (label r.source) box wb (hv x y x< y< s z a b k m o)))))

    pub column_sim : (u x : ℕ) → x < r.grid.columns → KeepsFlow R (column_step enterA emitA S cells q va d ta r p sb wb u x) (column_step enterB emitB S cells q vb d tb r p sb wb u x)
    unfolding column_step
    column_sim u x x< = each_sim R _ _ r.grid.rows (member_sim u x x<)

    counted_sim : (u : Units) → Keeps R (visit_counted_reference enterA emitA S cells q va d ta r p sb wb u) (visit_counted_reference enterB emitB S cells q vb d tb r p sb wb u)
    unfolding visit_counted_reference
    counted_sim u s a b k m o =
        let size = reference_screen_size wb q.zoom (source_is_degenerate sb) in
        cond_sim R (collapses (collapse_test size.width size.height (grid_count r.grid) u.units d false))
        (λ _. load_sim ta tb _ (label r.source) wb s a b u.counts u.marks o)
        (λ _. ending_sim R (each_sim R _ _ r.grid.columns (column_sim (source_units u.units (grid_count r.grid))) s a b u.counts u.marks o))

  module _ (d : ℕ) (va : VisitSource enterA emitA S cells q) (vb : VisitSource enterB emitB S cells q) (ta : PA) (tb : PB) (n : ℕ) (p : Placement) (h : Stands d ta (Reference n) p)
      (hv : (r : PreparedReference) → S.reference n ≡ some r → KeepsMembers va vb ta tb r p) where
    boxed_sim : (r : PreparedReference) → S.reference n ≡ some r → (sb : WorldBBox) → r.source_bbox ≡ boxed sb → (o : Bounds)
        → Keeps R (visit_boxed_reference enterA emitA S cells q va d ta r p sb o) (visit_boxed_reference enterB emitB S cells q vb d tb r p sb o)
    unfolding visit_boxed_reference
    boxed_sim r e sb eb Absent s a b k m i = related i
    boxed_sim r e sb eb (Box x₀ y₀ x₁ y₁) s a b k m i =
        let wb = transform_bbox p (bbox x₀ y₀ x₁ y₁) in
        cond_sim R (not (overlaps wb q.view)) (λ _. say_sim ta tb culled_reference (G.culled_reference_lem ta) s tt a b k m i)
        (λ _. cond_sim R (detail_cells_full s) (λ _. load_sim ta tb _ (label r.source) wb s a b k m i)
        (λ _. cond_sim R (detail_budget_exhausted q s) (λ _. load_sim ta tb _ (label r.source) wb s a b k m i)
        (λ _. counted_sim d va vb ta tb n r p sb wb h e eb (hv r e) (reference_draw_units S cells d r k m) s a b k m i)))

    sourced_sim : (r : PreparedReference) → S.reference n ≡ some r → (o : Bounds) → r.source_bbox ≡ o
        → Keeps R (visit_sourced_reference enterA emitA S cells q va d ta r p o) (visit_sourced_reference enterB emitB S cells q vb d tb r p o)
    unfolding visit_sourced_reference boxed
    sourced_sim r e Absent eb s a b k m i = related i
    sourced_sim r e (Box x₀ y₀ x₁ y₁) eb s a b k m i = boxed_sim r e (bbox x₀ y₀ x₁ y₁) eb (reference_bbox r.grid (bbox x₀ y₀ x₁ y₁)) s a b k m i

    found_reference_sim : (o : Option PreparedReference) → S.reference n ≡ o → Keeps R (visit_found_reference enterA emitA S cells q va d ta p o) (visit_found_reference enterB emitB S cells q vb d tb p o)
    unfolding visit_found_reference
    found_reference_sim none e s a b k m i = related i
    found_reference_sim (some r) e s a b k m i = sourced_sim r e r.source_bbox refl s a b k m i

  -- ---- the visits

  pub reference_sim : (d : ℕ) → KeepsReferences d (visit_reference enterA emitA S cells q d) (visit_reference enterB emitB S cells q d)
  unfolding visit_reference
  reference_sim zero ta tb n p h = found_reference_sim 0 (λ t s p w. go w) (λ t s p w. go w) ta tb n p h (λ r e x y x< y< s z a b k m i. goes (related i)) (S.reference n) refl
  reference_sim (suc d) ta tb n p h =
      found_reference_sim (suc d) (visit_source_with enterA emitA S cells q (visit_reference enterA emitA S cells q d)) (visit_source_with enterB emitB S cells q (visit_reference enterB emitB S cells q d)) ta tb n p h
      (λ r e x y x< y<. source_sim d (visit_reference enterA emitA S cells q d) (visit_reference enterB emitB S cells q d) (reference_sim d) (enterA (member x y) ta) (enterB (member x y) tb) r.source (p · grid_member_transform r.grid x y) (G.at_member d ta n r x y p h e x< y<))
      (S.reference n) refl

  pub cell_sim : (d : ℕ) (ta : PA) (tb : PB) (n : ℕ) (p : Placement) → Stands d ta (Cell n) p → Keeps R (visit_cell enterA emitA S cells q d ta n p) (visit_cell enterB emitB S cells q d tb n p)
  unfolding visit_cell
  cell_sim d ta tb n p h = found_cell_sim d (visit_reference enterA emitA S cells q d) (visit_reference enterB emitB S cells q d) (reference_sim d) ta tb n p h (S.cell n) refl

  -- ---- the plan

  root_box_sim : (ta : PA) (tb : PB) (o : Bounds) → Keeps R (load_root_box enterA emitA S cells q ta o) (load_root_box enterB emitB S cells q tb o)
  unfolding load_root_box
  root_box_sim ta tb Absent s a b k m r = related r
  root_box_sim ta tb (Box x₀ y₀ x₁ y₁) s a b k m r = cond_sim R (overlaps (bbox x₀ y₀ x₁ y₁) q.view) (λ _. load_sim ta tb _ q.root (bbox x₀ y₀ x₁ y₁) s a b k m r) (λ _. related r)

  load_root_sim : (ta : PA) (tb : PB) (o : Option CellRecord) → Keeps R (load_root enterA emitA S cells q ta o) (load_root enterB emitB S cells q tb o)
  unfolding load_root
  load_root_sim ta tb none s a b k m r = related r
  load_root_sim ta tb (some c) s a b k m r = root_box_sim ta tb c.bbox s a b k m r

  pub root_sim : (d : ℕ) (ta : PA) (tb : PB) → Stands d ta (Cell q.root) IDENTITY → Keeps R (visit_root enterA emitA S cells q d ta) (visit_root enterB emitB S cells q d tb)
  unfolding visit_root
  root_sim zero ta tb h = load_root_sim ta tb (S.cell q.root)
  root_sim (suc d) ta tb h = cell_sim (suc d) ta tb q.root IDENTITY h

  totals_sim : (ta : PA) (tb : PB) → ((u : ScenePlan) → Allowed ta (totals u)) → {w : World A} {v : World B} → Related R w v → Related R (say enterA emitA ta (totals w.state) w) (say enterB emitB tb (totals v.state) v)
  totals_sim ta tb ok (related {s} {a} {b} {k} {m} r) = say_sim ta tb (totals s) (ok s) s refl a b k m r

  pub plan_sim : (ta : PA) (tb : PB) → ((u : ScenePlan) → Allowed ta (totals u)) → Stands q.depth ta (Cell q.root) IDENTITY → Keeps R (plan enterA emitA S cells q ta) (plan enterB emitB S cells q tb)
  unfolding plan
  plan_sim ta tb ok h s a b k m r = totals_sim ta tb ok (root_sim q.depth ta tb h s a b k m r)
