-- A WHOLE PLAN over the lent scratch is a whole plan over the Rust's memory: the same events in the same order, and the same totals.
-- The induction follows the visits: both runs make the same tests on the same state, and places and maps agree at every step.
-- Assumes nothing.
use mathlib.Core.Path.{◌≡◌, refl, ap, subst}
use mathlib.Core.Bool.{Bool, true, false, not, cond}
use mathlib.Core.List.{List, []}
use mathlib.Core.Option.{Option, none, some}
use Prim.Native.Nat.{ℕ, zero, suc, ◌+◌, ◌≤◌, ◌<◌}
use native.Mathlib.Omega.{arith}
use lib.ListN.{set}
use lib.Dec.{ltb}
use Rattle.geometry.specs.declared.bbox.WorldBBox.{WorldBBox}
use Rattle.geometry.specs.declared.bbox.Bounds.{Bounds}
use Rattle.geometry.specs.declared.bbox.Bounds.TheVariants.{Absent, Box}
use Rattle.geometry.specs.declared.placement.Placement.{Placement}
use Rattle.geometry.specs.Placement.{IDENTITY, transform_point2, ◌·◌}
use Rattle.geometry.specs.Bbox.{transform_bbox, overlaps, point_in_bbox, source_is_degenerate, transform_bounds, is_outside, bbox}
use Rattle.grid.specs.Grid.{grid_count, grid_member_transform, reference_bbox}
use Rattle.screen.specs.Screen.{screen_size, reference_screen_size, is_subpixel, is_dense_batch, collapse_test, collapses}
use Rattle.walk.specs.Find.{count_of}
use Rattle.records.specs.declared.PreparedSource.{PreparedSource}
use Rattle.records.specs.declared.PreparedSource.TheVariants.{Geometry, Text, Node, Reference, Cell}
use Rattle.records.specs.declared.PreparedGeometry.{PreparedGeometry}
use Rattle.records.specs.declared.PreparedText.{PreparedText}
use Rattle.records.specs.declared.PreparedReference.{PreparedReference}
use Rattle.records.specs.Sources.{no_label, label}
use Rattle.abstract_sheet.specs.Sheet.{NodeRecord, CellRecord, Sheet, sheet_of}
use Rattle.plan_rules.specs.declared.Reason.{Reason}
use Rattle.plan_rules.specs.declared.Reason.TheVariants as reason
use Rattle.plan_rules.specs.declared.ScenePlan.{ScenePlan}
use Rattle.plan_rules.specs.Limits.{max_load_proxies}
use Rattle.plan_rules.specs.Event.{Event, batch, text, point, proxy, dropped_proxy, skipped_member, skipped_batch, culled_reference, culled_batch, detail_cell, totals, Step, batch_at, text_at, node_at, reference_at, member, point_at, empty_plan}
use Rattle.plan_rules.specs.World.{Query, hides, detail_cells_full, detail_budget_exhausted, World, world, Flow, go, halt, bind, ending, each, set_mark}
use Rattle.plan_rules.specs.Scratch.{open_place, is_marked}
use Rattle.plan_rules.specs.DrawUnits.{Units, counted, reference_draw_units}
use Rattle.plan_rules.specs.Push.{say, add_load, add_load_if_boxed, push_found_geometry, push_geometry, push_found_text, push_text, push_point, push_found_node, push_node}
use Rattle.plan_rules.specs.Visit.{source_units, box_reason, halt_with_cell, halt_with_member, VisitReference, VisitSource, geometry_step, text_step, node_step, reference_step, cell_body, visit_found_cell, visit_source_with, member_step, column_step, visit_counted_reference, visit_boxed_reference, visit_sourced_reference, visit_found_reference, visit_reference, visit_cell}
use Rattle.plan_rules.specs.Plan.{load_root_box, load_root, visit_root, plan}
use Rattle.plan_rules.specs.Tape.{no_tag, note, tape}
use Rattle.plan_rules.specs.Outcome.{fresh_plan, tape_of}
use Rattle.plan_rules.specs.Maps.{Maps, empty_maps, opened, Tally, mapped_reference}
use Rattle.plan_rules.proofs.Memory.Faithful.{Agree, CellsBelow, open_agree, reference_same}
use Rattle.plan_rules.proofs.Memory.Start.{fresh_agree, cells_below}
use Rattle.plan_rules.specs.MappedPlan.{emit_beside, with_maps, visit_mapped_cell, visit_mapped_source, visit_mapped_boxed, visit_mapped_sourced, visit_mapped_found, visit_mapped_reference, visit_mapped_root, mapped_plan}
use Rattle.plan_rules.specs.Statements.{TapeOverMaps}

module _ {P A : Type 0} (enter : Step → P → P) (emit : P → Event → ℕ → A → A) (S : Sheet) (n D : ℕ) (numbered : CellsBelow n S) (q : Query) where
  abbrev beside : P → Event → ℕ → A × Maps → A × Maps
  beside = emit_beside enter emit

  -- ---- the same state and events, and places that agree with the maps

  pub data Same : World A → World (A × Maps) → Type 0 where
    same : {s : ScenePlan} {o : A} {k m : List ℕ} {w : Maps} → Agree n D k m w → Same (world s o k m) (world s (o, w) [] [])

  pub data SameFlow : Flow A → Flow (A × Maps) → Type 0 where
    goes : {w : World A} {v : World (A × Maps)} → Same w v → SameFlow (go w) (go v)
    halts : {w : World A} {v : World (A × Maps)} → Same w v → SameFlow (halt w) (halt v)

  abbrev Keeps : (World A → World A) → (World (A × Maps) → World (A × Maps)) → Type 0
  Keeps f g = (s : ScenePlan) (o : A) (k m : List ℕ) (w : Maps) → Agree n D k m w → Same (f (world s o k m)) (g (world s (o, w) [] []))

  abbrev KeepsFlow : (World A → Flow A) → (World (A × Maps) → Flow (A × Maps)) → Type 0
  KeepsFlow f g = (s : ScenePlan) (o : A) (k m : List ℕ) (w : Maps) → Agree n D k m w → SameFlow (f (world s o k m)) (g (world s (o, w) [] []))

  apply_same : {x : World A} {y : World (A × Maps)} (f : World A → World A) (g : World (A × Maps) → World (A × Maps)) → Keeps f g → Same x y → Same (f x) (g y)
  apply_same f g h (same {s} {o} {k} {m} {w} a) = h s o k m w a

  apply_flow : {x : World A} {y : World (A × Maps)} (f : World A → Flow A) (g : World (A × Maps) → Flow (A × Maps)) → KeepsFlow f g → Same x y → SameFlow (f x) (g y)
  apply_flow f g h (same {s} {o} {k} {m} {w} a) = h s o k m w a

  cond_same : (t : Bool) {x x' : World A} {y y' : World (A × Maps)} → Same x y → Same x' y' → Same (cond t x x') (cond t y y')
  cond_same true h g = h
  cond_same false h g = g

  -- two tests that answer alike
  cond_alike : (t u : Bool) → t ≡ u → {x x' : World A} {y y' : World (A × Maps)} → Same x y → Same x' y' → Same (cond t x x') (cond u y y')
  cond_alike t u e {x} {x'} {y} {y'} h g = subst (λ (b : Bool). Same (cond t x x') (cond b y y')) e (cond_same t h g)

  cond_flow : (t : Bool) {x x' : Flow A} {y y' : Flow (A × Maps)} → SameFlow x y → SameFlow x' y' → SameFlow (cond t x x') (cond t y y')
  cond_flow true h g = h
  cond_flow false h g = g

  bind_same : {x : Flow A} {y : Flow (A × Maps)} (f : World A → Flow A) (g : World (A × Maps) → Flow (A × Maps)) → KeepsFlow f g → SameFlow x y → SameFlow (bind x f) (bind y g)
  bind_same f g k (goes h) = apply_flow f g k h
  bind_same f g k (halts h) = halts h

  ending_same : {x : Flow A} {y : Flow (A × Maps)} → SameFlow x y → Same (ending x) (ending y)
  ending_same (goes h) = h
  ending_same (halts h) = h

  each_same : (f : ℕ → World A → Flow A) (g : ℕ → World (A × Maps) → Flow (A × Maps)) → ((i : ℕ) → KeepsFlow (f i) (g i)) → (count i : ℕ) → KeepsFlow (each f count i) (each g count i)
  unfolding each
  each_same f g h zero i s o k m w a = goes (same a)
  each_same f g h (suc count) i s o k m w a = bind_same (each f count (i + 1)) (each g count (i + 1)) (each_same f g h count (i + 1)) (h i s o k m w a)

  -- ---- pushes

  say_same : (t : P) (e : Event) → Keeps (say enter emit t e) (say enter beside t e)
  unfolding say
  say_same t e s o k m w a = same a

  load_same : (t : P) (why : Reason) (l : ℕ) (x : WorldBBox) → Keeps (add_load enter emit t why l x) (add_load enter beside t why l x)
  unfolding add_load
  load_same t why l x s o k m w a = cond_same (ltb s.load_proxies max_load_proxies) (say_same t (proxy why l x) s o k m w a) (say_same t (dropped_proxy why l x) s o k m w a)

  load_if_boxed_same : (t : P) (why : Reason) (l : ℕ) (x : Bounds) → Keeps (add_load_if_boxed enter emit t why l x) (add_load_if_boxed enter beside t why l x)
  load_if_boxed_same t why l Absent s o k m w a = same a
  load_if_boxed_same t why l (Box x₀ y₀ x₁ y₁) s o k m w a = load_same t why l (bbox x₀ y₀ x₁ y₁) s o k m w a

  halt_with_cell_same : (t : P) (l : ℕ) (x : Bounds) {f : Flow A} {g : Flow (A × Maps)} → SameFlow f g → SameFlow (halt_with_cell enter emit t l x f) (halt_with_cell enter beside t l x g)
  halt_with_cell_same t l x (goes h) = goes h
  halt_with_cell_same t l x (halts h) = halts (apply_same (add_load_if_boxed enter emit t reason.OtherLimit l x) (add_load_if_boxed enter beside t reason.OtherLimit l x) (load_if_boxed_same t reason.OtherLimit l x) h)

  halt_with_member_same : (t here : P) (l : ℕ) (x z : WorldBBox) {f : Flow A} {g : Flow (A × Maps)} → SameFlow f g → SameFlow (halt_with_member enter emit t here l x z f) (halt_with_member enter beside t here l x z g)
  halt_with_member_same t here l x z (goes h) = goes h
  halt_with_member_same t here l x z (halts h) =
      halts (apply_same (add_load enter emit t reason.OtherLimit no_label z) (add_load enter beside t reason.OtherLimit no_label z) (load_same t reason.OtherLimit no_label z)
      (apply_same (add_load enter emit here reason.OtherLimit l x) (add_load enter beside here reason.OtherLimit l x) (load_same here reason.OtherLimit l x) h))

  found_geometry_same : (t : P) (i : ℕ) (p : Placement) (x : Option PreparedGeometry) → Keeps (push_found_geometry enter emit S q t i p x) (push_found_geometry enter beside S q t i p x)
  unfolding push_found_geometry
  found_geometry_same t i p none s o k m w a = same a
  found_geometry_same t i p (some g) s o k m w a =
      let box = transform_bbox p g.bbox in
      let size = screen_size box q.zoom in
      cond_same (hides q g.layer g.data_type) (same a)
      (cond_same (not (overlaps box q.view)) (say_same t culled_batch s o k m w a)
      (cond_same (is_subpixel size) (say_same t (skipped_batch box) s o k m w a)
      (cond_same (is_dense_batch size g.element_count) (load_same t reason.DenseBatch no_label box s o k m w a)
      (cond_same (detail_budget_exhausted q s) (load_same t reason.OtherLimit no_label box s o k m w a) (say_same t (batch i p) s o k m w a)))))

  geometry_same : (t : P) (i : ℕ) (p : Placement) → Keeps (push_geometry enter emit S q t i p) (push_geometry enter beside S q t i p)
  unfolding push_geometry
  geometry_same t i p = found_geometry_same t i p (S.geometry i)

  found_text_same : (t : P) (i : ℕ) (p : Placement) (x : Option PreparedText) → Keeps (push_found_text enter emit S q t i p x) (push_found_text enter beside S q t i p x)
  unfolding push_found_text
  found_text_same t i p none s o k m w a = same a
  found_text_same t i p (some x) s o k m w a =
      let v = transform_point2 p x.origin in
      cond_same (hides q x.layer x.data_type) (same a) (cond_same (point_in_bbox v q.view) (say_same t (text i v) s o k m w a) (same a))

  text_same : (t : P) (i : ℕ) (p : Placement) → Keeps (push_text enter emit S q t i p) (push_text enter beside S q t i p)
  unfolding push_text
  text_same t i p = found_text_same t i p (S.text i)

  point_same : (t : P) (p : Placement) (x : NodeRecord) (j : ℕ) → KeepsFlow (push_point enter emit S q t p x j) (push_point enter beside S q t p x j)
  unfolding push_point
  point_same t p x j s o k m w a =
      let v = transform_point2 p (x.point j) in
      cond_flow (not (point_in_bbox v q.view)) (goes (same a))
      (cond_flow (detail_budget_exhausted q s) (halts (same a)) (goes (say_same (enter (point_at j) t) (point x.layer x.node_type v) s o k m w a)))

  found_node_same : (t : P) (p : Placement) (x : Option NodeRecord) → KeepsFlow (push_found_node enter emit S q t p x) (push_found_node enter beside S q t p x)
  unfolding push_found_node
  found_node_same t p none s o k m w a = goes (same a)
  found_node_same t p (some x) s o k m w a =
      cond_flow (hides q x.layer x.node_type) (goes (same a)) (each_same (push_point enter emit S q t p x) (push_point enter beside S q t p x) (point_same t p x) x.count 0 s o k m w a)

  node_same : (t : P) (i : ℕ) (p : Placement) → KeepsFlow (push_node enter emit S q t i p) (push_node enter beside S q t i p)
  unfolding push_node
  node_same t i p = found_node_same t p (S.node i)

  -- ---- a cell, given the visit of a reference

  abbrev KeepsReferences : VisitReference enter emit S n q → VisitReference enter beside S 0 q → Type 0
  KeepsReferences f g = (t : P) (i : ℕ) (p : Placement) → Keeps (f t i p) (g t i p)

  module _ (f : VisitReference enter emit S n q) (g : VisitReference enter beside S 0 q) (hv : KeepsReferences f g) where
    module _ (t : P) (i : ℕ) (c : CellRecord) (p : Placement) (box : Bounds) where
      step_same : (s : ScenePlan) (o : A) (k m : List ℕ) (w : Maps) → Agree n D k m w → {x : Flow A} {y : Flow (A × Maps)} → SameFlow x y
          → SameFlow (cond (detail_budget_exhausted q s) (halt (add_load_if_boxed enter emit t reason.OtherLimit i box (world s o k m))) x) (cond (detail_budget_exhausted q s) (halt (add_load_if_boxed enter beside t reason.OtherLimit i box (world s (o, w) [] []))) y)
      step_same s o k m w a h = cond_flow (detail_budget_exhausted q s) (halts (load_if_boxed_same t reason.OtherLimit i box s o k m w a)) h

      geometry_step_lem : (j : ℕ) → KeepsFlow (geometry_step enter emit S n q t i c p box j) (geometry_step enter beside S 0 q t i c p box j)
      unfolding geometry_step
      geometry_step_lem j s o k m w a = step_same s o k m w a (goes (geometry_same (enter (batch_at j) t) (c.geometries.at j) p s o k m w a))

      text_step_lem : (j : ℕ) → KeepsFlow (text_step enter emit S n q t i c p box j) (text_step enter beside S 0 q t i c p box j)
      unfolding text_step
      text_step_lem j s o k m w a = step_same s o k m w a (goes (text_same (enter (text_at j) t) (c.texts.at j) p s o k m w a))

      node_step_lem : (j : ℕ) → KeepsFlow (node_step enter emit S n q t i c p box j) (node_step enter beside S 0 q t i c p box j)
      unfolding node_step
      node_step_lem j s o k m w a = step_same s o k m w a (halt_with_cell_same t i box (node_same (enter (node_at j) t) (c.nodes.at j) p s o k m w a))

      reference_step_lem : (j : ℕ) → KeepsFlow (reference_step enter emit S n q t i c p box f j) (reference_step enter beside S 0 q t i c p box g j)
      unfolding reference_step
      reference_step_lem j s o k m w a = step_same s o k m w a (goes (hv (enter (reference_at j) t) (c.references.at j) p s o k m w a))

      body_same : KeepsFlow (cell_body enter emit S n q t i c p box f) (cell_body enter beside S 0 q t i c p box g)
      unfolding cell_body
      body_same s o k m w a =
          bind_same _ _ (each_same _ _ reference_step_lem c.references.count 0)
          (bind_same _ _ (each_same _ _ node_step_lem c.nodes.count 0)
          (bind_same _ _ (each_same _ _ text_step_lem c.texts.count 0) (each_same _ _ geometry_step_lem c.geometries.count 0 s o k m w a)))

    close_same : (i : ℕ) → i < n → Keeps (set_mark (open_place n i) 0) (λ v. with_maps enter emit (opened i false v.out.1) v)
    close_same i i< s o k m w a = same (open_agree n D k m w a i i< 0 false refl)

    cell_same : (t : P) (i : ℕ) (p : Placement) (x : Option CellRecord) → S.cell i ≡ x → Keeps (visit_found_cell enter emit S n q f t i p x) (visit_mapped_cell enter emit S q g t i p x)
    unfolding visit_found_cell visit_mapped_cell
    cell_same t i p none e s o k m w a = same a
    cell_same t i p (some c) e s o k m w a =
        let box = transform_bounds p c.bbox in
        let i< = numbered.present i c e in
        cond_same (is_outside box q.view) (same a)
        (cond_same (detail_cells_full s) (load_if_boxed_same t reason.CellLimit i box s o k m w a)
        (cond_same (detail_budget_exhausted q s) (load_if_boxed_same t reason.OtherLimit i box s o k m w a)
        (cond_alike (is_marked m (open_place n i)) (w.cell_stack i) (a.visiting i i<) (load_if_boxed_same t reason.Circle i box s o k m w a)
        (apply_same (set_mark (open_place n i) 0) (λ v. with_maps enter emit (opened i false v.out.1) v) (close_same i i<)
        (ending_same (apply_flow (cell_body enter emit S n q t i c p box f) (cell_body enter beside S 0 q t i c p box g) (body_same t i c p box)
        (say_same t detail_cell s o k (set m (open_place n i) 1) (opened i true w) (open_agree n D k m w a i i< 1 true refl))))))))

    source_same : (t : P) (x : PreparedSource) (p : Placement) → KeepsFlow (visit_source_with enter emit S n q f t x p) (visit_mapped_source enter emit S q g t x p)
    unfolding visit_source_with visit_mapped_source
    source_same t (Geometry i) p s o k m w a = goes (geometry_same t i p s o k m w a)
    source_same t (Text i) p s o k m w a = goes (text_same t i p s o k m w a)
    source_same t (Node i) p s o k m w a = node_same t i p s o k m w a
    source_same t (Reference i) p s o k m w a = goes (hv t i p s o k m w a)
    source_same t (Cell i) p s o k m w a = goes (cell_same t i p (S.cell i) refl s o k m w a)

  -- ---- a reference at a depth, given the visit of its members' sources

  abbrev KeepsSources : VisitSource enter emit S n q → VisitSource enter beside S 0 q → Type 0
  KeepsSources f g = (t : P) (x : PreparedSource) (p : Placement) → KeepsFlow (f t x p) (g t x p)

  module _ (f : VisitSource enter emit S n q) (g : VisitSource enter beside S 0 q) (hv : KeepsSources f g) (d : ℕ) (d≤ : d ≤ D) (t : P) where
    module _ (r : PreparedReference) (p : Placement) (sb wb : WorldBBox) where
      member_same : (u x y : ℕ) → KeepsFlow (member_step enter emit S n q f d t r p sb wb u x y) (member_step enter beside S 0 q g d t r p sb wb u x y)
      unfolding member_step
      member_same u x y s o k m w a =
          let placement = p · grid_member_transform r.grid x y in
          let box = transform_bbox placement sb in
          let size = reference_screen_size box q.zoom (source_is_degenerate sb) in
          let test = collapse_test size.width size.height 1 u d false in
          let here = enter (member x y) t in
          cond_flow (detail_budget_exhausted q s) (halts (load_same t reason.OtherLimit (label r.source) wb s o k m w a))
          (cond_flow (not (overlaps box q.view)) (goes (say_same here culled_reference s o k m w a))
          (cond_flow (is_subpixel size) (goes (say_same here (skipped_member (source_is_degenerate sb) box) s o k m w a))
          (cond_flow (collapses test) (goes (load_same here (box_reason test) (label r.source) box s o k m w a))
          (halt_with_member_same t here (label r.source) box wb (hv here r.source placement s o k m w a)))))

      column_same : (u x : ℕ) → KeepsFlow (column_step enter emit S n q f d t r p sb wb u x) (column_step enter beside S 0 q g d t r p sb wb u x)
      unfolding column_step
      column_same u x = each_same _ _ (member_same u x) r.grid.rows 0

      -- a count over the places, and one over the maps that is the same
      counted_same : (u : Units) (v : Tally) → u.units ≡ v.units → Agree n D u.counts u.marks v.maps → (s : ScenePlan) (o : A) (k m : List ℕ)
          → Same (visit_counted_reference enter emit S n q f d t r p sb wb u (world s o k m)) (visit_counted_reference enter beside S 0 q g d t r p sb wb (counted v.units [] []) (world s (o, v.maps) [] []))
      unfolding visit_counted_reference
      counted_same u v e a s o k m =
          let size = reference_screen_size wb q.zoom (source_is_degenerate sb) in
          let test = collapse_test size.width size.height (grid_count r.grid) u.units d false in
          subst (λ (z : ℕ). Same (visit_counted_reference enter emit S n q f d t r p sb wb u (world s o k m)) (visit_counted_reference enter beside S 0 q g d t r p sb wb (counted z [] []) (world s (o, v.maps) [] []))) e
          (cond_same (collapses test)
          (load_same t (box_reason test) (label r.source) wb s o u.counts u.marks v.maps a)
          (ending_same (each_same _ _ (column_same (source_units u.units (grid_count r.grid))) r.grid.columns 0 s o u.counts u.marks v.maps a)))

    boxed_same : (r : PreparedReference) (p : Placement) (sb : WorldBBox) (x : Bounds) → Keeps (visit_boxed_reference enter emit S n q f d t r p sb x) (visit_mapped_boxed enter emit S q g d t r p sb x)
    unfolding visit_boxed_reference visit_mapped_boxed
    boxed_same r p sb Absent s o k m w a = same a
    boxed_same r p sb (Box x₀ y₀ x₁ y₁) s o k m w a =
        let wb = transform_bbox p (bbox x₀ y₀ x₁ y₁) in
        let c = reference_same n D S numbered d d≤ r k m w a in
        cond_same (not (overlaps wb q.view)) (say_same t culled_reference s o k m w a)
        (cond_same (detail_cells_full s) (load_same t reason.CellLimit (label r.source) wb s o k m w a)
        (cond_same (detail_budget_exhausted q s) (load_same t reason.OtherLimit (label r.source) wb s o k m w a)
        (counted_same r p sb wb (reference_draw_units S n d r k m) (mapped_reference S d r w) c.units c.agree s o k m)))

    sourced_same : (r : PreparedReference) (p : Placement) (x : Bounds) → Keeps (visit_sourced_reference enter emit S n q f d t r p x) (visit_mapped_sourced enter emit S q g d t r p x)
    unfolding visit_sourced_reference visit_mapped_sourced
    sourced_same r p Absent s o k m w a = same a
    sourced_same r p (Box x₀ y₀ x₁ y₁) s o k m w a = boxed_same r p (bbox x₀ y₀ x₁ y₁) (reference_bbox r.grid (bbox x₀ y₀ x₁ y₁)) s o k m w a

    found_same : (p : Placement) (x : Option PreparedReference) → Keeps (visit_found_reference enter emit S n q f d t p x) (visit_mapped_found enter emit S q g d t p x)
    unfolding visit_found_reference visit_mapped_found
    found_same p none s o k m w a = same a
    found_same p (some r) s o k m w a = sourced_same r p r.source_bbox s o k m w a

  -- ---- the visits and the plan

  visit_same : (d : ℕ) → d ≤ D → KeepsReferences (visit_reference enter emit S n q d) (visit_mapped_reference enter emit S q d)
  unfolding visit_reference visit_mapped_reference
  visit_same zero h t i p = found_same (λ t x p w. go w) (λ t x p w. go w) (λ t x p s o k m w a. goes (same a)) 0 h t p (S.reference i)
  visit_same (suc d) h t i p = found_same _ _ (source_same _ _ (visit_same d (omega arith))) (suc d) h t p (S.reference i)

  root_box_same : (t : P) (x : Bounds) → Keeps (load_root_box enter emit S n q t x) (load_root_box enter beside S 0 q t x)
  unfolding load_root_box
  root_box_same t Absent s o k m w a = same a
  root_box_same t (Box x₀ y₀ x₁ y₁) s o k m w a = cond_same (overlaps (bbox x₀ y₀ x₁ y₁) q.view) (load_same t reason.DepthZero q.root (bbox x₀ y₀ x₁ y₁) s o k m w a) (same a)

  load_root_same : (t : P) (x : Option CellRecord) → Keeps (load_root enter emit S n q t x) (load_root enter beside S 0 q t x)
  unfolding load_root
  load_root_same t none s o k m w a = same a
  load_root_same t (some c) s o k m w a = root_box_same t c.bbox s o k m w a

  root_same : (d : ℕ) → d ≤ D → (t : P) → Keeps (visit_root enter emit S n q d t) (visit_mapped_root enter emit S q d t)
  unfolding visit_root visit_mapped_root visit_cell
  root_same zero h t = load_root_same t (S.cell q.root)
  root_same (suc d) h t = cell_same _ _ (visit_same (suc d) h) t q.root IDENTITY (S.cell q.root) refl

  totals_same : (t : P) {x : World A} {y : World (A × Maps)} → Same x y → Same (say enter emit t (totals x.state) x) (say enter beside t (totals y.state) y)
  totals_same t (same {s} {o} {k} {m} {w} a) = say_same t (totals s) s o k m w a

  pub same_state : {x : World A} {y : World (A × Maps)} → Same x y → x.state ≡ y.state
  same_state (same a) = refl

  pub same_out : {x : World A} {y : World (A × Maps)} → Same x y → x.out ≡ y.out.0
  same_out (same a) = refl

-- ---- THE THEOREM

-- from zeroed scratch and from empty maps, whatever becomes of the events
pub plan_over_maps : {P A : Type 0} (enter : Step → P → P) (emit : P → Event → ℕ → A → A) (S : Sheet) (n : ℕ) → CellsBelow n S → (q : Query) (t : P) (o : A)
    → let x = fresh_plan enter emit S n q t o in let y = mapped_plan enter emit S q t o in (x.state ≡ y.state) × (x.out ≡ y.out.0)
unfolding fresh_plan plan mapped_plan
plan_over_maps enter emit S n numbered q t o =
    let h = totals_same enter emit S n q.depth numbered q t (root_same enter emit S n q.depth numbered q q.depth (omega arith) t empty_plan o _ _ empty_maps (fresh_agree n q.depth)) in
    (same_state enter emit S n q.depth numbered q h, same_out enter emit S n q.depth numbered q h)

-- the tape of a sheet's bytes is that of the plan over maps
pub tape_over_maps : TapeOverMaps
unfolding tape_of
tape_over_maps s q = ap tape (plan_over_maps no_tag note (sheet_of s) (count_of s 5) (cells_below s) q tt []).1
