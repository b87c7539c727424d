-- Cells, references and the plan: what each adds lies below its own tag. A cell's four loops go on by steps of different kinds.
-- Assumes nothing.
use mathlib.Core.Path.{◌≡◌, refl, ap}
use mathlib.Core.Bool.{false, not, cond}
use mathlib.Core.List.{List, [], ◌∷◌}
use mathlib.Core.Option.{Option, none, some}
use Prim.Native.Nat.{ℕ, zero, suc, ◌≤◌, ◌<◌}
use native.Mathlib.Omega.{arith}
use Rattle.geometry.specs.declared.placement.Placement.{Placement}
use Rattle.geometry.specs.declared.bbox.WorldBBox.{WorldBBox}
use Rattle.geometry.specs.declared.bbox.Bounds.{Bounds}
use Rattle.geometry.specs.declared.bbox.Bounds.TheVariants.{Absent, Box}
use Rattle.geometry.specs.Placement.{IDENTITY, ◌·◌}
use Rattle.geometry.specs.Bbox.{bbox, transform_bbox, overlaps, source_is_degenerate, transform_bounds, is_outside}
use Rattle.grid.specs.Grid.{grid_count, grid_member_transform, reference_bbox}
use Rattle.screen.specs.Screen.{reference_screen_size, is_subpixel, collapse_test, collapses}
use Rattle.records.specs.declared.PreparedSource.{PreparedSource}
use Rattle.records.specs.declared.PreparedSource.TheVariants.{Geometry, Text, Node, Reference, Cell}
use Rattle.records.specs.declared.PreparedReference.{PreparedReference}
use Rattle.records.specs.Sources.{no_label, label}
use Rattle.abstract_sheet.specs.Sheet.{CellRecord, Sheet}
use Rattle.plan_rules.specs.declared.Reason.TheVariants as reason
use Rattle.plan_rules.specs.Event.{Event, skipped_member, culled_reference, detail_cell, totals, Step, batch_at, text_at, node_at, reference_at, member, point_at, empty_plan}
use Rattle.plan_rules.specs.World.{Query, detail_cells_full, detail_budget_exhausted, World, world, Flow, go, halt, bind, ending, each, set_mark}
use Rattle.plan_rules.specs.Scratch.{open_place, is_marked}
use Rattle.plan_rules.specs.DrawUnits.{Units, reference_draw_units}
use Rattle.plan_rules.specs.Push.{say, add_load, add_load_if_boxed, push_geometry, push_text, push_found_node, push_node}
use Rattle.plan_rules.specs.Visit.{source_units, halt_with_cell, halt_with_member, with_scratch, VisitReference, VisitSource, geometry_step, text_step, node_step, reference_step, cell_body, visit_found_cell, visit_source_with, member_step, column_step, visit_counted_reference, visit_boxed_reference, visit_sourced_reference, visit_found_reference, visit_reference, visit_cell}
use Rattle.plan_rules.specs.Plan.{load_root_box, load_root, visit_root, plan}
use Rattle.plan_rules.specs.Tape.{note}
use Rattle.cover.specs.Path.{Path}
use Rattle.cover.specs.Trace.{enter, path_of, with_paths, Any, here, before, IsRecord}
use Rattle.cover.specs.Covered.{NoPathTwice}
use Rattle.cover.proofs.Tests.{cond_case}
use Rattle.cover.proofs.TagPaths.{Tagged, path_injective}
use Rattle.cover.proofs.Once.Adds.{Recorded, Once, Adds, AddsWorld, AddsFlow, Nowhere, adds_nothing, adds_quiet, adds_more, quiet_after, quiet_before, bind_adds}
use Rattle.cover.proofs.Once.Loops.{Under, under_up, same_step, From, from_under, each_adds, steps_add}
use Rattle.cover.proofs.Once.Pushes.{load_adds, load_if_boxed_adds, geometry_adds, text_adds, node_adds}

-- the kinds of steps, in the order of a cell's loops
kind : Step → ℕ
kind (batch_at i) = 0
kind (text_at i) = 1
kind (node_at i) = 2
kind (reference_at i) = 3
kind (member x y) = 4
kind (point_at j) = 5

module _ (S : Sheet) (cells : ℕ) (q : Query) where
  -- ---- a cell

  abbrev Visits : VisitReference enter note S cells q → Type 0
  Visits v = (t : List Step) (n : ℕ) (p : Placement) → AddsWorld (Under t) (v t n p)

  module _ (visit : VisitReference enter note S cells q) (hv : Visits visit) (t : List Step) (n : ℕ) (c : CellRecord) (p : Placement) (box : Bounds) where
    -- at an exhausted budget the cell's box is added, and no record
    step_adds : (k : Step) (w : World Tagged) (f : Flow Tagged) → Adds (Under (k ∷ t)) w.out (ending f).out
        → Adds (Under (k ∷ t)) w.out (ending (cond (detail_budget_exhausted q w.state) (halt (add_load_if_boxed enter note t reason.OtherLimit n box w)) f)).out
    step_adds k w f h = cond_case (λ (f : Flow Tagged). Adds (Under (k ∷ t)) w.out (ending f).out) (detail_budget_exhausted q w.state) _ _ (λ _. load_if_boxed_adds (Under (k ∷ t)) t _ n box w) (λ _. h)

    geometry_step_adds : (i : ℕ) → AddsFlow (Under (batch_at i ∷ t)) (geometry_step enter note S cells q t n c p box i)
    unfolding geometry_step push_geometry
    geometry_step_adds i w = step_adds (batch_at i) w _ (geometry_adds S q (batch_at i ∷ t) (c.geometries.at i) p (S.geometry (c.geometries.at i)) w)

    text_step_adds : (i : ℕ) → AddsFlow (Under (text_at i ∷ t)) (text_step enter note S cells q t n c p box i)
    unfolding text_step push_text
    text_step_adds i w = step_adds (text_at i) w _ (text_adds S q (text_at i ∷ t) (c.texts.at i) p (S.text (c.texts.at i)) w)

    halt_with_cell_adds : (K : List Step → Type 0) (l : Tagged) (f : Flow Tagged) → Adds K l (ending f).out → Adds K l (ending (halt_with_cell enter note t n box f)).out
    halt_with_cell_adds K l (go v) h = h
    halt_with_cell_adds K l (halt v) h = quiet_after K l v.out _ h (load_if_boxed_adds Nowhere t _ n box v)

    node_step_adds : (i : ℕ) → AddsFlow (Under (node_at i ∷ t)) (node_step enter note S cells q t n c p box i)
    unfolding node_step push_node
    node_step_adds i w =
        step_adds (node_at i) w _ (halt_with_cell_adds (Under (node_at i ∷ t)) w.out (push_found_node enter note S q (node_at i ∷ t) p (S.node (c.nodes.at i)) w) (node_adds S q (node_at i ∷ t) p (S.node (c.nodes.at i)) w))

    reference_step_adds : (i : ℕ) → AddsFlow (Under (reference_at i ∷ t)) (reference_step enter note S cells q t n c p box visit i)
    unfolding reference_step
    reference_step_adds i w = step_adds (reference_at i) w _ (hv (reference_at i ∷ t) (c.references.at i) p w)

    -- below a step of a smaller kind
    Below : ℕ → List Step → Type 0
    Below k x = (m : Step) × (kind m < k) × Under (m ∷ t) x

    below_from : (k : ℕ) (a : ℕ → Step) → ((i : ℕ) → kind (a i) ≡ k) → (x : List Step) → Below k x → From a t 0 x → ⊥
    unfolding Below
    below_from k a ka x b f = let e = ap kind (same_step b.0 (a f.0) t x b.2 f.2) in let u = ka f.0 in let l = b.1 in let z : ⊥ = omega arith in z

    below_more : (j k : ℕ) → j ≤ k → (x : List Step) → Below j x → Below k x
    unfolding Below
    below_more j k l x b = let u = b.1 in (b.0, omega arith, b.2)

    from_below : (k : ℕ) (a : ℕ → Step) → ((i : ℕ) → kind (a i) < k) → (x : List Step) → From a t 0 x → Below k x
    unfolding Below
    from_below k a ka x f = (a f.0, ka f.0, f.2)

    body_adds : AddsFlow (Under t) (cell_body enter note S cells q t n c p box visit)
    unfolding cell_body kind Below
    body_adds w =
        let geometries : Flow Tagged = each (geometry_step enter note S cells q t n c p box) c.geometries.count 0 w in
        let texts : World Tagged → Flow Tagged = each (text_step enter note S cells q t n c p box) c.texts.count 0 in
        let nodes : World Tagged → Flow Tagged = each (node_step enter note S cells q t n c p box) c.nodes.count 0 in
        let references : World Tagged → Flow Tagged = each (reference_step enter note S cells q t n c p box visit) c.references.count 0 in
        adds_more (Below 4) (Under t) w.out _ (λ x b. under_up b.0 t x b.2)
        (bind_adds (Below 3) (From reference_at t 0) (Below 4) w.out (bind (bind geometries texts) nodes) references (below_more 3 4 (omega arith)) (from_below 4 reference_at (λ i. omega arith)) (below_from 3 reference_at (λ i. refl))
        (bind_adds (Below 2) (From node_at t 0) (Below 3) w.out (bind geometries texts) nodes (below_more 2 3 (omega arith)) (from_below 3 node_at (λ i. omega arith)) (below_from 2 node_at (λ i. refl))
        (bind_adds (Below 1) (From text_at t 0) (Below 2) w.out geometries texts (below_more 1 2 (omega arith)) (from_below 2 text_at (λ i. omega arith)) (below_from 1 text_at (λ i. refl))
        (adds_more (From batch_at t 0) (Below 1) w.out _ (from_below 1 batch_at (λ i. omega arith)) (steps_add batch_at (λ i j e. cc) t (geometry_step enter note S cells q t n c p box) geometry_step_adds c.geometries.count 0 w))
        (steps_add text_at (λ i j e. cc) t (text_step enter note S cells q t n c p box) text_step_adds c.texts.count 0))
        (steps_add node_at (λ i j e. cc) t (node_step enter note S cells q t n c p box) node_step_adds c.nodes.count 0))
        (steps_add reference_at (λ i j e. cc) t (reference_step enter note S cells q t n c p box visit) reference_step_adds c.references.count 0))

  cell_adds : (visit : VisitReference enter note S cells q) → Visits visit → (t : List Step) (n : ℕ) (p : Placement) (o : Option CellRecord) → AddsWorld (Under t) (visit_found_cell enter note S cells q visit t n p o)
  unfolding visit_found_cell say
  cell_adds visit hv t n p none w = adds_nothing (Under t) w.out
  cell_adds visit hv t n p (some c) w =
      let box = transform_bounds p c.bbox in
      let A : World Tagged → Type 0 = λ (v : World Tagged). Adds (Under t) w.out v.out in
      cond_case A (is_outside box q.view) _ _ (λ _. adds_nothing (Under t) w.out)
      (λ _. cond_case A (detail_cells_full w.state) _ _ (λ _. load_if_boxed_adds (Under t) t _ n box w)
      (λ _. cond_case A (detail_budget_exhausted q w.state) _ _ (λ _. load_if_boxed_adds (Under t) t _ n box w)
      (λ _. cond_case A (is_marked w.marks (open_place cells n)) _ _ (λ _. load_if_boxed_adds (Under t) t _ n box w)
      (λ _. quiet_before (Under t) w.out ((t, detail_cell) ∷ w.out) _ (adds_quiet Nowhere w.out t detail_cell refl) (body_adds visit hv t n c p box (say enter note t detail_cell (set_mark (open_place cells n) 1 w)))))))

  -- ---- a source

  abbrev Sources : VisitSource enter note S cells q → Type 0
  Sources v = (t : List Step) (s : PreparedSource) (p : Placement) → AddsFlow (Under t) (v t s p)

  source_adds : (visit : VisitReference enter note S cells q) → Visits visit → Sources (visit_source_with enter note S cells q visit)
  unfolding visit_source_with push_geometry push_text push_node
  source_adds visit hv t (Geometry n) p w = geometry_adds S q t n p (S.geometry n) w
  source_adds visit hv t (Text n) p w = text_adds S q t n p (S.text n) w
  source_adds visit hv t (Node n) p w = node_adds S q t p (S.node n) w
  source_adds visit hv t (Reference n) p w = hv t n p w
  source_adds visit hv t (Cell n) p w = cell_adds visit hv t n p (S.cell n) w

  -- ---- a reference

  module _ (visit : VisitSource enter note S cells q) (hv : Sources visit) (d : ℕ) (t : List Step) (r : PreparedReference) (p : Placement) (sb wb : WorldBBox) where
    halt_with_member_adds : (K : List Step → Type 0) (l : Tagged) (k : List Step) (n : ℕ) (b : WorldBBox) (f : Flow Tagged) → Adds K l (ending f).out → Adds K l (ending (halt_with_member enter note t k n b wb f)).out
    halt_with_member_adds K l k n b (go v) h = h
    halt_with_member_adds K l k n b (halt v) h =
        let boxed = add_load enter note k reason.OtherLimit n b v in
        quiet_after K l boxed.out _ (quiet_after K l v.out _ h (load_adds Nowhere k reason.OtherLimit n b v)) (load_adds Nowhere t reason.OtherLimit no_label wb boxed)

    member_adds : (u x y : ℕ) → AddsFlow (Under (member x y ∷ t)) (member_step enter note S cells q visit d t r p sb wb u x y)
    unfolding member_step say
    member_adds u x y w =
        let m = p · grid_member_transform r.grid x y in
        let box = transform_bbox m sb in
        let size = reference_screen_size box q.zoom (source_is_degenerate sb) in
        let stands = member x y ∷ t in
        let K = Under stands in
        let A : Flow Tagged → Type 0 = λ (f : Flow Tagged). Adds K w.out (ending f).out in
        cond_case A (detail_budget_exhausted q w.state) _ _ (λ _. load_adds K t _ (label r.source) wb w)
        (λ _. cond_case A (not (overlaps box q.view)) _ _ (λ _. adds_quiet K w.out stands culled_reference refl)
        (λ _. cond_case A (is_subpixel size) _ _ (λ _. adds_quiet K w.out stands (skipped_member (source_is_degenerate sb) box) refl)
        (λ _. cond_case A (collapses (collapse_test size.width size.height 1 u d false)) _ _ (λ _. load_adds K stands _ (label r.source) box w)
        (λ _. halt_with_member_adds K w.out stands (label r.source) box (visit stands r.source m w) (hv stands r.source m w)))))

    column_adds : (u x : ℕ) → AddsFlow (From (member x) t 0) (column_step enter note S cells q visit d t r p sb wb u x)
    unfolding column_step
    column_adds u x w = steps_add (member x) (λ i j e. cc) t (member_step enter note S cells q visit d t r p sb wb u x) (member_adds u x) r.grid.rows 0 w

    counted_adds : (u : Units) → AddsWorld (Under t) (visit_counted_reference enter note S cells q visit d t r p sb wb u)
    unfolding visit_counted_reference
    counted_adds u w =
        let size = reference_screen_size wb q.zoom (source_is_degenerate sb) in
        cond_case (λ (v : World Tagged). Adds (Under t) w.out v.out) (collapses (collapse_test size.width size.height (grid_count r.grid) u.units d false)) _ _
        (λ _. load_adds (Under t) t _ (label r.source) wb (with_scratch enter note u w))
        (λ _. adds_more (λ (x : List Step). (j : ℕ) × (0 ≤ j) × From (member j) t 0 x) (Under t) w.out _ (λ x k. from_under (member k.0) t 0 x k.2)
        (each_adds (λ (i : ℕ) (x : List Step). From (member i) t 0 x) (λ i j x l a b. different i j x l a b) (column_step enter note S cells q visit d t r p sb wb (source_units u.units (grid_count r.grid)))
        (column_adds (source_units u.units (grid_count r.grid))) r.grid.columns 0 (with_scratch enter note u w)))
      where
        different : (i j : ℕ) (x : List Step) → i < j → From (member i) t 0 x → From (member j) t 0 x → ⊥
        different i j x l a b =
            let e : member i a.0 ≡ member j b.0 = same_step (member i a.0) (member j b.0) t x a.2 b.2 in
            let k : i ≡ j = cc in
            let z : ⊥ = omega arith in
            z

  boxed_adds : (visit : VisitSource enter note S cells q) → Sources visit → (d : ℕ) (t : List Step) (r : PreparedReference) (p : Placement) (sb : WorldBBox) (o : Bounds) → AddsWorld (Under t) (visit_boxed_reference enter note S cells q visit d t r p sb o)
  unfolding visit_boxed_reference say
  boxed_adds visit hv d t r p sb Absent w = adds_nothing (Under t) w.out
  boxed_adds visit hv d t r p sb (Box x₀ y₀ x₁ y₁) w =
      let wb = transform_bbox p (bbox x₀ y₀ x₁ y₁) in
      let A : World Tagged → Type 0 = λ (v : World Tagged). Adds (Under t) w.out v.out in
      cond_case A (not (overlaps wb q.view)) _ _ (λ _. adds_quiet (Under t) w.out t culled_reference refl)
      (λ _. cond_case A (detail_cells_full w.state) _ _ (λ _. load_adds (Under t) t _ (label r.source) wb w)
      (λ _. cond_case A (detail_budget_exhausted q w.state) _ _ (λ _. load_adds (Under t) t _ (label r.source) wb w)
      (λ _. counted_adds visit hv d t r p sb wb (reference_draw_units S cells d r w.counts w.marks) w)))

  sourced_adds : (visit : VisitSource enter note S cells q) → Sources visit → (d : ℕ) (t : List Step) (r : PreparedReference) (p : Placement) (o : Bounds) → AddsWorld (Under t) (visit_sourced_reference enter note S cells q visit d t r p o)
  unfolding visit_sourced_reference
  sourced_adds visit hv d t r p Absent w = adds_nothing (Under t) w.out
  sourced_adds visit hv d t r p (Box x₀ y₀ x₁ y₁) w = boxed_adds visit hv d t r p (bbox x₀ y₀ x₁ y₁) (reference_bbox r.grid (bbox x₀ y₀ x₁ y₁)) w

  found_adds : (visit : VisitSource enter note S cells q) → Sources visit → (d : ℕ) (t : List Step) (p : Placement) (o : Option PreparedReference) → AddsWorld (Under t) (visit_found_reference enter note S cells q visit d t p o)
  unfolding visit_found_reference
  found_adds visit hv d t p none w = adds_nothing (Under t) w.out
  found_adds visit hv d t p (some r) w = sourced_adds visit hv d t r p r.source_bbox w

  reference_adds : (d : ℕ) → Visits (visit_reference enter note S cells q d)
  unfolding visit_reference
  reference_adds zero t n p w = found_adds (λ t s p w. go w) (λ t s p w. adds_nothing (Under t) w.out) 0 t p (S.reference n) w
  reference_adds (suc d) t n p w = found_adds (visit_source_with enter note S cells q (visit_reference enter note S cells q d)) (source_adds (visit_reference enter note S cells q d) (reference_adds d)) (suc d) t p (S.reference n) w

  -- ---- the plan

  root_box_adds : (t : List Step) (o : Bounds) → AddsWorld (Under t) (load_root_box enter note S cells q t o)
  unfolding load_root_box
  root_box_adds t Absent w = adds_nothing (Under t) w.out
  root_box_adds t (Box x₀ y₀ x₁ y₁) w =
      let b = bbox x₀ y₀ x₁ y₁ in
      cond_case (λ (v : World Tagged). Adds (Under t) w.out v.out) (overlaps b q.view) _ _ (λ _. load_adds (Under t) t _ q.root b w) (λ _. adds_nothing (Under t) w.out)

  load_root_adds : (t : List Step) (o : Option CellRecord) → AddsWorld (Under t) (load_root enter note S cells q t o)
  unfolding load_root
  load_root_adds t none w = adds_nothing (Under t) w.out
  load_root_adds t (some c) w = root_box_adds t c.bbox w

  root_adds : (d : ℕ) (t : List Step) → AddsWorld (Under t) (visit_root enter note S cells q d t)
  unfolding visit_root visit_cell
  root_adds zero t w = load_root_adds t (S.cell q.root) w
  root_adds (suc d) t w = cell_adds (visit_reference enter note S cells q (suc d)) (reference_adds (suc d)) t q.root IDENTITY (S.cell q.root) w

  plan_adds : (t : List Step) → AddsWorld (Under t) (plan enter note S cells q t)
  unfolding plan say
  plan_adds t w =
      let v = visit_root enter note S cells q q.depth t w in
      quiet_after (Under t) w.out v.out _ (root_adds q.depth t w) (adds_quiet Nowhere v.out t (totals v.state) refl)

  pub plan_once : (k m : List ℕ) → Once (plan enter note S cells q [] (world empty_plan [] k m)).out
  plan_once k m = (plan_adds [] (world empty_plan [] k m)).once tt (λ x r z. nothing r)
    where
      nothing : {x : List Step} → Recorded x [] → ⊥
      nothing r = elim r [ ]

-- ---- by paths

same_tag : (t : List Step) (l : Tagged) → Any (λ (y : Path × Event). IsRecord y.1 × (y.0 ≡ path_of t)) (with_paths l) → Recorded t l
same_tag t (x ∷ l) (here k) = here (k.0, path_injective x.0 t k.1)
same_tag t (x ∷ l) (before r) = before (same_tag t l r)
same_tag t [] x' = elim x' [ ]

pub no_path_twice : (l : Tagged) → Once l → NoPathTwice (with_paths l)
no_path_twice [] o = tt
no_path_twice (x ∷ l) o = (λ i r. o.0 i (same_tag x.0 l r), no_path_twice l o.1)
