-- The induction on the depth: from a source, by its next step, to what the path leads to. Depth and level together stay within 48, so that every placement met is exact.
-- Assumes nothing.
use mathlib.Core.Path.{◌≡◌, sym, ap, ◌∙◌, subst}
use mathlib.Core.List.{List, [], ◌∷◌}
use mathlib.Core.Option.{Option, some}
use Prim.Native.Nat.{ℕ, zero, suc, ◌+◌, ◌≤◌}
use native.Mathlib.Omega.{arith}
use Rattle.geometry.specs.declared.placement.Placement.{Placement}
use Rattle.geometry.specs.declared.bbox.WorldBBox.{WorldBBox}
use Rattle.geometry.specs.declared.bbox.Bounds.{Bounds}
use Rattle.geometry.specs.Placement.{IDENTITY, ◌·◌}
use Rattle.geometry.specs.Bbox.{boxed, transform_bbox, overlaps, transform_bounds}
use Rattle.grid.specs.Grid.{grid_member_transform, corners_bbox}
use Rattle.records.specs.declared.PreparedSource.{PreparedSource}
use Rattle.records.specs.declared.PreparedSource.TheVariants.{Geometry, Text, Node, Reference, Cell}
use Rattle.abstract_sheet.specs.Sheet.{CellRecord, Sheet}
use Rattle.exact.specs.Placement.{ExactPlacement, identity, IsPlacement, AtLevel}
use Rattle.exact.specs.Box.{IntegerBox, Inside, box_of, place}
use Rattle.exact.proofs.Placements.Levels.{identity_level}
use Rattle.exact.proofs.Placements.Moving.{identity_exact}
use Rattle.plan_rules.specs.declared.Reason.{Reason}
use Rattle.plan_rules.specs.Event.{Step, batch_at, text_at, node_at, reference_at, member}
use Rattle.plan_rules.specs.World.{Query, World, go, ending}
use Rattle.plan_rules.specs.Push.{say, add_load_if_boxed}
use Rattle.plan_rules.specs.Visit.{VisitSource, cell_body, visit_found_cell, visit_source_with, visit_found_reference, visit_reference, visit_cell}
use Rattle.plan_rules.specs.Plan.{load_root_box, load_root, visit_root, plan}
use Rattle.plan_rules.specs.Tape.{note}
use Rattle.plan_rules.proofs.Invariant.{member_kept, column_kept}
use Rattle.paths.specs.Square.{Square, FewMembers}
use Rattle.paths.specs.TrueBoxes.{TrueBoxes}
use Rattle.paths.proofs.Square.{box_is, bounds_square, reference_grid}
use Rattle.cover.specs.Path.{Path, Item, member_at, StepLeads, to_batch, to_text, to_node, to_reference, Leads, step, LeadsTo}
use Rattle.cover.specs.View.{WithinBox, WholeView, InView, Shown}
use Rattle.cover.specs.Trace.{enter, before}
use Rattle.cover.proofs.Tests.{cond_case}
use Rattle.cover.proofs.TagPaths.{Tagged, back}
use Rattle.cover.proofs.Exactness.{member_placed}
use Rattle.cover.proofs.Enclosure.{within_larger, in_source_box, enclosed}
use Rattle.cover.proofs.Loops.{OnGo}
use Rattle.cover.proofs.Cover.Claims.{view_has_elements, view_touches, not_culled, Claimed, Grown, grown, load_claims}
use Rattle.cover.proofs.Cover.Pushes.{ends, geometry_push_claims, text_push_claims, node_push_claims}
use Rattle.cover.proofs.Cover.Cells.{visits, in_geometries, in_texts, in_nodes, in_references, full_cell, cell_visit_claims}
use Rattle.cover.proofs.Cover.References.{reference_claims, columns_claim}

module _ (S : Sheet) (cells : ℕ) (q : Query) (whole : WholeView q.view) (few : FewMembers S) (sq : Square S) (true-boxes : TrueBoxes S) where
  -- ---- what a visit of a source, or of a reference, does at a depth and a level

  abbrev SourceClaims : ℕ → ℕ → Type 0
  SourceClaims d l = (t : List Step) (s : PreparedSource) (p : Placement) (T : ExactPlacement) → IsPlacement p T → AtLevel l T → (g : Path) (h : Item) → Leads S s T g h → InView q.view h → Shown q.hidden h
      → (w : World Tagged) → OnGo (Claimed (back t g) h) (visit_source_with enter note S cells q (visits S cells q d) t s p w)

  abbrev ReferenceClaims : ℕ → ℕ → Type 0
  ReferenceClaims d l = (t : List Step) (n : ℕ) (p : Placement) (T : ExactPlacement) → IsPlacement p T → AtLevel l T → (g : Path) (h : Item) → Leads S (Reference n) T g h → InView q.view h → Shown q.hidden h
      → (w : World Tagged) → Claimed (back t g) h (visits S cells q d t n p w)

  -- ---- a cell, by the path's first step

  module _ (d l : ℕ) (l≤ : l ≤ 48) (refs : ReferenceClaims d l) (t : List Step) (n : ℕ) (p : Placement) (T : ExactPlacement) (i : IsPlacement p T) (level : AtLevel l T) (h : Item) (v : InView q.view h) (shown : Shown q.hidden h)
      (c : CellRecord) (b : WorldBBox) (ec : S.cell n ≡ some c) (eb : c.bbox ≡ boxed b) (inside : WithinBox h (place T (box_of b))) where
    -- the record that the step found is the cell's
    same_box : (c' : CellRecord) → S.cell n ≡ some c' → c'.bbox ≡ boxed b
    same_box c' e = let s : c' ≡ c = cc in ap (λ (z : CellRecord). z.bbox) s ∙ eb

    abbrev Visited : Path → World Tagged → Type 0
    Visited G w = Claimed G h (visit_found_cell enter note S cells q (visits S cells q d) t n p (S.cell n) w)

    -- the cell's loops claim a path, given that the cell's box does
    in_cell : (c' : CellRecord) → S.cell n ≡ some c' → (G : Path)
        → (((y : Reason) (w : World Tagged) → Claimed G h (add_load_if_boxed enter note t y n (transform_bounds p c'.bbox) w)) → (w : World Tagged) → Claimed G h (ending (cell_body enter note S cells q t n c' p (transform_bounds p c'.bbox) (visits S cells q d) w)))
        → (w : World Tagged) → Visited G w
    in_cell c' e G loops =
        let box = same_box c' e in
        cell_visit_claims S cells q whole sq d l (omega arith) t n c' e p T i level b box G h v inside (loops (full_cell S cells q whole sq d l (omega arith) t n c' e p T i level b box G h v inside))

    from_cell : (k : Step) (u : PreparedSource) (U : ExactPlacement) (g : Path) → StepLeads S (Cell n) T k u U → Leads S u U g h → (w : World Tagged) → Visited (back t (k ∷ g)) w
    from_cell k u U g (to_batch {i = j} {c = c'} e j<) leads =
        in_cell c' e (back t (batch_at j ∷ g)) (λ full. in_geometries S cells q d t n c' e p (transform_bounds p c'.bbox) (back t (batch_at j ∷ g)) h full j j<
        (geometry_push_claims S cells q whole sq l (omega arith) p T i level (batch_at j ∷ t) (c'.geometries.at j) g h leads v shown))
    from_cell k u U g (to_text {i = j} {c = c'} e j<) leads =
        in_cell c' e (back t (text_at j ∷ g)) (λ full. in_texts S cells q d t n c' e p (transform_bounds p c'.bbox) (back t (text_at j ∷ g)) h full j j<
        (text_push_claims S cells q whole sq l (omega arith) p T i level (text_at j ∷ t) (c'.texts.at j) g h leads v shown))
    from_cell k u U g (to_node {i = j} {c = c'} e j<) leads =
        in_cell c' e (back t (node_at j ∷ g)) (λ full. in_nodes S cells q d t n c' e p (transform_bounds p c'.bbox) (back t (node_at j ∷ g)) h full j j<
        (node_push_claims S cells q whole sq l (omega arith) p T i level (node_at j ∷ t) (c'.nodes.at j) g h leads v shown))
    from_cell k u U g (to_reference {i = j} {c = c'} e j<) leads =
        in_cell c' e (back t (reference_at j ∷ g)) (λ full. in_references S cells q d t n c' e p (transform_bounds p c'.bbox) (back t (reference_at j ∷ g)) h full j j<
        (refs (reference_at j ∷ t) (c'.references.at j) p T i level g h leads v shown))

  module _ (d l : ℕ) (l≤ : l ≤ 48) (refs : ReferenceClaims d l) where
    cell_claims : (t : List Step) (n : ℕ) (p : Placement) (T : ExactPlacement) → IsPlacement p T → AtLevel l T → (g : Path) (h : Item) → Leads S (Cell n) T g h → InView q.view h → Shown q.hidden h
        → (w : World Tagged) → Claimed (back t g) h (visit_found_cell enter note S cells q (visits S cells q d) t n p (S.cell n) w)
    cell_claims t n p T i level g h (step {u = u} {U = U} {k = k} {p = rest} o leads) v shown w =
        let m = enclosed S few sq true-boxes (step o leads) (view_has_elements q.view h v) in
        from_cell d l l≤ refs t n p T i level h v shown m.0 m.1 m.2 m.3 m.4 k u U rest o leads w

    source_claims : SourceClaims d l
    unfolding visit_source_with
    source_claims t (Geometry n) p T i level g h leads v shown w = geometry_push_claims S cells q whole sq l (omega arith) p T i level t n g h leads v shown w
    source_claims t (Text n) p T i level g h leads v shown w = text_push_claims S cells q whole sq l (omega arith) p T i level t n g h leads v shown w
    source_claims t (Node n) p T i level g h leads v shown w = node_push_claims S cells q whole sq l (omega arith) p T i level t n g h leads v shown w
    source_claims t (Reference n) p T i level g h leads v shown w = refs t n p T i level g h leads v shown w
    source_claims t (Cell n) p T i level g h leads v shown w = cell_claims t n p T i level g h leads v shown w

  -- ---- a reference, by depth

  reference_visit_claims : (d l : ℕ) → d + l ≤ 48 → ReferenceClaims d l
  unfolding visit_reference
  reference_visit_claims zero l b t n p T i level g h leads v shown w =
      let k = ends S leads in
      let r = k.0 in
      let o = in_source_box S few sq true-boxes n r k.4 (member_at T r k.1 k.2) h (enclosed S few sq true-boxes k.8 (view_has_elements q.view h v)) in
      subst (λ (z : Path). Claimed (back t z) h (visit_found_reference enter note S cells q (λ t s p w. go w) 0 t p (S.reference n) w)) (sym k.7)
      (reference_claims S cells q whole few sq true-boxes 0 l (omega arith) t n r k.4 p T i level k.1 k.2 k.5 k.6 k.3 h v o.0 o.1 o.2 (λ t s p w. go w) (λ z. absurd (let y : ⊥ = omega arith in y)) w)
  reference_visit_claims (suc d) l b t n p T i level g h leads v shown w =
      let k = ends S leads in
      let r = k.0 in
      let x = k.1 in
      let y = k.2 in
      let rest = k.3 in
      let M = member_at T r x y in
      let o = in_source_box S few sq true-boxes n r k.4 M h (enclosed S few sq true-boxes k.8 (view_has_elements q.view h v)) in
      let sb = o.0 in
      let visit : VisitSource enter note S cells q = visit_source_with enter note S cells q (visits S cells q d) in
      let G = back t (member x y ∷ rest) in
      let m = member_placed l (omega arith) p T i level r.grid (reference_grid S few sq n r k.4) x y k.5 k.6 in
      let world_box = transform_bbox p (corners_bbox r.grid sb) in
      subst (λ (z : Path). Claimed (back t z) h (visit_found_reference enter note S cells q visit (suc d) t p (S.reference n) w)) (sym k.7)
      (reference_claims S cells q whole few sq true-boxes (suc d) l (omega arith) t n r k.4 p T i level x y k.5 k.6 rest h v sb o.1 o.2 visit
      (λ _. columns_claim S cells q whole few sq true-boxes (suc d) l (omega arith) t n r k.4 p T i level x y k.5 k.6 rest h v sb o.1 o.2 (omega arith) visit
      (source_claims d (suc l) (omega arith) (reference_visit_claims d (suc l) (omega arith)) (member x y ∷ t) r.source (p · grid_member_transform r.grid x y) M m.0 m.1 rest h k.8 v shown)
      (column_kept enter note S cells q (Grown G h) (grown G h q) d t n r p sb world_box k.4 o.1)
      (member_kept enter note S cells q (Grown G h) (grown G h q) d t n r p sb world_box k.4 o.1)) w)

  -- ---- the plan

  identity_keeps : (z : IntegerBox) → Inside (place identity z) z
  identity_keeps z = record { left = omega arith; right = omega arith; bottom = omega arith; top = omega arith }

  -- depth 0: the root's box as it stands
  root_claims : (p : Path) (h : Item) → InView q.view h → (c : CellRecord) (b : WorldBBox) → S.cell q.root ≡ some c → c.bbox ≡ boxed b → WithinBox h (place identity (box_of b))
      → (w : World Tagged) → Claimed p h (load_root enter note S cells q [] (S.cell q.root) w)
  unfolding load_root load_root_box boxed
  root_claims p h v c b e eb inside w =
      let i = box_is b (bounds_square c.bbox b eb (sq.cell_box q.root c e)) in
      let u = within_larger h (place identity (box_of b)) (box_of b) (identity_keeps (box_of b)) inside in
      subst (λ (o : Option CellRecord). Claimed p h (load_root enter note S cells q [] o w)) (sym e)
      (subst (λ (o : Bounds). Claimed p h (load_root_box enter note S cells q [] o w)) (sym eb)
      (cond_case (Claimed p h) (overlaps b q.view) _ _ (λ _. load_claims p h [] _ q.root b (box_of b) i u w)
      (λ y. absurd (not_culled q.view whole b (box_of b) i (view_touches q.view h (box_of b) v u) y))))

  root_visit_claims : (d : ℕ) → d ≤ 48 → (p : Path) (h : Item) → LeadsTo S q.root p h → InView q.view h → Shown q.hidden h → (w : World Tagged) → Claimed p h (visit_root enter note S cells q d [] w)
  unfolding visit_root visit_cell
  root_visit_claims zero d≤ p h leads v shown w = let m = enclosed S few sq true-boxes leads (view_has_elements q.view h v) in root_claims p h v m.0 m.1 m.2 m.3 m.4 w
  root_visit_claims (suc d) d≤ p h leads v shown w =
      cell_claims (suc d) 0 (omega arith) (reference_visit_claims (suc d) 0 (omega arith)) [] q.root IDENTITY identity identity_exact identity_level p h leads v shown w

  pub plan_claims : q.depth ≤ 48 → (p : Path) (h : Item) → LeadsTo S q.root p h → InView q.view h → Shown q.hidden h → (w : World Tagged) → Claimed p h (plan enter note S cells q [] w)
  unfolding plan say
  plan_claims d p h leads v shown w = before (root_visit_claims q.depth d p h leads v shown w)
