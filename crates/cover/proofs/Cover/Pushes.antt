-- Batches, texts and points that are in view on a shown layer: a push claims the path that leads to them. A node's push claims it as far as it goes on.
-- Assumes nothing.
use mathlib.Core.Path.{◌≡◌, refl, sym, subst}
use mathlib.Core.Bool.{not}
use mathlib.Core.List.{List, [], ◌∷◌}
use mathlib.Core.Option.{Option, some}
use Prim.Native.Nat.{ℕ, ◌≤◌, ◌<◌}
use native.Mathlib.Omega.{arith}
use Rattle.geometry.specs.declared.placement.Placement.{Placement}
use Rattle.geometry.specs.Placement.{transform_point2}
use Rattle.geometry.specs.Bbox.{transform_bbox, overlaps, point_in_bbox}
use Rattle.screen.specs.Screen.{screen_size, is_subpixel, is_dense_batch}
use Rattle.records.specs.declared.PreparedSource.{PreparedSource}
use Rattle.records.specs.declared.PreparedSource.TheVariants.{Geometry, Text, Node, Reference, Cell}
use Rattle.records.specs.declared.PreparedGeometry.{PreparedGeometry}
use Rattle.records.specs.declared.PreparedText.{PreparedText}
use Rattle.records.specs.declared.PreparedReference.{PreparedReference}
use Rattle.records.specs.Sources.{no_label}
use Rattle.abstract_sheet.specs.Sheet.{NodeRecord, Sheet}
use Rattle.exact.specs.Placement.{ExactPlacement, IsPlacement, AtLevel, deepest_level}
use Rattle.exact.specs.Box.{box_of}
use Rattle.exact.proofs.Boxes.Relations.{encloses_self}
use Rattle.exact.proofs.Boxes.Tests.{point_in_bbox_exact}
use Rattle.plan_rules.specs.Event.{batch, text, point, skipped_batch, Step, member, point_at}
use Rattle.plan_rules.specs.World.{Query, hides, detail_budget_exhausted, World}
use Rattle.plan_rules.specs.Push.{push_found_geometry, push_geometry, push_found_text, push_text, push_point, push_found_node, push_node}
use Rattle.plan_rules.specs.Tape.{note}
use Rattle.plan_rules.proofs.Invariant.{point_kept}
use Rattle.paths.specs.Square.{Square}
use Rattle.cover.specs.Path.{Path, Item, a_batch, a_text, a_point, member_at, StepLeads, to_batch, to_text, to_node, to_reference, through_member_lem, Leads, at_batch, at_text, at_point, step}
use Rattle.cover.specs.View.{placed_batch, text_position, point_position, WholeView, InView, Shown}
use Rattle.cover.specs.Trace.{enter}
use Rattle.cover.specs.Covered.{lists_batch, lists_text, lists_point, batch_skip}
use Rattle.cover.proofs.Tests.{cond_case, not_not, lacks_not_contains}
use Rattle.cover.proofs.TagPaths.{Tagged, back}
use Rattle.cover.proofs.Exactness.{placed_box, moved_point}
use Rattle.cover.proofs.Loops.{OnGo, each_goes}
use Rattle.cover.proofs.Cover.Claims.{not_culled, by_record, by_skip, Claimed, Grown, grown, say_claims, load_claims}

-- ---- how a path ends that begins at an item or at a reference

module _ (S : Sheet) where
  abbrev pub Ends : PreparedSource → ExactPlacement → Path → Item → Type 0
  Ends (Geometry n) T p h = (g : PreparedGeometry) × (S.geometry n ≡ some g) × (p ≡ []) × (h ≡ a_batch n g T)
  Ends (Text n) T p h = (x : PreparedText) × (S.text n ≡ some x) × (p ≡ []) × (h ≡ a_text n x T)
  Ends (Node n) T p h = (x : NodeRecord) × (j : ℕ) × (S.node n ≡ some x) × (j < x.count) × (p ≡ point_at j ∷ []) × (h ≡ a_point n x j T)
  Ends (Reference n) T p h =
      (r : PreparedReference) × (x : ℕ) × (y : ℕ) × (p' : Path) × (S.reference n ≡ some r) × (x < r.grid.columns) × (y < r.grid.rows) × (p ≡ member x y ∷ p')
      × Leads S r.source (member_at T r x y) p' h
  Ends (Cell n) T p h = Unit {0}

  ends_step : {s u : PreparedSource} {T U : ExactPlacement} {k : Step} {p : Path} {h : Item} → StepLeads S s T k u U → Leads S u U p h → Ends s T (k ∷ p) h
  ends_step (to_batch f i<) l = tt
  ends_step (to_text f i<) l = tt
  ends_step (to_node f i<) l = tt
  ends_step (to_reference f i<) l = tt
  ends_step {p = p} (through_member_lem {column = x} {row = y} {r = r} f x< y<) l = (r, x, y, p, f, x<, y<, refl, l)

  pub ends : {s : PreparedSource} {T : ExactPlacement} {p : Path} {h : Item} → Leads S s T p h → Ends s T p h
  ends (at_batch {g = g} e) = (g, e, refl, refl)
  ends (at_text {x = x} e) = (x, e, refl, refl)
  ends (at_point {j = j} {x = x} e j<) = (x, j, e, j<, refl, refl)
  ends (step k l) = ends_step k l

module _ (S : Sheet) (cells : ℕ) (q : Query) (whole : WholeView q.view) (sq : Square S) where
  -- ---- at a placement of a level

  module _ (l : ℕ) (l≤ : l ≤ deepest_level) (p : Placement) (T : ExactPlacement) (i : IsPlacement p T) (level : AtLevel l T) where
    batch_claims : (t : List Step) (n : ℕ) (b : PreparedGeometry) → S.geometry n ≡ some b → InView q.view (a_batch n b T) → Shown q.hidden (a_batch n b T)
        → (w : World Tagged) → Claimed (back t []) (a_batch n b T) (push_geometry enter note S q t n p w)
    unfolding push_geometry push_found_geometry hides
    batch_claims t n b e v shown w =
        let g = back t [] in
        let h = a_batch n b T in
        let box = transform_bbox p b.bbox in
        let z = placed_batch b T in
        let is = placed_box l l≤ p T i level b.bbox (sq.geometry n b e) in
        let size = screen_size box q.zoom in
        subst (λ (o : Option PreparedGeometry). Claimed g h (push_found_geometry enter note S q t n p o w)) (sym e)
        (cond_case (Claimed g h) (hides q b.layer b.data_type) _ _
        (λ y. absurd (lacks_not_contains q.hidden _ shown y))
        (λ _. cond_case (Claimed g h) (not (overlaps box q.view)) _ _
        (λ y. absurd (not_culled q.view whole box z is v.1 y))
        (λ _. cond_case (Claimed g h) (is_subpixel size) _ _
        (λ y. say_claims g h t (skipped_batch box) (by_skip [] refl batch_skip) w)
        (λ _. cond_case (Claimed g h) (is_dense_batch size b.element_count) _ _
        (λ _. load_claims g h t _ no_label box z is (encloses_self z) w)
        (λ _. cond_case (Claimed g h) (detail_budget_exhausted q w.state) _ _
        (λ _. load_claims g h t _ no_label box z is (encloses_self z) w)
        (λ _. say_claims g h t (batch n p) (by_record refl (lists_batch i)) w))))))

    text_claims : (t : List Step) (n : ℕ) (x : PreparedText) → S.text n ≡ some x → InView q.view (a_text n x T) → Shown q.hidden (a_text n x T)
        → (w : World Tagged) → Claimed (back t []) (a_text n x T) (push_text enter note S q t n p w)
    unfolding push_text push_found_text hides
    text_claims t n x e v shown w =
        let g = back t [] in
        let h = a_text n x T in
        let o = transform_point2 p x.origin in
        let at = moved_point l l≤ p T i level x.origin (sq.text n x e) in
        subst (λ (o : Option PreparedText). Claimed g h (push_found_text enter note S q t n p o w)) (sym e)
        (cond_case (Claimed g h) (hides q x.layer x.data_type) _ _
        (λ y. absurd (lacks_not_contains q.hidden _ shown y))
        (λ _. cond_case (Claimed g h) (point_in_bbox o q.view) _ _
        (λ _. say_claims g h t (text n o) (by_record refl (lists_text at)) w)
        (λ y. absurd (not_not (point_in_bbox o q.view) (point_in_bbox_exact o q.view (text_position x T) (box_of q.view) at whole v) y))))

    point_claims : (t : List Step) (n : ℕ) (x : NodeRecord) (j : ℕ) → S.node n ≡ some x → j < x.count → InView q.view (a_point n x j T)
        → (w : World Tagged) → OnGo (Claimed (back t (point_at j ∷ [])) (a_point n x j T)) (push_point enter note S q t p x j w)
    unfolding push_point
    point_claims t n x j e j< v w =
        let g = back t (point_at j ∷ []) in
        let h = a_point n x j T in
        let o = transform_point2 p (x.point j) in
        let at = moved_point l l≤ p T i level (x.point j) (sq.point n x j e j<) in
        cond_case (OnGo (Claimed g h)) (not (point_in_bbox o q.view)) _ _
        (λ y. absurd (not_not (point_in_bbox o q.view) (point_in_bbox_exact o q.view (point_position x j T) (box_of q.view) at whole v) y))
        (λ _. cond_case (OnGo (Claimed g h)) (detail_budget_exhausted q w.state) _ _ (λ _. tt)
        (λ _. say_claims g h (point_at j ∷ t) (point x.layer x.node_type o) (by_record refl (lists_point at)) w))

    node_claims : (t : List Step) (n : ℕ) (x : NodeRecord) (j : ℕ) → S.node n ≡ some x → j < x.count → InView q.view (a_point n x j T) → Shown q.hidden (a_point n x j T)
        → (w : World Tagged) → OnGo (Claimed (back t (point_at j ∷ [])) (a_point n x j T)) (push_node enter note S q t n p w)
    unfolding push_node push_found_node hides
    node_claims t n x j e j< v shown w =
        let g = back t (point_at j ∷ []) in
        let h = a_point n x j T in
        subst (λ (o : Option NodeRecord). OnGo (Claimed g h) (push_found_node enter note S q t p o w)) (sym e)
        (cond_case (OnGo (Claimed g h)) (hides q x.layer x.node_type) _ _
        (λ y. absurd (lacks_not_contains q.hidden _ shown y))
        (λ _. each_goes (Claimed g h) (push_point enter note S q t p x) x.count j j<
        (point_kept enter note S cells q (Grown g h) (grown g h q) t n p x e)
        (point_claims t n x j e j< v) x.count 0 (omega arith) (omega arith) w))

    -- ---- whatever path leads to the item

    pub geometry_push_claims : (t : List Step) (n : ℕ) (g : Path) (h : Item) → Leads S (Geometry n) T g h → InView q.view h → Shown q.hidden h → (w : World Tagged) → Claimed (back t g) h (push_geometry enter note S q t n p w)
    geometry_push_claims t n g h leads v shown w =
        let k = ends S leads in
        subst (λ (g : Path). Claimed (back t g) h (push_geometry enter note S q t n p w)) (sym k.2)
        (subst (λ (h : Item). InView q.view h → Shown q.hidden h → Claimed (back t []) h (push_geometry enter note S q t n p w)) (sym k.3) (λ v shown. batch_claims t n k.0 k.1 v shown w) v shown)

    pub text_push_claims : (t : List Step) (n : ℕ) (g : Path) (h : Item) → Leads S (Text n) T g h → InView q.view h → Shown q.hidden h → (w : World Tagged) → Claimed (back t g) h (push_text enter note S q t n p w)
    text_push_claims t n g h leads v shown w =
        let k = ends S leads in
        subst (λ (g : Path). Claimed (back t g) h (push_text enter note S q t n p w)) (sym k.2)
        (subst (λ (h : Item). InView q.view h → Shown q.hidden h → Claimed (back t []) h (push_text enter note S q t n p w)) (sym k.3) (λ v shown. text_claims t n k.0 k.1 v shown w) v shown)

    pub node_push_claims : (t : List Step) (n : ℕ) (g : Path) (h : Item) → Leads S (Node n) T g h → InView q.view h → Shown q.hidden h → (w : World Tagged) → OnGo (Claimed (back t g) h) (push_node enter note S q t n p w)
    node_push_claims t n g h leads v shown w =
        let k = ends S leads in
        subst (λ (g : Path). OnGo (Claimed (back t g) h) (push_node enter note S q t n p w)) (sym k.4)
        (subst (λ (h : Item). InView q.view h → Shown q.hidden h → OnGo (Claimed (back t (point_at k.1 ∷ [])) h) (push_node enter note S q t n p w)) (sym k.5) (λ v shown. node_claims t n k.0 k.1 k.2 k.3 v shown w) v shown)
