-- A cell, seen from the list place that a path takes: the path is claimed at that place, or the loop stops earlier at a limit and adds the cell's box, which holds whatever the path leads to.
-- Assumes nothing.
use mathlib.Core.Path.{◌≡◌, sym, ap, subst}
use mathlib.Core.List.{List, ◌∷◌}
use mathlib.Core.Option.{Option, some}
use Prim.Native.Nat.{ℕ, ◌≤◌, ◌<◌}
use native.Mathlib.Omega.{arith}
use lib.Dec.{T as Yes}
use Rattle.geometry.specs.declared.placement.Placement.{Placement}
use Rattle.geometry.specs.declared.bbox.WorldBBox.{WorldBBox}
use Rattle.geometry.specs.declared.bbox.Bounds.{Bounds}
use Rattle.geometry.specs.Bbox.{boxed, transform_bbox, transform_bounds, is_outside}
use Rattle.abstract_sheet.specs.Sheet.{CellRecord, Sheet}
use Rattle.exact.specs.Placement.{ExactPlacement, IsPlacement, AtLevel, deepest_level}
use Rattle.exact.specs.Box.{IsBox, box_of, place}
use Rattle.plan_rules.specs.declared.Reason.{Reason}
use Rattle.plan_rules.specs.Event.{detail_cell, Step, batch_at, text_at, node_at, reference_at}
use Rattle.plan_rules.specs.World.{Query, detail_cells_full, detail_budget_exhausted, World, Flow, go, halt, ending, each, set_mark}
use Rattle.plan_rules.specs.Scratch.{open_place, is_marked}
use Rattle.plan_rules.specs.Push.{say, add_load_if_boxed, push_geometry, push_text, push_node}
use Rattle.plan_rules.specs.Visit.{halt_with_cell, VisitReference, geometry_step, text_step, node_step, reference_step, cell_body, visit_found_cell, visit_reference}
use Rattle.plan_rules.specs.Tape.{note}
use Rattle.plan_rules.proofs.Invariant.{geometry_step_kept, text_step_kept, node_step_kept, reference_step_kept}
use Rattle.paths.specs.Square.{Square}
use Rattle.paths.proofs.Square.{bounds_square}
use Rattle.cover.specs.Path.{Path, Item}
use Rattle.cover.specs.View.{WithinBox, WholeView, InView}
use Rattle.cover.specs.Trace.{enter}
use Rattle.cover.proofs.Tests.{cond_case}
use Rattle.cover.proofs.TagPaths.{Tagged}
use Rattle.cover.proofs.Exactness.{placed_box}
use Rattle.cover.proofs.Loops.{OnGo, OnHalt, Keeps, each_halts, each_keeps, each_covers, in_first, in_second, in_third, in_fourth}
use Rattle.cover.proofs.Cover.Claims.{view_touches, not_culled, Claimed, Grown, grown, load_if_boxed_claims}

module _ (S : Sheet) (cells : ℕ) (q : Query) where
  abbrev pub visits : ℕ → VisitReference enter note S cells q
  visits d = visit_reference enter note S cells q d

  -- ---- the four loops, where the cell's box claims the path

  module _ (d : ℕ) (t : List Step) (n : ℕ) (c : CellRecord) (e : S.cell n ≡ some c) (p : Placement) (box : Bounds) (g : Path) (h : Item)
      (full : (y : Reason) (w : World Tagged) → Claimed g h (add_load_if_boxed enter note t y n box w)) where
    abbrev Q : World Tagged → Type 0
    Q w = Claimed g h w

    cell_halts : (x : Flow Tagged) → OnHalt Q (halt_with_cell enter note t n box x)
    cell_halts (go w) = tt
    cell_halts (halt w) = full _ w

    cell_claims : (x : Flow Tagged) → OnGo Q x → Q (ending (halt_with_cell enter note t n box x))
    cell_claims (go w) k = k
    cell_claims (halt w) k = full _ w

    geometry_halts : (i : ℕ) (w : World Tagged) → OnHalt Q (geometry_step enter note S cells q t n c p box i w)
    unfolding geometry_step
    geometry_halts i w = cond_case (OnHalt Q) (detail_budget_exhausted q w.state) _ _ (λ _. full _ w) (λ _. tt)

    text_halts : (i : ℕ) (w : World Tagged) → OnHalt Q (text_step enter note S cells q t n c p box i w)
    unfolding text_step
    text_halts i w = cond_case (OnHalt Q) (detail_budget_exhausted q w.state) _ _ (λ _. full _ w) (λ _. tt)

    node_halts : (i : ℕ) (w : World Tagged) → OnHalt Q (node_step enter note S cells q t n c p box i w)
    unfolding node_step
    node_halts i w = cond_case (OnHalt Q) (detail_budget_exhausted q w.state) _ _ (λ _. full _ w) (λ _. cell_halts (push_node enter note S q (node_at i ∷ t) (c.nodes.at i) p w))

    reference_halts : (i : ℕ) (w : World Tagged) → OnHalt Q (reference_step enter note S cells q t n c p box (visits d) i w)
    unfolding reference_step
    reference_halts i w = cond_case (OnHalt Q) (detail_budget_exhausted q w.state) _ _ (λ _. full _ w) (λ _. tt)

    geometry_keeps : (i : ℕ) → i < c.geometries.count → Keeps Q (geometry_step enter note S cells q t n c p box i)
    geometry_keeps = geometry_step_kept enter note S cells q (Grown g h) (grown g h q) d t n c p box e

    text_keeps : (i : ℕ) → i < c.texts.count → Keeps Q (text_step enter note S cells q t n c p box i)
    text_keeps = text_step_kept enter note S cells q (Grown g h) (grown g h q) d t n c p box e

    node_keeps : (i : ℕ) → i < c.nodes.count → Keeps Q (node_step enter note S cells q t n c p box i)
    node_keeps = node_step_kept enter note S cells q (Grown g h) (grown g h q) d t n c p box e

    reference_keeps : (i : ℕ) → i < c.references.count → Keeps Q (reference_step enter note S cells q t n c p box (visits d) i)
    reference_keeps = reference_step_kept enter note S cells q (Grown g h) (grown g h q) d t n c p box e

    abbrev geometries : World Tagged → Flow Tagged
    geometries w = each (geometry_step enter note S cells q t n c p box) c.geometries.count 0 w

    abbrev texts : World Tagged → Flow Tagged
    texts w = each (text_step enter note S cells q t n c p box) c.texts.count 0 w

    abbrev nodes : World Tagged → Flow Tagged
    nodes w = each (node_step enter note S cells q t n c p box) c.nodes.count 0 w

    abbrev references : World Tagged → Flow Tagged
    references w = each (reference_step enter note S cells q t n c p box (visits d)) c.references.count 0 w

    texts_keep : Keeps Q texts
    texts_keep = each_keeps Q _ c.texts.count text_keeps c.texts.count 0 (omega arith)

    nodes_keep : Keeps Q nodes
    nodes_keep = each_keeps Q _ c.nodes.count node_keeps c.nodes.count 0 (omega arith)

    references_keep : Keeps Q references
    references_keep = each_keeps Q _ c.references.count reference_keeps c.references.count 0 (omega arith)

    abbrev EndsWell : Flow Tagged → Type 0
    EndsWell x = Q (ending x)

    pub in_geometries : (i : ℕ) → i < c.geometries.count → ((w : World Tagged) → Q (push_geometry enter note S q (batch_at i ∷ t) (c.geometries.at i) p w)) → (w : World Tagged) → Q (ending (cell_body enter note S cells q t n c p box (visits d) w))
    unfolding cell_body geometry_step
    in_geometries i i< self w =
        in_first Q (geometries w) texts nodes references
        (each_covers Q (geometry_step enter note S cells q t n c p box) c.geometries.count i i< geometry_keeps (λ b _ w. geometry_halts b w)
        (λ w. cond_case EndsWell (detail_budget_exhausted q w.state) _ _ (λ _. full _ w) (λ _. self w)) c.geometries.count 0 (omega arith) (omega arith) w)
        texts_keep nodes_keep references_keep

    pub in_texts : (i : ℕ) → i < c.texts.count → ((w : World Tagged) → Q (push_text enter note S q (text_at i ∷ t) (c.texts.at i) p w)) → (w : World Tagged) → Q (ending (cell_body enter note S cells q t n c p box (visits d) w))
    unfolding cell_body text_step
    in_texts i i< self w =
        in_second Q (geometries w) texts nodes references (each_halts Q _ geometry_halts c.geometries.count 0 w)
        (each_covers Q (text_step enter note S cells q t n c p box) c.texts.count i i< text_keeps (λ b _ w. text_halts b w)
        (λ w. cond_case EndsWell (detail_budget_exhausted q w.state) _ _ (λ _. full _ w) (λ _. self w)) c.texts.count 0 (omega arith) (omega arith))
        nodes_keep references_keep

    pub in_nodes : (i : ℕ) → i < c.nodes.count → ((w : World Tagged) → OnGo Q (push_node enter note S q (node_at i ∷ t) (c.nodes.at i) p w)) → (w : World Tagged) → Q (ending (cell_body enter note S cells q t n c p box (visits d) w))
    unfolding cell_body node_step
    in_nodes i i< self w =
        in_third Q (geometries w) texts nodes references (each_halts Q _ geometry_halts c.geometries.count 0 w) (each_halts Q _ text_halts c.texts.count 0)
        (each_covers Q (node_step enter note S cells q t n c p box) c.nodes.count i i< node_keeps (λ b _ w. node_halts b w)
        (λ w. cond_case EndsWell (detail_budget_exhausted q w.state) _ _ (λ _. full _ w) (λ _. cell_claims (push_node enter note S q (node_at i ∷ t) (c.nodes.at i) p w) (self w))) c.nodes.count 0 (omega arith) (omega arith))
        references_keep

    pub in_references : (i : ℕ) → i < c.references.count → ((w : World Tagged) → Q (visits d (reference_at i ∷ t) (c.references.at i) p w)) → (w : World Tagged) → Q (ending (cell_body enter note S cells q t n c p box (visits d) w))
    unfolding cell_body reference_step
    in_references i i< self w =
        in_fourth Q (geometries w) texts nodes references (each_halts Q _ geometry_halts c.geometries.count 0 w) (each_halts Q _ text_halts c.texts.count 0) (each_halts Q _ node_halts c.nodes.count 0)
        (each_covers Q (reference_step enter note S cells q t n c p box (visits d)) c.references.count i i< reference_keeps (λ b _ w. reference_halts b w)
        (λ w. cond_case EndsWell (detail_budget_exhausted q w.state) _ _ (λ _. full _ w) (λ _. self w)) c.references.count 0 (omega arith) (omega arith))

  -- ---- the cell's own box holds what any path leads to from it

  module _ (whole : WholeView q.view) (sq : Square S) (d l : ℕ) (l≤ : l ≤ deepest_level) (t : List Step) (n : ℕ) (c : CellRecord) (e : S.cell n ≡ some c) (p : Placement) (T : ExactPlacement) (i : IsPlacement p T) (level : AtLevel l T)
      (b : WorldBBox) (eb : c.bbox ≡ boxed b) (g : Path) (h : Item) (v : InView q.view h) (inside : WithinBox h (place T (box_of b))) where
    box_there : transform_bounds p c.bbox ≡ boxed (transform_bbox p b)
    unfolding boxed
    box_there = ap (transform_bounds p) eb

    box_is : IsBox (transform_bbox p b) (place T (box_of b))
    box_is = placed_box l l≤ p T i level b (bounds_square c.bbox b eb (sq.cell_box n c e))

    pub full_cell : (y : Reason) (w : World Tagged) → Claimed g h (add_load_if_boxed enter note t y n (transform_bounds p c.bbox) w)
    full_cell y = load_if_boxed_claims g h t y n (transform_bounds p c.bbox) (transform_bbox p b) (place T (box_of b)) box_there box_is inside

    outside : Yes (is_outside (boxed (transform_bbox p b)) q.view) → ⊥
    unfolding boxed
    outside y = not_culled q.view whole (transform_bbox p b) (place T (box_of b)) box_is (view_touches q.view h (place T (box_of b)) v inside) y

    pub cell_visit_claims : ((w : World Tagged) → Claimed g h (ending (cell_body enter note S cells q t n c p (transform_bounds p c.bbox) (visits d) w)))
        → (w : World Tagged) → Claimed g h (visit_found_cell enter note S cells q (visits d) t n p (S.cell n) w)
    unfolding visit_found_cell
    cell_visit_claims body w =
        subst (λ (o : Option CellRecord). Claimed g h (visit_found_cell enter note S cells q (visits d) t n p o w)) (sym e)
        (cond_case (Claimed g h) (is_outside (transform_bounds p c.bbox) q.view) _ _
        (λ y. absurd (outside (subst (λ (u : Bounds). Yes (is_outside u q.view)) box_there y)))
        (λ _. cond_case (Claimed g h) (detail_cells_full w.state) _ _ (λ _. full_cell _ w)
        (λ _. cond_case (Claimed g h) (detail_budget_exhausted q w.state) _ _ (λ _. full_cell _ w)
        (λ _. cond_case (Claimed g h) (is_marked w.marks (open_place cells n)) _ _ (λ _. full_cell _ w)
        (λ _. body (say enter note t detail_cell (set_mark (open_place cells n) 1 w)))))))
