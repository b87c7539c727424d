-- A reference, seen from the member that a path goes through. Before the members: culled it cannot be, and at a limit or a collapse the reference's box is added, which holds every member.
-- Among the members: one that stops the loop adds the reference's box too; the member itself is skipped, boxed or visited.
-- Assumes nothing.
use mathlib.Core.Path.{◌≡◌, refl, sym, subst}
use mathlib.Core.Bool.{false, not}
use mathlib.Core.List.{List, ◌∷◌}
use mathlib.Core.Option.{Option, some}
use Prim.Native.Nat.{ℕ, suc, ◌≤◌, ◌<◌}
use native.Mathlib.Omega.{arith}
use Rattle.geometry.specs.declared.placement.Placement.{Placement}
use Rattle.geometry.specs.declared.bbox.WorldBBox.{WorldBBox}
use Rattle.geometry.specs.declared.bbox.Bounds.{Bounds}
use Rattle.geometry.specs.Placement.{◌·◌}
use Rattle.geometry.specs.Bbox.{boxed, transform_bbox, overlaps, source_is_degenerate}
use Rattle.grid.specs.Grid.{grid_count, grid_member_transform, corners_bbox}
use Rattle.screen.specs.Screen.{reference_screen_size, is_subpixel, collapse_test, collapses}
use Rattle.records.specs.declared.PreparedReference.{PreparedReference}
use Rattle.records.specs.Sources.{label}
use Rattle.abstract_sheet.specs.Sheet.{Sheet}
use Rattle.exact.specs.Placement.{ExactPlacement, IsPlacement, AtLevel, deepest_level}
use Rattle.exact.specs.Member.{grid_of}
use Rattle.exact.specs.Box.{IntegerBox, IsBox, box_of, place, reference_box}
use Rattle.exact.proofs.Boxes.ReferenceRounded.{reference_bbox_present}
use Rattle.plan_rules.specs.declared.Reason.{Reason}
use Rattle.plan_rules.specs.declared.Reason.TheVariants as reason
use Rattle.plan_rules.specs.Event.{skipped_member, Step, member}
use Rattle.plan_rules.specs.World.{Query, detail_cells_full, detail_budget_exhausted, World, Flow, go, halt, ending, each}
use Rattle.plan_rules.specs.DrawUnits.{reference_draw_units}
use Rattle.plan_rules.specs.Push.{add_load}
use Rattle.plan_rules.specs.Visit.{source_units, halt_with_member, with_scratch, VisitSource, member_step, column_step, visit_counted_reference, visit_boxed_reference, visit_sourced_reference, visit_found_reference}
use Rattle.plan_rules.specs.Tape.{note}
use Rattle.paths.specs.Square.{Square, FewMembers, SquareBox}
use Rattle.paths.specs.TrueBoxes.{TrueBoxes}
use Rattle.paths.proofs.Square.{bounds_square, reference_grid}
use Rattle.cover.specs.Path.{Path, Item, member_at}
use Rattle.cover.specs.View.{WithinBox, WholeView, InView}
use Rattle.cover.specs.Trace.{enter}
use Rattle.cover.specs.Covered.{member_skip}
use Rattle.cover.proofs.Tests.{cond_case, collapses_at_depth_1}
use Rattle.cover.proofs.TagPaths.{Tagged, back}
use Rattle.cover.proofs.Exactness.{placed_box, member_placed, corners_placed}
use Rattle.cover.proofs.Enclosure.{within_larger, member_in_reference_box}
use Rattle.cover.proofs.Loops.{OnGo, OnHalt, Keeps, each_halts, each_covers}
use Rattle.cover.proofs.Cover.Claims.{view_touches, not_culled, by_skip, Claimed, say_claims, load_claims}

module _ (S : Sheet) (cells : ℕ) (q : Query) (whole : WholeView q.view) (few : FewMembers S) (sq : Square S) (true-boxes : TrueBoxes S)
    (d l : ℕ) (l≤ : l ≤ deepest_level) (t : List Step) (n : ℕ) (r : PreparedReference) (e : S.reference n ≡ some r) (p : Placement) (T : ExactPlacement) (i : IsPlacement p T) (level : AtLevel l T)
    (x y : ℕ) (x< : x < r.grid.columns) (y< : y < r.grid.rows) (rest : Path) (h : Item) (v : InView q.view h)
    (sb : WorldBBox) (eb : r.source_bbox ≡ boxed sb) (inside : WithinBox h (place (member_at T r x y) (box_of sb))) where
  abbrev g : Path
  g = back t (member x y ∷ rest)

  square_source : SquareBox sb
  square_source = bounds_square r.source_bbox sb eb (sq.source_box n r e)

  -- ---- the reference's box

  abbrev world_box : WorldBBox
  world_box = transform_bbox p (corners_bbox r.grid sb)

  abbrev exact_world_box : IntegerBox
  exact_world_box = place T (reference_box (grid_of r.grid) r.grid.columns r.grid.rows (box_of sb))

  world_box_is : IsBox world_box exact_world_box
  world_box_is = corners_placed l l≤ p T i level r.grid (reference_grid S few sq n r e) sb square_source

  inside_world_box : WithinBox h exact_world_box
  inside_world_box = within_larger h (place (member_at T r x y) (box_of sb)) exact_world_box (member_in_reference_box S few sq true-boxes n r sb x y T e eb x< y<) inside

  full_reference : (y : Reason) (k : ℕ) (w : World Tagged) → Claimed g h (add_load enter note t y k world_box w)
  full_reference y k = load_claims g h t y k world_box exact_world_box world_box_is inside_world_box

  -- ---- up to the members

  pub reference_claims : (visit : VisitSource enter note S cells q)
      → (1 < d → (u : ℕ) (w : World Tagged) → Claimed g h (ending (each (column_step enter note S cells q visit d t r p sb world_box u) r.grid.columns 0 w)))
      → (w : World Tagged) → Claimed g h (visit_found_reference enter note S cells q visit d t p (S.reference n) w)
  unfolding visit_found_reference visit_sourced_reference visit_boxed_reference visit_counted_reference boxed
  reference_claims visit loop w =
      let u = reference_draw_units S cells d r w.counts w.marks in
      let z = reference_screen_size world_box q.zoom (source_is_degenerate sb) in
      subst (λ (o : Option PreparedReference). Claimed g h (visit_found_reference enter note S cells q visit d t p o w)) (sym e)
      (subst (λ (o : Bounds). Claimed g h (visit_sourced_reference enter note S cells q visit d t r p o w)) (sym eb)
      (subst (λ (o : Bounds). Claimed g h (visit_boxed_reference enter note S cells q visit d t r p sb o w)) (sym (reference_bbox_present r.grid sb (omega arith) (omega arith)))
      (cond_case (Claimed g h) (not (overlaps world_box q.view)) _ _
      (λ k. absurd (not_culled q.view whole world_box exact_world_box world_box_is (view_touches q.view h exact_world_box v inside_world_box) k))
      (λ _. cond_case (Claimed g h) (detail_cells_full w.state) _ _ (λ _. full_reference _ _ w)
      (λ _. cond_case (Claimed g h) (detail_budget_exhausted q w.state) _ _ (λ _. full_reference _ _ w)
      (λ _. cond_case (Claimed g h) (collapses (collapse_test z.width z.height (grid_count r.grid) u.units d false)) _ _ (λ _. full_reference _ _ (with_scratch enter note u w))
      (λ k. loop (collapses_at_depth_1 z.width z.height (grid_count r.grid) u.units d k) (source_units u.units (grid_count r.grid)) (with_scratch enter note u w))))))))

  -- ---- the member itself

  module _ (next : suc l ≤ deepest_level) (visit : VisitSource enter note S cells q) where
    abbrev placement : Placement
    placement = p · grid_member_transform r.grid x y

    abbrev member_box : WorldBBox
    member_box = transform_bbox placement sb

    member_box_is : IsBox member_box (place (member_at T r x y) (box_of sb))
    member_box_is =
        let m = member_placed l l≤ p T i level r.grid (reference_grid S few sq n r e) x y x< y< in
        placed_box (suc l) next placement (member_at T r x y) m.0 m.1 sb square_source

    abbrev EndsWell : Flow Tagged → Type 0
    EndsWell f = Claimed g h (ending f)

    -- where a limit stopped the visit of its source, the reference's box was added last
    limit_claims : (k : ℕ) (f : Flow Tagged) → OnGo (Claimed g h) f → EndsWell (halt_with_member enter note t (member x y ∷ t) k member_box world_box f)
    limit_claims k (go w) o = o
    limit_claims k (halt w) o = full_reference _ _ (add_load enter note (member x y ∷ t) reason.OtherLimit k member_box w)

    member_claims : ((w : World Tagged) → OnGo (Claimed g h) (visit (member x y ∷ t) r.source placement w)) → (u : ℕ) (w : World Tagged) → EndsWell (member_step enter note S cells q visit d t r p sb world_box u x y w)
    unfolding member_step
    member_claims sub u w =
        let z = place (member_at T r x y) (box_of sb) in
        let size = reference_screen_size member_box q.zoom (source_is_degenerate sb) in
        let stands = member x y ∷ t in
        cond_case EndsWell (detail_budget_exhausted q w.state) _ _ (λ _. full_reference _ _ w)
        (λ _. cond_case EndsWell (not (overlaps member_box q.view)) _ _
        (λ k. absurd (not_culled q.view whole member_box z member_box_is (view_touches q.view h z v inside) k))
        (λ _. cond_case EndsWell (is_subpixel size) _ _
        (λ k. say_claims g h stands (skipped_member (source_is_degenerate sb) member_box) (by_skip rest refl member_skip) w)
        (λ _. cond_case EndsWell (collapses (collapse_test size.width size.height 1 u d false)) _ _
        (λ _. load_claims g h stands _ (label r.source) member_box z member_box_is inside w)
        (λ _. limit_claims (label r.source) (visit stands r.source placement w) (sub w)))))

    -- ---- an earlier member that halts

    limit_halts : (here : List Step) (k : ℕ) (o : WorldBBox) (f : Flow Tagged) → OnHalt (Claimed g h) (halt_with_member enter note t here k o world_box f)
    limit_halts here k o (go w) = tt
    limit_halts here k o (halt w) = full_reference _ _ (add_load enter note here reason.OtherLimit k o w)

    member_halts : (u a b : ℕ) (w : World Tagged) → OnHalt (Claimed g h) (member_step enter note S cells q visit d t r p sb world_box u a b w)
    unfolding member_step
    member_halts u a b w =
        let m = p · grid_member_transform r.grid a b in
        let box = transform_bbox m sb in
        let size = reference_screen_size box q.zoom (source_is_degenerate sb) in
        cond_case (OnHalt (Claimed g h)) (detail_budget_exhausted q w.state) _ _ (λ _. full_reference _ _ w)
        (λ _. cond_case (OnHalt (Claimed g h)) (not (overlaps box q.view)) _ _ (λ _. tt)
        (λ _. cond_case (OnHalt (Claimed g h)) (is_subpixel size) _ _ (λ _. tt)
        (λ _. cond_case (OnHalt (Claimed g h)) (collapses (collapse_test size.width size.height 1 u d false)) _ _ (λ _. tt)
        (λ _. limit_halts (member a b ∷ t) (label r.source) box (visit (member a b ∷ t) r.source m w)))))

    -- ---- the columns, and the rows of the member's own column

    pub columns_claim : ((w : World Tagged) → OnGo (Claimed g h) (visit (member x y ∷ t) r.source placement w))
        → ((u a : ℕ) → a < r.grid.columns → Keeps (Claimed g h) (column_step enter note S cells q visit d t r p sb world_box u a))
        → ((u a : ℕ) → a < r.grid.columns → (b : ℕ) → b < r.grid.rows → Keeps (Claimed g h) (member_step enter note S cells q visit d t r p sb world_box u a b))
        → (u : ℕ) (w : World Tagged) → Claimed g h (ending (each (column_step enter note S cells q visit d t r p sb world_box u) r.grid.columns 0 w))
    unfolding column_step
    columns_claim sub columns-keep members-keep u w =
        each_covers (Claimed g h) (column_step enter note S cells q visit d t r p sb world_box u) r.grid.columns x x< (columns-keep u)
        (λ a a< w. each_halts (Claimed g h) (member_step enter note S cells q visit d t r p sb world_box u a) (member_halts u a) r.grid.rows 0 w)
        (each_covers (Claimed g h) (member_step enter note S cells q visit d t r p sb world_box u x) r.grid.rows y y< (members-keep u x x<) (λ b b< w. member_halts u x b w) (member_claims sub u) r.grid.rows 0 (omega arith) (omega arith))
        r.grid.columns 0 (omega arith) (omega arith) w
