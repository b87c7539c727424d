-- WHAT EACH EVENT SAYS IS SO: a record lists the item to which its path leads, at its exact placement; and what is skipped is measured under one pixel both ways.
-- One use of the rules' induction, with the way from the root as the tag. True boxes are not needed, and zoom only where something is skipped.
-- Assumes nothing.
use mathlib.Core.Path.{◌≡◌, refl}
use mathlib.Core.List.{List, [], ◌∷◌}
use mathlib.Core.Option.{some}
use Prim.Native.Nat.{ℕ, suc, ◌+◌, ◌≤◌, ◌<◌}
use native.Mathlib.Omega.{arith}
use lib.Dec.{T as Yes}
use Rattle.geometry.specs.declared.placement.Placement.{Placement}
use Rattle.geometry.specs.declared.bbox.WorldBBox.{WorldBBox}
use Rattle.geometry.specs.Placement.{transform_point2, ◌·◌}
use Rattle.geometry.specs.Bbox.{boxed, transform_bbox, source_is_degenerate}
use Rattle.grid.specs.Grid.{grid_member_transform}
use Rattle.screen.specs.Screen.{screen_size, reference_screen_size, is_subpixel}
use Rattle.records.specs.declared.PreparedSource.{PreparedSource}
use Rattle.records.specs.declared.PreparedSource.TheVariants.{Geometry, Text, Node, Reference}
use Rattle.records.specs.declared.PreparedGeometry.{PreparedGeometry}
use Rattle.records.specs.declared.PreparedText.{PreparedText}
use Rattle.records.specs.declared.PreparedReference.{PreparedReference}
use Rattle.abstract_sheet.specs.Sheet.{NodeRecord, Sheet}
use Rattle.exact.specs.Placement.{ExactPlacement, identity, IsPlacement, AtLevel}
use Rattle.exact.specs.Screen.{ZoomWithin}
use Rattle.exact.proofs.Placements.Levels.{identity_level}
use Rattle.exact.proofs.Placements.Moving.{identity_exact}
use Rattle.plan_rules.specs.Event.{Event, batch, text, point, proxy, dropped_proxy, skipped_member, skipped_batch, culled_reference, culled_batch, detail_cell, totals, Step, member, point_at, empty_plan}
use Rattle.plan_rules.specs.World.{Query, World, world}
use Rattle.plan_rules.specs.Plan.{plan}
use Rattle.plan_rules.specs.Tape.{note}
use Rattle.plan_rules.proofs.Simulation.Premises.{Premises}
use Rattle.paths.specs.Square.{Square, FewMembers}
use Rattle.paths.proofs.Square.{bounds_square, reference_grid}
use Rattle.paths.specs.Path.{references}
use Rattle.cover.specs.Path.{Path, a_batch, a_text, a_point, member_at, at_batch, at_text, at_point}
use Rattle.cover.specs.Trace.{enter, path_of, events, All, IsRecord, batch_record, text_record, point_record}
use Rattle.cover.specs.Covered.{lists_batch, lists_text, lists_point, IsSkip, member_skip, batch_skip, Skipped, skipped_member_lem, skipped_batch_lem, ListsItsPath}
use Rattle.cover.proofs.TagPaths.{Tagged, start, tag_reaches, tag_leads, tag_leads_here, paths_all, all_map}
use Rattle.cover.proofs.Standing as standing
use Rattle.cover.proofs.EveryEvent.{every_event}
use Rattle.cover.proofs.Exactness.{placed_box, moved_point, member_placed, member_under_one_pixel, batch_under_one_pixel}

module _ (S : Sheet) (q : Query) where
  -- ---- what an event says, by its tag

  abbrev pub EventFact : List Step → Event → Type 0
  EventFact t (batch n p) = ListsItsPath S q (path_of t) (batch n p)
  EventFact t (text n v) = ListsItsPath S q (path_of t) (text n v)
  EventFact t (point l k v) = ListsItsPath S q (path_of t) (point l k v)
  EventFact t (proxy y l b) = Unit {0}
  EventFact t (dropped_proxy y l b) = Unit {0}
  EventFact t (skipped_member g b) = ZoomWithin q.zoom → Skipped S q (path_of t) (skipped_member g b)
  EventFact t (skipped_batch b) = ZoomWithin q.zoom → Skipped S q (path_of t) (skipped_batch b)
  EventFact t culled_reference = Unit {0}
  EventFact t culled_batch = Unit {0}
  EventFact t detail_cell = Unit {0}
  EventFact t (totals s) = Unit {0}

  listed_fact : (t : List Step) (e : Event) → EventFact t e → IsRecord e → ListsItsPath S q (path_of t) e
  listed_fact t e s batch_record = s
  listed_fact t e s text_record = s
  listed_fact t e s point_record = s

  pub skipped_fact : ZoomWithin q.zoom → (t : List Step) (e : Event) → EventFact t e → IsSkip e → Skipped S q (path_of t) e
  skipped_fact zoom t e s member_skip = s zoom
  skipped_fact zoom t e s batch_skip = s zoom

  module _ (few : FewMembers S) (sq : Square S) where
    -- Where a visit with depth d stands: the floats are its exact placement, and there is room for d more levels.
    pub record Exactly (d level : ℕ) (p : Placement) (T : ExactPlacement) : Type 0 where
      pub room : d + level ≤ 48
      pub is : IsPlacement p T
      pub within : AtLevel level T

    abbrev Stands : ℕ → List Step → PreparedSource → Placement → Type 0
    Stands = standing.Stands member_at S identity q.root Exactly

    keeps : standing.Keeps member_at S identity q.root Exactly
    keeps d level p T n r x y h e x< y< =
        let room = h.room in
        let m = member_placed level (omega arith) p T h.is h.within r.grid (reference_grid S few sq n r e) x y x< y< in
        record { room = omega arith; is = m.0; within = m.1 }

    -- ---- events

    batch_listed : (d : ℕ) (t : List Step) (n : ℕ) (g : PreparedGeometry) (p : Placement) → Stands d t (Geometry n) p → S.geometry n ≡ some g → EventFact t (batch n p)
    batch_listed d t n g p h e = let i = a_batch n g h.exact in (i, tag_leads_here i h.led (at_batch e), lists_batch h.near.is)

    text_listed : (d : ℕ) (t : List Step) (n : ℕ) (x : PreparedText) (p : Placement) → Stands d t (Text n) p → S.text n ≡ some x → EventFact t (text n (transform_point2 p x.origin))
    text_listed d t n x p h e =
        let room = h.near.room in
        let i = a_text n x h.exact in
        (i, tag_leads_here i h.led (at_text e), lists_text (moved_point (references t) (omega arith) p h.exact h.near.is h.near.within x.origin (sq.text n x e)))

    point_listed : (d : ℕ) (t : List Step) (n : ℕ) (x : NodeRecord) (j : ℕ) (p : Placement) → Stands d t (Node n) p → S.node n ≡ some x → j < x.count
        → EventFact (point_at j ∷ t) (point x.layer x.node_type (transform_point2 p (x.point j)))
    point_listed d t n x j p h e j< =
        let room = h.near.room in
        let i = a_point n x j h.exact in
        (i, tag_leads (point_at j ∷ []) i h.led (at_point e j<), lists_point (moved_point (references t) (omega arith) p h.exact h.near.is h.near.within (x.point j) (sq.point n x j e j<)))

    member_skipped : (d : ℕ) (t : List Step) (n : ℕ) (r : PreparedReference) (b : WorldBBox) (x y : ℕ) (p : Placement) → Stands d t (Reference n) p → S.reference n ≡ some r → r.source_bbox ≡ boxed b
        → x < r.grid.columns → y < r.grid.rows → let z = transform_bbox (p · grid_member_transform r.grid x y) b in
        Yes (is_subpixel (reference_screen_size z q.zoom (source_is_degenerate b))) → EventFact (member x y ∷ t) (skipped_member (source_is_degenerate b) z)
    member_skipped d t n r b x y p h e eb x< y< k zoom =
        let room = h.near.room in
        let T = h.exact in
        let M = member_at T r x y in
        let P = p · grid_member_transform r.grid x y in
        let m = member_placed (references t) (omega arith) p T h.near.is h.near.within r.grid (reference_grid S few sq n r e) x y x< y< in
        let s = bounds_square r.source_bbox b eb (sq.source_box n r e) in
        let i = placed_box (suc (references t)) (omega arith) P M m.0 m.1 b s in
        skipped_member_lem b (tag_reaches h.led) e eb x< y< i (member_under_one_pixel q.zoom zoom M b s (transform_bbox P b) i (source_is_degenerate b) k)

    batch_skipped : (d : ℕ) (t : List Step) (n : ℕ) (g : PreparedGeometry) (p : Placement) → Stands d t (Geometry n) p → S.geometry n ≡ some g
        → Yes (is_subpixel (screen_size (transform_bbox p g.bbox) q.zoom)) → EventFact t (skipped_batch (transform_bbox p g.bbox))
    batch_skipped d t n g p h e k zoom =
        let room = h.near.room in
        let i = placed_box (references t) (omega arith) p h.exact h.near.is h.near.within g.bbox (sq.geometry n g e) in
        skipped_batch_lem (tag_reaches h.led) e i (batch_under_one_pixel q.zoom zoom h.exact g.bbox (sq.geometry n g e) (transform_bbox p g.bbox) i k)

    premises : Premises enter S q Stands EventFact
    premises = record {
      at_batch = standing.stands_batch member_at S identity q.root Exactly;
      at_text = standing.stands_text member_at S identity q.root Exactly;
      at_node = standing.stands_node member_at S identity q.root Exactly;
      at_reference = standing.stands_reference member_at S identity q.root Exactly;
      at_member = standing.stands_member member_at S identity q.root Exactly keeps;
      listed_batch = batch_listed;
      listed_text = text_listed;
      listed_point = point_listed;
      listed_proxy = λ t y l b. tt;
      dropped_proxy_lem = λ t y l b. tt;
      skipped_batch_lem = batch_skipped;
      skipped_member_lem = member_skipped;
      culled_reference_lem = λ t. tt;
      culled_batch_lem = λ t. tt;
      detail_cell_lem = λ t. tt;
    }

    -- ---- the plan

    pub plan_facts : (cells : ℕ) → q.depth ≤ 48 → (w : World Tagged) → w.out ≡ [] → All (λ (x : List Step × Event). EventFact x.0 x.1) (plan enter note S cells q [] w).out
    plan_facts cells d w e =
        every_event S q Stands EventFact premises (λ u. tt) (record { exact = identity; led = start; near = record { room = omega arith; is = identity_exact; within = identity_level } }) cells w e

    -- every record of the plan lists its path
    pub plan_listed : (cells : ℕ) → q.depth ≤ 48 → (counts marks : List ℕ) → All (λ (x : Path × Event). IsRecord x.1 → ListsItsPath S q x.0 x.1) (events S cells q counts marks)
    plan_listed cells d counts marks =
        let begin : World Tagged = world empty_plan [] counts marks in
        paths_all (λ (x : Path × Event). IsRecord x.1 → ListsItsPath S q x.0 x.1) (plan enter note S cells q [] begin).out
        (all_map _ (λ x s. listed_fact x.0 x.1 s) (plan_facts cells d begin refl))
