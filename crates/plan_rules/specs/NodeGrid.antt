-- DOCUMENT 02, PAPER 5, "A node grid that runs out": its sentences, as types, over every sheet, query, tag and end of the events.
-- What is added is `load_member` of `Visit`. That "the last exception to cover falls" is demand 3, in the crate `cover`.
-- Definitions only; rests on `Push` and `Visit`. Proofs: NodeGrid.
use Rattle.std.specs.Prelude.{◌≡◌, true, false, ℕ, ◌≤◌, ◌<◌}
use Rattle.geometry.specs.declared.bbox.WorldBBox.{WorldBBox}
use Rattle.geometry.specs.declared.placement.Placement.{Placement}
use Rattle.screen.specs.declared.ScreenSize.{ScreenSize}
use Rattle.geometry.specs.Placement.{◌·◌}
use Rattle.geometry.specs.Bbox.{transform_bbox, overlaps, source_is_degenerate}
use Rattle.grid.specs.Grid.{grid_member_transform}
use Rattle.screen.specs.Screen.{reference_screen_size, is_subpixel, collapse_test, collapses}
use Rattle.records.specs.declared.PreparedSource.TheVariants.{Node}
use Rattle.records.specs.declared.PreparedReference.{PreparedReference}
use Rattle.records.specs.Sources.{no_label}
use Rattle.abstract_sheet.specs.Sheet.{Sheet}
use Rattle.plan_rules.specs.declared.Reason.TheVariants as reason
use Rattle.plan_rules.specs.Event.{Event, proxy, Step, member}
use Rattle.plan_rules.specs.World.{Query, detail_budget_exhausted, World, Flow, go, halt, each}
use Rattle.plan_rules.specs.Push.{say, add_load, push_node}
use Rattle.plan_rules.specs.Visit.{VisitReference, visit_source_with, member_step, column_step}

module _ {P A : Type 0} (enter : Step → P → P) (emit : P → Event → ℕ → A → A) (S : Sheet) (q : Query) where
  -- Which limit a node's points can meet: they add objects alone, so it is the object limit if none was met before.
  abbrev pub NodeStopsAtObjects : Type 0
  NodeStopsAtObjects = (t : P) (n : ℕ) (p : Placement) (w v : World A) → detail_budget_exhausted q w.state ≡ false → push_node enter emit S q t n p w ≡ halt v
      → (v.state.texts ≡ w.state.texts) × (v.state.load_proxies ≡ w.state.load_proxies) × (q.object_limit ≤ v.state.detail_objects)

  -- A reference at the tag t to node n, "a grid of bare node points", at its members. How references are visited does not matter: no member is one.
  module _ (cells : ℕ) (visit : VisitReference enter emit S cells q) (depth : ℕ) (t : P) (r : PreparedReference) (n : ℕ) (p : Placement) (sourceBox world_box : WorldBBox) (units : ℕ) where
    abbrev pub visit_member : ℕ → ℕ → World A → Flow A
    visit_member = member_step enter emit S cells q (visit_source_with enter emit S cells q visit) depth t r p sourceBox world_box units

    abbrev pub visit_column : ℕ → World A → Flow A
    visit_column = column_step enter emit S cells q (visit_source_with enter emit S cells q visit) depth t r p sourceBox world_box units

    abbrev pub member_placement : ℕ → ℕ → Placement
    member_placement column row = p · grid_member_transform r.grid column row

    abbrev pub member_box : ℕ → ℕ → WorldBBox
    member_box column row = transform_bbox (member_placement column row) sourceBox

    abbrev pub member_size : ℕ → ℕ → ScreenSize
    member_size column row = reference_screen_size (member_box column row) q.zoom (source_is_degenerate sourceBox)

    -- It "meets a limit" at the member of a column and a row: the members before it went by, its node is visited, and one of the points finds a limit met, in the world v.
    pub record RunsOut (column row : ℕ) (w v : World A) : Type 0 where
      -- behind the columns before it, and right before it
      pub w₁ : World A
      pub w₂ : World A
      pub columns_before : each visit_column column 0 w ≡ go w₁
      pub rows_before : each (visit_member column) row 0 w₁ ≡ go w₂
      pub room : detail_budget_exhausted q w₂.state ≡ false
      pub in_view : overlaps (member_box column row) q.view ≡ true
      pub large : is_subpixel (member_size column row) ≡ false
      pub visited : collapses (collapse_test (member_size column row).width (member_size column row).height 1 units depth false) ≡ false
      pub stopped : push_node enter emit S q (enter (member column row) t) n (member_placement column row) w₂ ≡ halt v

    -- "Then the whole reference's box shall be added after the member's box, without a label, also if that member is the last": whichever of the members it is, the visit ends in these two.
    abbrev pub NodeGridRunsOut : Type 0
    NodeGridRunsOut = (column row : ℕ) (w v : World A) → r.source ≡ Node n → column < r.grid.columns → row < r.grid.rows → RunsOut column row w v
        → each visit_column r.grid.columns 0 w
        ≡ halt (add_load enter emit t reason.OtherLimit no_label world_box (add_load enter emit (enter (member column row) t) reason.OtherLimit no_label (member_box column row) v))

    -- "listed or dropped": the member's box is always listed, since no limit was met before the member. So the whole reference's is dropped just where the member's filled the list.
    abbrev pub MemberBoxIsListed : Type 0
    MemberBoxIsListed = (column row : ℕ) (w v : World A) → RunsOut column row w v → let here = enter (member column row) t in
        add_load enter emit here reason.OtherLimit no_label (member_box column row) v ≡ say enter emit here (proxy reason.OtherLimit no_label (member_box column row)) v
