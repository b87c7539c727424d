-- `visit_reference` of a reference that is there, by code path up to its draw units, however its source is visited.
-- Assumes nothing.
use mathlib.Core.Path.{◌≡◌, sym, ap, ◌∙◌}
use mathlib.Core.Bool.{true, false}
use Prim.Native.Nat.{ℕ}
use Rattle.geometry.specs.declared.bbox.WorldBBox.{WorldBBox}
use Rattle.geometry.specs.declared.bbox.Bounds.{Bounds}
use Rattle.geometry.specs.declared.bbox.Bounds.TheVariants.{Absent}
use Rattle.geometry.specs.declared.placement.Placement.{Placement}
use Rattle.geometry.specs.Bbox.{boxed, transform_bbox, overlaps}
use Rattle.grid.specs.Grid.{reference_bbox}
use Rattle.records.specs.declared.PreparedReference.{PreparedReference}
use Rattle.records.specs.Sources.{label}
use Rattle.plan_rules.specs.declared.Fixed.{Fixed}
use Rattle.plan_rules.specs.declared.Reason.TheVariants as reason
use Rattle.plan_rules.specs.Event.{culled_reference}
use Rattle.plan_rules.specs.World.{detail_cells_full, detail_budget_exhausted}
use Rattle.plan_rules.specs.DrawUnits.{reference_draw_units}
use Rattle.plan_rules.specs.Visit as visit
use Rattle.plan_rules.specs.OnTape.{Given, Output, query, say, add_load, VisitSource, visit_counted_reference, visit_boxed_reference, visit_sourced_reference}

module _ {f : Fixed} (g : Given f) (on : VisitSource g) (depth : ℕ) (r : PreparedReference) (p : Placement) (w : Output) where
  abbrev visited : Output
  visited = visit_sourced_reference g on depth r p r.source_bbox w

  sourced : (o : Bounds) → r.source_bbox ≡ o → visit_sourced_reference g on depth r p o w ≡ visited
  sourced o e = ap (λ (o : Bounds). visit_sourced_reference g on depth r p o w) (sym e)

  pub reference_unboxed : r.source_bbox ≡ Absent → w ≡ visited
  unfolding visit.visit_sourced_reference
  reference_unboxed a = sourced Absent a

  -- the source has a box
  module _ (source_box : WorldBBox) (source : r.source_bbox ≡ boxed source_box) where
    by_members : (o : Bounds) → reference_bbox r.grid source_box ≡ o → visit_boxed_reference g on depth r p source_box o w ≡ visited
    unfolding visit.visit_sourced_reference boxed
    by_members o a = ap (λ (o : Bounds). visit_boxed_reference g on depth r p source_box o w) (sym a) ∙ sourced (boxed source_box) source

    pub reference_empty : reference_bbox r.grid source_box ≡ Absent → w ≡ visited
    unfolding visit.visit_boxed_reference
    reference_empty a = by_members Absent a

    -- it has members, and their box is placed
    module _ (local_box : WorldBBox) {world_box : WorldBBox} (members : reference_bbox r.grid source_box ≡ boxed local_box) (placed : world_box ≡ transform_bbox p local_box) where
      within : visit_boxed_reference g on depth r p source_box (boxed local_box) w ≡ visited
      within = by_members (boxed local_box) members

      pub reference_culled : overlaps world_box f.options.view ≡ false → (v : Output) → v ≡ say culled_reference w → v ≡ visited
      unfolding visit.visit_boxed_reference boxed
      reference_culled a v counted = counted ∙ (rw (← placed, a)) ∙ within

      module _ (seen : overlaps world_box f.options.view ≡ true) where
        -- a limit is met: v is the world with the reference's box added
        pub reference_detail_full : detail_cells_full w.state ≡ true
            → (v : Output) → v ≡ add_load reason.CellLimit (label r.source) world_box w → v ≡ visited
        unfolding visit.visit_boxed_reference boxed
        reference_detail_full b v added = added ∙ (rw (← placed, seen, b)) ∙ within

        module _ (cells_left : detail_cells_full w.state ≡ false) where
          pub reference_exhausted : detail_budget_exhausted (query g) w.state ≡ true
              → (v : Output) → v ≡ add_load reason.OtherLimit (label r.source) world_box w → v ≡ visited
          unfolding visit.visit_boxed_reference boxed
          reference_exhausted x v added = added ∙ (rw (← placed, seen, cells_left, x)) ∙ within

          pub reference_opened : detail_budget_exhausted (query g) w.state ≡ false
              → visit_counted_reference g on depth r p source_box world_box (reference_draw_units g.sheet f.counts.cells depth r w.counts w.marks) w ≡ visited
          unfolding visit.visit_boxed_reference boxed
          reference_opened x = (rw (← placed, seen, cells_left, x)) ∙ within
