-- `visit_cell` and `visit_source` by code path, at the code's end of the rules.
-- Assumes nothing.
use mathlib.Core.Path.{◌≡◌, refl}
use mathlib.Core.Bool.{true, false}
use mathlib.Core.Option.{none}
use Prim.Native.Nat.{ℕ}
use Rattle.geometry.specs.declared.bbox.Bounds.{Bounds}
use Rattle.geometry.specs.declared.placement.Placement.{Placement}
use Rattle.records.specs.declared.PreparedSource.TheVariants.{Geometry, Text, Node, Reference, Cell}
use Rattle.abstract_sheet.specs.Sheet.{CellRecord}
use Rattle.plan_rules.specs.declared.Fixed.{Fixed}
use Rattle.plan_rules.specs.declared.Reason.TheVariants as reason
use Rattle.plan_rules.specs.World.{detail_budget_exhausted, go, halt}
use Rattle.plan_rules.specs.Visit as visit
use Rattle.plan_rules.specs.OnTape.{Given, Output, query, add_load_if_boxed, halt_with_cell, push_geometry, push_text, push_node, VisitReference, geometry_step, text_step, node_step, reference_step, visit_cell, visit_reference, visit_source}

module _ {f : Fixed} (g : Given f) where
  -- ---- a turn of each loop

  module _ (n : ℕ) (c : CellRecord) (p : Placement) (box : Bounds) (i : ℕ) (w : Output) where
    module _ (full : detail_budget_exhausted (query g) w.state ≡ true) where
      pub geometry_step_exhausted : geometry_step g n c p box i w ≡ halt (add_load_if_boxed reason.OtherLimit n box w)
      unfolding visit.geometry_step
      geometry_step_exhausted = rw full

      pub text_step_exhausted : text_step g n c p box i w ≡ halt (add_load_if_boxed reason.OtherLimit n box w)
      unfolding visit.text_step
      text_step_exhausted = rw full

      pub node_step_exhausted : node_step g n c p box i w ≡ halt (add_load_if_boxed reason.OtherLimit n box w)
      unfolding visit.node_step
      node_step_exhausted = rw full

      pub reference_step_exhausted : (on : VisitReference g) → reference_step g n c p box on i w ≡ halt (add_load_if_boxed reason.OtherLimit n box w)
      unfolding visit.reference_step
      reference_step_exhausted on = rw full

    module _ (room : detail_budget_exhausted (query g) w.state ≡ false) where
      pub geometry_step_goes : geometry_step g n c p box i w ≡ go (push_geometry g (c.geometries.at i) p w)
      unfolding visit.geometry_step
      geometry_step_goes = rw room

      pub text_step_goes : text_step g n c p box i w ≡ go (push_text g (c.texts.at i) p w)
      unfolding visit.text_step
      text_step_goes = rw room

      pub node_step_with_room : node_step g n c p box i w ≡ halt_with_cell n box (push_node g (c.nodes.at i) p w)
      unfolding visit.node_step
      node_step_with_room = rw room

      pub reference_step_goes : (on : VisitReference g) → reference_step g n c p box on i w ≡ go (on tt (c.references.at i) p w)
      unfolding visit.reference_step
      reference_step_goes on = rw room

  -- ---- `visit_cell` and `visit_source`

  module _ (d n : ℕ) (p : Placement) (w : Output) where
    pub cell_missing : g.sheet.cell n ≡ none → visit_cell g d n p w ≡ w
    unfolding visit.visit_cell visit.visit_found_cell
    cell_missing e = rw e

    pub source_geometry : visit_source g d (Geometry n) p w ≡ go (push_geometry g n p w)
    unfolding visit.visit_source visit.visit_source_with
    source_geometry = refl

    pub source_text : visit_source g d (Text n) p w ≡ go (push_text g n p w)
    unfolding visit.visit_source visit.visit_source_with
    source_text = refl

    pub source_node : visit_source g d (Node n) p w ≡ push_node g n p w
    unfolding visit.visit_source visit.visit_source_with
    source_node = refl

    pub source_reference : visit_source g d (Reference n) p w ≡ go (visit_reference g d n p w)
    unfolding visit.visit_source visit.visit_source_with
    source_reference = refl

    pub source_cell : visit_source g d (Cell n) p w ≡ go (visit_cell g d n p w)
    unfolding visit.visit_source visit.visit_source_with visit.visit_cell
    source_cell = refl
