-- TRUE BOXES HOLD whatever a path of any length reaches: by induction on the path, on integers. This is the one place where true boxes enter.
-- Assumes nothing.
use mathlib.Core.Path.{◌≡◌, ap, ◌∙◌}
use mathlib.Core.Option.{some}
use Prim.Native.Nat.{ℕ, ◌<◌}
use native.Mathlib.Omega.{arith}
use Rattle.geometry.specs.declared.bbox.WorldBBox.{WorldBBox}
use Rattle.geometry.specs.declared.bbox.Bounds.{Bounds}
use Rattle.geometry.specs.Bbox.{boxed}
use Rattle.grid.specs.Grid.{corners_bbox}
use Rattle.records.specs.declared.PreparedSource.{PreparedSource}
use Rattle.records.specs.declared.PreparedSource.TheVariants.{Geometry, Text, Node, Reference, Cell}
use Rattle.records.specs.declared.PreparedGeometry.{PreparedGeometry}
use Rattle.records.specs.declared.PreparedText.{PreparedText}
use Rattle.records.specs.declared.PreparedReference.{PreparedReference}
use Rattle.abstract_sheet.specs.Sheet.{NodeRecord, CellRecord, Sheet}
use Rattle.exact.specs.Placement.{ExactPlacement, vector_of}
use Rattle.exact.specs.Member.{grid_of}
use Rattle.exact.specs.Box.{IntegerBox, point_box, Inside, box_of, place, reference_box}
use Rattle.exact.proofs.Boxes.Relations.{encloses_self, encloses_trans, same_enclosed, encloses_holds, point_holds}
use Rattle.exact.proofs.Boxes.Reading.{box_of_same}
use Rattle.exact.proofs.Boxes.Place.{place_holds, place_encloses}
use Rattle.exact.proofs.Boxes.Reference.{placed_reference_box_encloses_member}
use Rattle.exact.proofs.Boxes.ReferenceRounded.{corners_bbox_exact, reference_bbox_present}
use Rattle.plan_rules.specs.Event.{Step}
use Rattle.paths.specs.Square.{Square, FewMembers}
use Rattle.paths.specs.TrueBoxes.{reference_bounds, cell_bounds, TrueSourceBox, TrueBoxes}
use Rattle.paths.proofs.Square.{box_is, box_within, bounds_square, reference_grid}
use Rattle.paths.proofs.TrueBoxes.{Surrounds, enclosing, present, same_present, bounds_enclosing, least_surrounds}
use Rattle.cover.specs.Path.{Path, Item, a_batch, a_text, a_point, member_at, StepLeads, to_batch, to_text, to_node, to_reference, through_member_lem, Leads, at_batch, at_text, at_point, step}
use Rattle.cover.specs.View.{placed_batch, text_position, point_position, WithinBox}

-- ---- boxes

pub within_larger : (h : Item) (a b : IntegerBox) → Inside a b → WithinBox h a → WithinBox h b
within_larger (a_batch n g T) a b s w = encloses_trans (placed_batch g T) a b w s
within_larger (a_text n x T) a b s w = encloses_holds a b (text_position x T) s w
within_larger (a_point n x j T) a b s w = encloses_holds a b (point_position x j T) s w

-- "other batches aren't covered"
abbrev pub HasElements : Item → Type 0
HasElements (a_batch n g T) = 0 < g.element_count
HasElements (a_text n x T) = Unit {0}
HasElements (a_point n x j T) = Unit {0}

module _ (S : Sheet) (few : FewMembers S) (sq : Square S) (true-boxes : TrueBoxes S) where
  -- where an item lies that a path reaches from a source at T: within the box of the source, placed
  abbrev pub Within : PreparedSource → ExactPlacement → Item → Type 0
  Within (Geometry n) T h = (g : PreparedGeometry) × (S.geometry n ≡ some g) × (0 < g.element_count) × WithinBox h (place T (box_of g.bbox))
  Within (Text n) T h = (x : PreparedText) × (S.text n ≡ some x) × WithinBox h (place T (point_box (vector_of x.origin)))
  Within (Node n) T h = (x : NodeRecord) × (j : ℕ) × (S.node n ≡ some x) × (j < x.count) × WithinBox h (place T (point_box (vector_of (x.point j))))
  Within (Reference n) T h = (r : PreparedReference) × (b : WorldBBox) × (S.reference n ≡ some r) × (r.source_bbox ≡ boxed b) × (0 < r.grid.columns) × (0 < r.grid.rows)
      × WithinBox h (place T (reference_box (grid_of r.grid) r.grid.columns r.grid.rows (box_of b)))
  Within (Cell n) T h = (c : CellRecord) × (b : WorldBBox) × (S.cell n ≡ some c) × (c.bbox ≡ boxed b) × WithinBox h (place T (box_of b))

  -- from a box to one that surrounds it
  outward : (o : Bounds) (T : ExactPlacement) (h : Item) (z : IntegerBox) → Surrounds o z → WithinBox h (place T z) → (b : WorldBBox) × (o ≡ boxed b) × WithinBox h (place T (box_of b))
  outward o T h z k w = (k.0, k.1, within_larger h (place T z) (place T (box_of k.0)) (place_encloses T z (box_of k.0) k.2) w)

  -- `reference_bbox` gives the exact box around a reference's members
  reference_box_lem : (n : ℕ) (r : PreparedReference) (b : WorldBBox) → S.reference n ≡ some r → r.source_bbox ≡ boxed b → 0 < r.grid.columns → 0 < r.grid.rows
      → (reference_bounds r r.source_bbox ≡ boxed (corners_bbox r.grid b)) × Inside (reference_box (grid_of r.grid) r.grid.columns r.grid.rows (box_of b)) (box_of (corners_bbox r.grid b))
  unfolding boxed
  reference_box_lem n r b e eb c> r> =
      let g = r.grid in
      let z = reference_box (grid_of g) g.columns g.rows (box_of b) in
      let s = bounds_square r.source_bbox b eb (sq.source_box n r e) in
      let i = corners_bbox_exact g (grid_of g) (reference_grid S few sq n r e) b (box_of b) (box_is b s) s.proper (box_within b s) in
      (ap (reference_bounds r) eb ∙ reference_bbox_present g b c> r>, same_enclosed (box_of (corners_bbox g b)) z (box_of_same (corners_bbox g b) z i))

  -- what is reached from a reference's source lies in the source box
  source_box_surrounds : (n : ℕ) (r : PreparedReference) → S.reference n ≡ some r → (s : PreparedSource) → TrueSourceBox S r.source_bbox s → (T : ExactPlacement) (h : Item) → Within s T h
      → (b : WorldBBox) × (r.source_bbox ≡ boxed b) × WithinBox h (place T (box_of b))
  source_box_surrounds n r e (Geometry m) t T h k = outward r.source_bbox T h (box_of k.0.bbox) (enclosing r.source_bbox (box_of k.0.bbox) (t k.0 k.1 k.2)) k.3
  source_box_surrounds n r e (Text m) t T h k = let z = point_box (vector_of k.0.origin) in outward r.source_bbox T h z (present r.source_bbox z (t k.0 k.1)) k.2
  source_box_surrounds n r e (Node m) t T h k = let x = k.0 in outward r.source_bbox T h (point_box (vector_of (x.point k.1))) (least_surrounds r.source_bbox x (t x k.2) k.1 k.3) k.4
  source_box_surrounds n r e (Reference m) t T h k =
      let s = k.0 in
      let c = reference_box_lem m s k.1 k.2 k.3 k.4 k.5 in
      let z = reference_box (grid_of s.grid) s.grid.columns s.grid.rows (box_of k.1) in
      let u = same_present r.source_bbox (reference_bounds s s.source_bbox) (corners_bbox s.grid k.1) c.0 (t s k.2) in
      outward r.source_bbox T h z (u.0, u.1, encloses_trans z (box_of (corners_bbox s.grid k.1)) (box_of u.0) c.1 u.2) k.6
  source_box_surrounds n r e (Cell m) t T h k =
      outward r.source_bbox T h (box_of k.1) (same_present r.source_bbox (cell_bounds (S.cell m)) k.1 (ap cell_bounds k.2 ∙ k.3) t) k.4

  pub in_source_box : (n : ℕ) (r : PreparedReference) → S.reference n ≡ some r → (T : ExactPlacement) (h : Item) → Within r.source T h → (b : WorldBBox) × (r.source_bbox ≡ boxed b) × WithinBox h (place T (box_of b))
  in_source_box n r e T h k = source_box_surrounds n r e r.source (true-boxes.sources n r e) T h k

  -- a member's box, placed, lies in its reference's box, placed
  pub member_in_reference_box : (n : ℕ) (r : PreparedReference) (b : WorldBBox) (column row : ℕ) (T : ExactPlacement) → S.reference n ≡ some r → r.source_bbox ≡ boxed b → column < r.grid.columns → row < r.grid.rows
      → Inside (place (member_at T r column row) (box_of b)) (place T (reference_box (grid_of r.grid) r.grid.columns r.grid.rows (box_of b)))
  member_in_reference_box n r b column row T e eb c< r< =
      placed_reference_box_encloses_member (grid_of r.grid) r.grid.columns r.grid.rows (box_of b) T column row (bounds_square r.source_bbox b eb (sq.source_box n r e)).proper c< r<

  -- a step back toward the root
  back_a_step : {s u : PreparedSource} {T U : ExactPlacement} {k : Step} (h : Item) → StepLeads S s T k u U → Within u U h → Within s T h
  back_a_step h (to_batch {n = n} {i = i} {T = T} {c = c} e i<) k =
      let g = k.0 in
      let o = outward c.bbox T h (box_of g.bbox) (enclosing c.bbox (box_of g.bbox) ((true-boxes.cells n c e).batches i g i< k.1 k.2)) k.3 in
      (c, o.0, e, o.1, o.2)
  back_a_step h (to_text {n = n} {i = i} {T = T} {c = c} e i<) k =
      let x = k.0 in
      let z = point_box (vector_of x.origin) in
      let o = outward c.bbox T h z (enclosing c.bbox z ((true-boxes.cells n c e).texts i x i< k.1)) k.2 in
      (c, o.0, e, o.1, o.2)
  back_a_step h (to_node {n = n} {i = i} {T = T} {c = c} e i<) k =
      let x = k.0 in
      let z = point_box (vector_of (x.point k.1)) in
      let o = outward c.bbox T h z (enclosing c.bbox z ((true-boxes.cells n c e).points i k.1 x i< k.2 k.3)) k.4 in
      (c, o.0, e, o.1, o.2)
  back_a_step h (to_reference {n = n} {i = i} {T = T} {c = c} e i<) k =
      let r = k.0 in
      let m = reference_box_lem (c.references.at i) r k.1 k.2 k.3 k.4 k.5 in
      let z = reference_box (grid_of r.grid) r.grid.columns r.grid.rows (box_of k.1) in
      let u = bounds_enclosing c.bbox (reference_bounds r r.source_bbox) (corners_bbox r.grid k.1) m.0 ((true-boxes.cells n c e).references i r i< k.2) in
      let o = outward c.bbox T h z (u.0, u.1, encloses_trans z (box_of (corners_bbox r.grid k.1)) (box_of u.0) m.1 u.2) k.6 in
      (c, o.0, e, o.1, o.2)
  back_a_step h (through_member_lem {n = n} {column = column} {row = row} {T = T} {r = r} e c< r<) k =
      let o = in_source_box n r e (member_at T r column row) h k in
      let z = reference_box (grid_of r.grid) r.grid.columns r.grid.rows (box_of o.0) in
      (r, o.0, e, o.1, omega arith, omega arith, within_larger h (place (member_at T r column row) (box_of o.0)) (place T z) (member_in_reference_box n r o.0 column row T e o.1 c< r<) o.2)

  pub enclosed : {s : PreparedSource} {T : ExactPlacement} {p : Path} {h : Item} → Leads S s T p h → HasElements h → Within s T h
  enclosed (at_batch {T = T} {g = g} e) c = (g, e, c, encloses_self (place T (box_of g.bbox)))
  enclosed (at_text {T = T} {x = x} e) c = let v = vector_of x.origin in (x, e, place_holds T (point_box v) v (point_holds v))
  enclosed (at_point {j = j} {T = T} {x = x} e j<) c = let v = vector_of (x.point j) in (x, j, e, j<, place_holds T (point_box v) v (point_holds v))
  enclosed (step {h = h} k l) c = back_a_step h k (enclosed l c)
