-- Every float that the abstract sheet of a valid sheet gives is finite.
-- Assumes nothing.
use mathlib.Core.Path.{◌≡◌, sym, subst}
use mathlib.Core.Bool.{Bool, true, false}
use Prim.Native.Nat.{ℕ, ◌+◌, ◌*◌, ◌<◌}
use native.Mathlib.Omega.{arith}
use mathlib.Core.List.{List}
use mathlib.Core.Option.{some}
use Rattle.fields.specs.Field.{f64_at}
use Rattle.walk.specs.Offsets.{length_at, kind_at}
use Rattle.walk.specs.Find.{find}
use Rattle.std.specs.Prelude.{Some}
use Rattle.records.specs.declared.PreparedGeometry.{PreparedGeometry}
use Rattle.records.specs.declared.PreparedText.{PreparedText}
use Rattle.records.specs.declared.PreparedReference.{PreparedReference}
use Rattle.records.specs.Records.{dvec2_at, world_bbox_at, bounds_at, geometry_at, text_at, node_at, node_point_at, grid_at, reference_at, cell_at}
use Rattle.abstract_sheet.specs.Sheet.{NodeRecord, CellRecord, sheet_of, node_record_at, cell_record_at, geometries, texts, nodes, references, cells}
use Rattle.abstract_sheet.proofs.Lookup.{item_located}
use Rattle.check_record.specs.Floats.{floats_from, floats_count}
use Rattle.check_record.proofs.Facts.Finite.{float_finite}
use Rattle.check_sheet.specs.Valid.{Valid}
use Rattle.check_sheet.specs.WellFormed.{Finite, FinitePoint, FiniteBBox, FiniteBounds, absent, present, FiniteGrid}
use Rattle.check_sheet.proofs.WellFormed.Found.{found_right}

-- ---- In a record that is found: a float, a point and a box by the number of its first float

module _ (s : List ℕ) (valid : Valid s) (kind n at : ℕ) (found : find s kind n ≡ Some at) where
  float_at : (j place : ℕ) → j < floats_count kind (length_at s at) → place ≡ at + floats_from kind + 8 * j → Finite (f64_at s place)
  float_at j place h p =
      let right = found_right s valid kind n at found in
      let here : place ≡ at + floats_from (kind_at s at) + 8 * j = rw right.1 p in
      rw here (float_finite s at j right.0.floats (rw right.1 h))

  point_at : (j place : ℕ) → j + 1 < floats_count kind (length_at s at) → place ≡ at + floats_from kind + 8 * j → FinitePoint (dvec2_at s place)
  unfolding dvec2_at
  point_at j place h p = record { x = float_at j _ (omega arith) p; y = float_at (j + 1) _ h (omega arith) }

  bbox_at : (j place : ℕ) → j + 3 < floats_count kind (length_at s at) → place ≡ at + floats_from kind + 8 * j → FiniteBBox (world_bbox_at s place)
  unfolding world_bbox_at
  bbox_at j place h p =
      record {
        min_x = float_at j _ (omega arith) p;
        min_y = float_at (j + 1) _ (omega arith) (omega arith);
        max_x = float_at (j + 2) _ (omega arith) (omega arith);
        max_y = float_at (j + 3) _ h (omega arith);
      }

  bounds_at_lem : (j place : ℕ) → j + 3 < floats_count kind (length_at s at) → place ≡ at + floats_from kind + 8 * j → (b : Bool) → FiniteBounds (bounds_at s place b)
  unfolding bounds_at world_bbox_at
  bounds_at_lem j place h p true = let box = bbox_at j place h p in present box.min_x box.min_y box.max_x box.max_y
  bounds_at_lem j place h p false = absent

-- ---- By number

module _ (s : List ℕ) (valid : Valid s) (n : ℕ) where
  pub geometry_finite : (g : PreparedGeometry) → (sheet_of s).geometry n ≡ some g → FiniteBBox g.bbox
  unfolding geometry_at floats_from floats_count
  geometry_finite g e =
      let l = item_located geometries s n g e in
      subst (λ (x : PreparedGeometry). FiniteBBox x.bbox) (sym l.same) (bbox_at s valid 1 n l.at l.found 0 _ (omega arith) (omega arith))

  pub text_finite : (x : PreparedText) → (sheet_of s).text n ≡ some x → FinitePoint x.origin
  unfolding text_at floats_from floats_count
  text_finite x e =
      let l = item_located texts s n x e in
      subst (λ (y : PreparedText). FinitePoint y.origin) (sym l.same) (point_at s valid 2 n l.at l.found 0 _ (omega arith) (omega arith))

  pub node_finite : (d : NodeRecord) → (sheet_of s).node n ≡ some d → (i : ℕ) → i < d.count → FinitePoint (d.point i)
  unfolding node_record_at node_at node_point_at floats_from floats_count
  node_finite d e =
      let l = item_located nodes s n d e in
      subst (λ (y : NodeRecord). (i : ℕ) → i < y.count → FinitePoint (y.point i)) (sym l.same)
      (λ i h. point_at s valid 3 n l.at l.found (2 * i) _ (omega arith) (omega arith))

  pub grid_finite : (r : PreparedReference) → (sheet_of s).reference n ≡ some r → FiniteGrid r.grid
  unfolding reference_at grid_at floats_from floats_count
  grid_finite r e =
      let l = item_located references s n r e in
      let point = point_at s valid 4 n l.at l.found in
      let float = float_at s valid 4 n l.at l.found in
      subst (λ (y : PreparedReference). FiniteGrid y.grid) (sym l.same)
      (record {
        origin = point 0 _ (omega arith) (omega arith);
        spacing_x = point 2 _ (omega arith) (omega arith);
        spacing_y = point 4 _ (omega arith) (omega arith);
        magnification = float 6 _ (omega arith) (omega arith);
        cos = float 7 _ (omega arith) (omega arith);
        sin = float 8 _ (omega arith) (omega arith);
      })

  pub source_box_finite : (r : PreparedReference) → (sheet_of s).reference n ≡ some r → FiniteBounds r.source_bbox
  unfolding reference_at floats_from floats_count
  source_box_finite r e =
      let l = item_located references s n r e in
      subst (λ (y : PreparedReference). FiniteBounds y.source_bbox) (sym l.same)
      (bounds_at_lem s valid 4 n l.at l.found 9 _ (omega arith) (omega arith) _)

  pub cell_box_finite : (c : CellRecord) → (sheet_of s).cell n ≡ some c → FiniteBounds c.bbox
  unfolding cell_record_at cell_at floats_from floats_count
  cell_box_finite c e =
      let l = item_located cells s n c e in
      subst (λ (y : CellRecord). FiniteBounds y.bbox) (sym l.same) (bounds_at_lem s valid 5 n l.at l.found 0 _ (omega arith) (omega arith) _)
