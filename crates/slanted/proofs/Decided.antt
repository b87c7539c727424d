-- SLANTED, DECIDED: a test of a sheet's bytes, and that a sheet which passes it is slanted. The test says the same as `SlantedSheet`, field by field. Assumes nothing.
use mathlib.Core.Bool.{Bool, true, false, ◌&&◌}
use mathlib.Core.List.{List}
use Prim.Native.Nat.{ℕ, ◌*◌, ◌^◌, ◌≤◌}
use native.Mathlib.Omega.{arith}
use lib.Dec.{leb, leb→le}
use lib.Dec.{T as Yes}
use lib.Ieee.{Float, nan, inf, fin, up}
use Rattle.floats.specs.Order.{is_finite}
use Rattle.geometry.specs.declared.placement.DVec2.{DVec2}
use Rattle.grid.specs.declared.Grid.{Grid}
use Rattle.walk.specs.Find.{find_in, of_kind}
use Rattle.records.specs.declared.PreparedText.{PreparedText}
use Rattle.records.specs.declared.PreparedReference.{PreparedReference}
use Rattle.records.specs.Records.{text_at, reference_at}
use Rattle.abstract_sheet.specs.Sheet.{NodeRecord, node_record_at, sheet_by, sheet_of}
use Rattle.exact.specs.Integer.{integer, is_at_most}
use Rattle.cover.proofs.Examples.Every.{every, every_below, both, of_every, of_every_below}
use Rattle.fractions.specs.Fraction.{places_of, value_of}
use Rattle.fractions.specs.Bounds.{FloatWithin, SlantedVector, SlantedMagnification, SlantedGrid}
use Rattle.slanted.specs.Sheet.{SlantedSheet}

abbrev is_within : ℕ → Float → Bool
is_within B nan = false
is_within B (inf s) = false
is_within B (fin s m e) = leb (m * up e) (B * 2 ^ places_of e)

float_within : (B : ℕ) (x : Float) → Yes (is_within B x) → FloatWithin B x
unfolding is_finite
float_within B nan h = absurd h
float_within B (inf s) h = absurd h
float_within B (fin s m e) h = by s (leb→le (m * up e) (B * 2 ^ places_of e) h)
  where
    by : (s : Bool) → m * up e ≤ B * 2 ^ places_of e → FloatWithin B (fin s m e)
    by true l = record { finite = tt; within = record { above = omega arith; below = omega arith } }
    by false l = record { finite = tt; within = record { above = omega arith; below = omega arith } }

abbrev is_slanted_vector : DVec2 → Bool
is_slanted_vector v = is_within (2 ^ 24) v.x && is_within (2 ^ 24) v.y

slanted_vector : (v : DVec2) → Yes (is_slanted_vector v) → SlantedVector v
slanted_vector v h = let k = both (is_within (2 ^ 24) v.x) _ h in record { x = float_within (2 ^ 24) v.x k.0; y = float_within (2 ^ 24) v.y k.1 }

abbrev is_slanted_magnification : Float → Bool
is_slanted_magnification m = is_at_most (integer 0) (value_of m).num && is_within 1 m

slanted_magnification : (m : Float) → Yes (is_slanted_magnification m) → SlantedMagnification m
slanted_magnification m h = let k = both (is_at_most (integer 0) (value_of m).num) _ h in record { least = leb→le _ _ k.0; most = float_within 1 m k.1 }

abbrev is_slanted_grid : Grid → Bool
is_slanted_grid g =
    leb g.columns 1024
    && (leb g.rows 1024
    && (is_slanted_vector g.origin
    && (is_slanted_vector g.spacing_x
    && (is_slanted_vector g.spacing_y
    && (is_slanted_magnification g.magnification
    && (is_within 1 g.cos && is_within 1 g.sin))))))

slanted_grid : (g : Grid) → Yes (is_slanted_grid g) → SlantedGrid g
slanted_grid g h =
    let a = both (leb g.columns 1024) _ h in
    let b = both (leb g.rows 1024) _ a.1 in
    let c = both (is_slanted_vector g.origin) _ b.1 in
    let d = both (is_slanted_vector g.spacing_x) _ c.1 in
    let e = both (is_slanted_vector g.spacing_y) _ d.1 in
    let f = both (is_slanted_magnification g.magnification) _ e.1 in
    let t = both (is_within 1 g.cos) _ f.1 in
    record {
      columns = leb→le g.columns 1024 a.0;
      rows = leb→le g.rows 1024 b.0;
      origin = slanted_vector g.origin c.0;
      spacing_x = slanted_vector g.spacing_x d.0;
      spacing_y = slanted_vector g.spacing_y e.0;
      magnification = slanted_magnification g.magnification f.0;
      cos = float_within 1 g.cos t.0;
      sin = float_within 1 g.sin t.1;
    }

-- ---- the sheet

abbrev is_slanted_node : NodeRecord → Bool
is_slanted_node x = every_below (λ (j : ℕ). is_slanted_vector (x.point j)) x.count

abbrev pub is_slanted : List ℕ → Bool
is_slanted s =
    every (λ (at : ℕ). is_slanted_vector (text_at s at).origin) (of_kind s 2)
    && (every (λ (at : ℕ). is_slanted_node (node_record_at s at)) (of_kind s 3)
    && every (λ (at : ℕ). is_slanted_grid (reference_at s at).grid) (of_kind s 4))

pub slanted_sheet : (s : List ℕ) → Yes (is_slanted s) → SlantedSheet (sheet_of s)
unfolding sheet_by sheet_of find_in
slanted_sheet s h =
    let a = both (every (λ (at : ℕ). is_slanted_vector (text_at s at).origin) (of_kind s 2)) _ h in
    let b = both (every (λ (at : ℕ). is_slanted_node (node_record_at s at)) (of_kind s 3)) _ a.1 in
    record {
      text = λ n x e. slanted_vector x.origin (of_every (text_at s) (λ (x : PreparedText). is_slanted_vector x.origin) (of_kind s 2) a.0 n x e);
      point = λ n x j e j<. slanted_vector (x.point j) (of_every_below (λ (j : ℕ). is_slanted_vector (x.point j)) x.count (of_every (node_record_at s) is_slanted_node (of_kind s 3) b.0 n x e) j j<);
      grid = λ n r e. slanted_grid r.grid (of_every (reference_at s) (λ (r : PreparedReference). is_slanted_grid r.grid) (of_kind s 4) b.1 n r e);
    }
