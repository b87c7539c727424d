-- A record of each kind, read at the start of bytes that read as the sheet from the record's offset on, is the record of the sheet.
-- Assumes nothing.
use mathlib.Core.Path.{◌≡◌, ap, ◌∙◌}
use Prim.Native.Nat.{ℕ, ◌+◌}
use native.Mathlib.Nat.{add-zero}
use native.Mathlib.Omega.{arith}
use mathlib.Core.List.{List}
use mathlib.Core.Bool.{Bool, cond}
use lib.Ieee.{binary64, of_bits}
use Rattle.fields.specs.Field.{uint_at, f64_at}
use Rattle.geometry.specs.declared.bbox.Bounds.TheVariants.{Absent, Box}
use Rattle.records.specs.Records.{dvec2_at, world_bbox_at, bounds_at, geometry_at, text_at, node_at, grid_at, reference_at, cell_at}

module _ (t s : List ℕ) (at : ℕ) (uint : (j k : ℕ) → uint_at k t j ≡ uint_at k s (at + j)) where
  -- ---- parts

  float : (j : ℕ) → f64_at t j ≡ f64_at s (at + j)
  unfolding f64_at
  float j = ap (of_bits binary64) (uint j 8)

  -- a float i bytes after j
  later : (j i : ℕ) → f64_at t (j + i) ≡ f64_at s (at + j + i)
  later j i = let e : at + (j + i) ≡ at + j + i = omega arith in float (j + i) ∙ ap (f64_at s) e

  pub dvec2_in : (j : ℕ) → dvec2_at t j ≡ dvec2_at s (at + j)
  unfolding dvec2_at
  dvec2_in j = λ i. record { x = float j i; y = later j 8 i }

  bbox_in : (j : ℕ) → world_bbox_at t j ≡ world_bbox_at s (at + j)
  unfolding world_bbox_at
  bbox_in j = λ i. record { min_x = float j i; min_y = later j 8 i; max_x = later j 16 i; max_y = later j 24 i }

  bounds_in : (j : ℕ) (present : Bool) → bounds_at t j present ≡ bounds_at s (at + j) present
  unfolding bounds_at
  bounds_in j present = λ i. cond present (Box (float j i) (later j 8 i) (later j 16 i) (later j 24 i)) Absent

  pub point_in : dvec2_at t 0 ≡ dvec2_at s at
  point_in = simp (dvec2_in, add-zero)

  -- ---- kinds

  pub geometry_in : geometry_at t 0 ≡ geometry_at s at
  unfolding geometry_at
  geometry_in = simp (uint, bbox_in)

  pub text_in : text_at t 0 ≡ text_at s at
  unfolding text_at
  text_in = simp (uint, dvec2_in)

  pub node_in : node_at t 0 ≡ node_at s at
  unfolding node_at
  node_in = simp (uint, add-zero)

  pub reference_in : reference_at t 0 ≡ reference_at s at
  unfolding reference_at grid_at
  reference_in = simp (uint, float, dvec2_in, bounds_in)

  pub cell_in : cell_at t 0 ≡ cell_at s at
  unfolding cell_at
  cell_in = simp (uint, bounds_in)
