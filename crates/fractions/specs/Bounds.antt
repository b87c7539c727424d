-- THE BOUNDS OF A SLANTED SHEET's numbers. Document 02, paper 14: "Let all positions and spacings be within ±2^24, columns and rows at most 1,024, magnification 0 to 1, and cos
-- and sin within ±1. .. Nothing is assumed of cos and sin together." Definitions only. Assumes nothing.
use Rattle.std.specs.Prelude.{ℕ, ◌^◌, ◌≤◌, Float}
use Rattle.geometry.specs.declared.placement.DVec2.{DVec2}
use Rattle.grid.specs.declared.Grid.{Grid}
use Rattle.exact.specs.Integer.{integer, ◌≼◌}
use Rattle.fractions.specs.Fraction.{AtMost, Finite, value_of}

-- a finite float of magnitude at most B
pub record FloatWithin (B : ℕ) (x : Float) : Type 0 where
  pub finite : Finite x
  pub within : AtMost B 0 (value_of x)

-- a position or a spacing "within ±2^24"
pub record SlantedVector (v : DVec2) : Type 0 where
  pub x : FloatWithin (2 ^ 24) v.x
  pub y : FloatWithin (2 ^ 24) v.y

-- "magnification 0 to 1"
pub record SlantedMagnification (m : Float) : Type 0 where
  pub least : integer 0 ≼ (value_of m).num
  pub most : FloatWithin 1 m

pub record SlantedGrid (g : Grid) : Type 0 where
  -- "columns and rows at most 1,024"
  pub columns : g.columns ≤ 1024
  pub rows : g.rows ≤ 1024
  pub origin : SlantedVector g.origin
  pub spacing_x : SlantedVector g.spacing_x
  pub spacing_y : SlantedVector g.spacing_y
  pub magnification : SlantedMagnification g.magnification
  -- "cos and sin within ±1"
  pub cos : FloatWithin 1 g.cos
  pub sin : FloatWithin 1 g.sin
