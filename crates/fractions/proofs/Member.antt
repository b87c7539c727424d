-- ONE MEMBER of a reference on a slanted sheet lies near its exact placement. Assumes nothing.
use mathlib.Core.Bool.{Bool, true, false}
use Prim.Native.Nat.{ℕ, ◌^◌, ◌≤◌}
use lib.Dec.{lit≤}
use lib.Ieee.{Float, binary64, neg}
use Rattle.fused.specs.Fma.{fma}
use Rattle.geometry.specs.Rounded.{◌⊕◌, ◌⊗◌}
use Rattle.grid.specs.declared.Grid.{Grid}
use Rattle.grid.specs.Grid.{f64_from, offset, rotated, y_axis, grid_member_transform}
use Rattle.fractions.specs.Fraction.{Fraction, fraction, ◌⊞◌, opposite, ◌⊠◌, value_of}
use Rattle.fractions.specs.Placement.{member_placement}
use Rattle.fractions.specs.Placement as exactly
use Rattle.fractions.specs.Bounds.{FloatWithin, SlantedGrid}
use Rattle.fractions.specs.Errors.{product_error, member_axis_error, offset_error, rotated_error, member_bound, member_shift_error}
use Rattle.fractions.proofs.Approximates.{Approximates, approx_own, add_near, mul_near, fma_near, neg_near, natural_near}
use Rattle.fractions.proofs.Placements.{linear_near, NearVector, NearPlacement}

-- a number of the sheet is its own value
pub number_near : (B : ℕ) (x : Float) → FloatWithin B x → Approximates x (value_of x) 0 B
number_near B x h = approx_own x B h.finite h.within

module _ (g : Grid) (h : SlantedGrid g) where
  cos_near : Approximates g.cos (value_of g.cos) 0 1
  cos_near = number_near 1 g.cos h.cos

  sin_near : Approximates g.sin (value_of g.sin) 0 1
  sin_near = number_near 1 g.sin h.sin

  module _ (column row : ℕ) (c≤ : column ≤ 2 ^ 10) (r≤ : row ≤ 2 ^ 10) where
    along_near : (a b : Float) → FloatWithin (2 ^ 24) a → FloatWithin (2 ^ 24) b
        → Approximates (a ⊗ f64_from column ⊕ b ⊗ f64_from row) (value_of a ⊠ fraction column ⊞ value_of b ⊠ fraction row) offset_error (2 ^ 35)
    along_near a b p q =
        linear_near a b (f64_from column) (f64_from row) (value_of a) (value_of b) (fraction column) (fraction row) 0 (2 ^ 24) 0 (2 ^ 10) (number_near (2 ^ 24) a p) (number_near (2 ^ 24) b q)
        (natural_near column (2 ^ 10) c≤ (lit≤ tt)) (natural_near row (2 ^ 10) r≤ (lit≤ tt)) (lit≤ tt) (lit≤ tt) (lit≤ tt)

    offset_near : NearVector (offset g column row) (exactly.offset g column row) offset_error (2 ^ 35)
    unfolding offset
    offset_near = record {
      x = along_near g.spacing_x.x g.spacing_y.x h.spacing_x.x h.spacing_y.x;
      y = along_near g.spacing_x.y g.spacing_y.y h.spacing_x.y h.spacing_y.y;
    }

    -- the offset's y, times cos or sin
    times_near : (a : Float) → Approximates a (value_of a) 0 1
        → Approximates ((offset g column row).y ⊗ a) ((exactly.offset g column row).y ⊠ value_of a) (product_error offset_error (2 ^ 35) 0 1) (2 ^ 35)
    times_near a k = mul_near (offset g column row).y a (exactly.offset g column row).y (value_of a) offset_error (2 ^ 35) 0 1 offset_near.y k (lit≤ tt) (lit≤ tt) (lit≤ tt)

    -- the offset's x, times sin or cos, and that: in one step
    fused_near : (a z : Float) (w : Fraction) → Approximates a (value_of a) 0 1 → Approximates z w (product_error offset_error (2 ^ 35) 0 1) (2 ^ 35)
        → Approximates (fma binary64 (offset g column row).x a z) ((exactly.offset g column row).x ⊠ value_of a ⊞ w) rotated_error (2 ^ 36)
    fused_near a z w k r =
        fma_near (offset g column row).x a (exactly.offset g column row).x (value_of a) offset_error (2 ^ 35) 0 1 offset_near.x k z w (product_error offset_error (2 ^ 35) 0 1) (2 ^ 35) r
        (lit≤ tt) (lit≤ tt) (lit≤ tt)

    rotated_near : NearVector (rotated (offset g column row) g.cos g.sin) (exactly.rotated (exactly.offset g column row) (value_of g.cos) (value_of g.sin)) rotated_error (2 ^ 36)
    unfolding rotated
    rotated_near =
        let y = (offset g column row).y in
        let v = (exactly.offset g column row).y in
        record {
          x = fused_near g.cos (neg (y ⊗ g.sin)) (opposite (v ⊠ value_of g.sin)) cos_near
              (neg_near (y ⊗ g.sin) (v ⊠ value_of g.sin) (product_error offset_error (2 ^ 35) 0 1) (2 ^ 35) (times_near g.sin sin_near));
          y = fused_near g.sin (y ⊗ g.cos) (v ⊠ value_of g.cos) sin_near (times_near g.cos cos_near);
        }

  -- a coordinate of an axis, times the magnification
  scaled_near : (a : Float) (u : Fraction) → Approximates a u 0 1 → Approximates (a ⊗ g.magnification) (u ⊠ value_of g.magnification) member_axis_error 1
  scaled_near a u p = mul_near a g.magnification u (value_of g.magnification) 0 1 0 1 p (number_near 1 g.magnification h.magnification.most) (lit≤ tt) (lit≤ tt) (lit≤ tt)

  -- the y axis before it is magnified
  y_axis_near : (reflection : Bool) → NearVector (y_axis reflection g.cos g.sin) (exactly.y_axis_of reflection (value_of g.cos) (value_of g.sin)) 0 1
  unfolding y_axis
  y_axis_near true = record { x = sin_near; y = neg_near g.cos (value_of g.cos) 0 1 cos_near }
  y_axis_near false = record { x = neg_near g.sin (value_of g.sin) 0 1 sin_near; y = cos_near }

  -- a coordinate of the origin, and that of the turned offset
  shifted_near : (a t : Float) (v : Fraction) → FloatWithin (2 ^ 24) a → Approximates t v rotated_error (2 ^ 36) → Approximates (a ⊕ t) (value_of a ⊞ v) member_shift_error member_bound
  shifted_near a t v p q = add_near a t (value_of a) v 0 (2 ^ 24) rotated_error (2 ^ 36) (number_near (2 ^ 24) a p) q (lit≤ tt) (lit≤ tt)

  pub member_near : (column row : ℕ) → column ≤ 2 ^ 10 → row ≤ 2 ^ 10 → NearPlacement (grid_member_transform g column row) (member_placement g column row) member_axis_error 1 member_shift_error member_bound
  unfolding grid_member_transform
  member_near column row c≤ r≤ =
      let y = y_axis_near g.x_reflection in
      let turned = rotated_near column row c≤ r≤ in
      record {
        xx = scaled_near g.cos (value_of g.cos) cos_near;
        xy = scaled_near g.sin (value_of g.sin) sin_near;
        yx = scaled_near _ _ y.x;
        yy = scaled_near _ _ y.y;
        tx = shifted_near g.origin.x _ _ h.origin.x turned.x;
        ty = shifted_near g.origin.y _ _ h.origin.y turned.y;
      }
