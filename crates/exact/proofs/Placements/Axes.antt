-- The axes of a member's placement: those of its rotation and reflection, and in `grid_member_transform` these times the magnification 1.
-- Assumes nothing.
use mathlib.Core.Path.{◌≡◌, refl, sym, ap, ◌∙◌, subst}
use mathlib.Core.Bool.{Bool, true, false, cond}
use native.Mathlib.Omega.{arith}
use lib.Ieee.{Float, binary64}
use Rattle.geometry.specs.declared.placement.DVec2.{DVec2}
use Rattle.grid.specs.declared.Grid.{Grid}
use Rattle.geometry.specs.Placement.{vec}
use Rattle.grid.specs.Grid.{y_axis as gridYAxis, scaled}
use Rattle.exact.specs.Integer.{Integer, integer}
use Rattle.exact.specs.IsInteger.{IsInteger, exact_up_to}
use Rattle.exact.specs.Placement.{Vector, VectorWithin, x_axis, y_axis, IsVector}
use Rattle.exact.specs.Member.{Rotation, degrees0, degrees90, degrees180, degrees270, cosine, sine, rotation, reflected_rotation, IntegerGrid, member_orientation, IsGrid}
use Rattle.exact.specs.Steps.{y_axis_step}
use Rattle.exact.proofs.Floats.Sum.{neg_integer}
use Rattle.exact.proofs.Floats.Product.{mul_integer}
use Rattle.exact.proofs.Placements.Moving.{axis_within}

-- on integers
pub member_axes : (m : Bool) (a : Rotation)
    → (x_axis (cond m (reflected_rotation a) (rotation a)) ≡ record { x = cosine a; y = sine a })
    × (y_axis (cond m (reflected_rotation a) (rotation a)) ≡ y_axis_step m (cosine a) (sine a))
member_axes false degrees0 = (refl, refl)
member_axes false degrees90 = (refl, refl)
member_axes false degrees180 = (refl, refl)
member_axes false degrees270 = (refl, refl)
member_axes true degrees0 = (refl, refl)
member_axes true degrees90 = (refl, refl)
member_axes true degrees180 = (refl, refl)
member_axes true degrees270 = (refl, refl)

-- in floats
grid_y_axis_exact : (b : Bool) (c s : Float) (k l : Integer) → IsInteger c k → IsInteger s l → IsVector (gridYAxis b c s) (y_axis_step b k l)
unfolding gridYAxis
grid_y_axis_exact true c s k l p q = record { x = q; y = neg_integer c k p }
grid_y_axis_exact false c s k l p q = record { x = neg_integer s l q; y = p }

-- times the magnification, 1
magnified : (v : DVec2) (m : Float) (i : Vector) → IsVector v i → IsInteger m (integer 1) → VectorWithin exact_up_to i → IsVector (scaled v m) i
magnified v m i p one w = record {
  x = mul_integer binary64 v.x m i.x (integer 1) i.x p.x one (omega arith) w.x;
  y = mul_integer binary64 v.y m i.y (integer 1) i.y p.y one (omega arith) w.y;
}

module _ (g : Grid) (z : IntegerGrid) (h : IsGrid g z) where
  pub x_axis_exact : IsVector (scaled (vec g.cos g.sin) g.magnification) (x_axis (member_orientation z))
  x_axis_exact =
      let v = vec g.cos g.sin in
      let is = subst (IsVector v) (sym (member_axes z.x_reflection z.angle).0) (record { x = h.cos; y = h.sin }) in
      magnified v g.magnification (x_axis (member_orientation z)) is h.magnification (axis_within (member_orientation z)).0

  pub y_axis_exact : IsVector (scaled (gridYAxis g.x_reflection g.cos g.sin) g.magnification) (y_axis (member_orientation z))
  y_axis_exact =
      let a = z.angle in
      let v = gridYAxis g.x_reflection g.cos g.sin in
      let same = ap (λ (b : Bool). y_axis_step b (cosine a) (sine a)) h.x_reflection ∙ sym (member_axes z.x_reflection a).1 in
      let is = subst (IsVector v) same (grid_y_axis_exact g.x_reflection g.cos g.sin (cosine a) (sine a) h.cos h.sin) in
      magnified v g.magnification (y_axis (member_orientation z)) is h.magnification (axis_within (member_orientation z)).1
