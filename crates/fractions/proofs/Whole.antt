-- ON WHOLE NUMBERS the exact placement on fractions is that of `exact`: the statement is in specs/Whole.antt. Whole-number placement is document 01's steps too (`unrounded_steps`),
-- and each operation of a step keeps the value. Assumes nothing.
use mathlib.Core.Path.{sym, subst}
use mathlib.Core.Bool.{Bool, true, false}
use Prim.Native.Nat.{ℕ}
use Rattle.geometry.specs.declared.placement.DVec2.{DVec2}
use Rattle.grid.specs.declared.Grid.{Grid}
use Rattle.exact.specs.Integer.{Integer, integer, ◌⊗◌, negate}
use Rattle.exact.specs.Placement.{Vector, ◌⊹◌, ◌≐ᵛ◌, x_axis, y_axis, ExactPlacement, identity, move, ◌∘◌, IsVector}
use Rattle.exact.specs.Member.{cosine, sine, IntegerGrid, member_placement, IsGrid}
use Rattle.exact.specs.Steps.{◌⊛◌, linear_step, rotated_offset, y_axis_step}
use Rattle.exact.proofs.Placements.Steps.{unrounded_steps}
use Rattle.fractions.specs.Fraction.{Fraction, fraction, ◌⊞◌, opposite, ◌⊠◌, value_of}
use Rattle.fractions.specs.Placement as fractions
use Rattle.fractions.specs.Placement.{FractionVector, vector, vector_of, FractionPlacement, linear, offset, rotated, y_axis_of, scaled}
use Rattle.fractions.specs.Whole.{IsWhole, IsWholeVector, IsWholePlacement, WholeSteps}
use Rattle.fractions.proofs.WholeNumbers.{whole_same, sum_whole, product_whole, opposite_whole, natural_whole, number_whole}

-- ---- vectors

pub vector_whole : (v : DVec2) (i : Vector) → IsVector v i → IsWholeVector i (vector_of v)
vector_whole v i h = record { x = number_whole v.x i.x h.x; y = number_whole v.y i.y h.y }

vector_same : {i j : Vector} {v : FractionVector} → i ≐ᵛ j → IsWholeVector j v → IsWholeVector i v
vector_same {i} {j} {v} e h = record { x = whole_same i.x j.x v.x e.x h.x; y = whole_same i.y j.y v.y e.y h.y }

vector_sum : {i j : Vector} {v w : FractionVector} → IsWholeVector i v → IsWholeVector j w → IsWholeVector (i ⊹ j) (vector (v.x ⊞ w.x) (v.y ⊞ w.y))
vector_sum {i} {j} {v} {w} h k = record { x = sum_whole i.x j.x v.x w.x h.x k.x; y = sum_whole i.y j.y v.y w.y h.y k.y }

vector_scaled : {i : Vector} {v : FractionVector} (n : Integer) (m : Fraction) → IsWhole n m → IsWholeVector i v → IsWholeVector (i ⊛ n) (scaled v m)
vector_scaled {i} {v} n m k h = record { x = product_whole i.x n v.x m h.x k; y = product_whole i.y n v.y m h.y k }

-- ---- placements

root_whole : IsWholePlacement identity fractions.identity
root_whole =
    let zero = natural_whole 0 in
    let one = natural_whole 1 in
    record { x_axis = record { x = one; y = zero }; y_axis = record { x = zero; y = one }; translation = record { x = zero; y = zero } }

module _ (T : ExactPlacement) (U : FractionPlacement) (h : IsWholePlacement T U) where
  linear_whole : (i : Vector) (v : FractionVector) → IsWholeVector i v → IsWholeVector (linear_step T.orientation i) (linear U v)
  linear_whole i v k = vector_sum (vector_scaled i.x v.x k.x h.x_axis) (vector_scaled i.y v.y k.y h.y_axis)

  move_whole : (i : Vector) (v : FractionVector) → IsWholeVector i v → IsWholeVector (move T i) (fractions.move U v)
  move_whole i v k = vector_same (unrounded_steps.point T i) (vector_sum (linear_whole i v k) h.translation)

  compose_whole : (C : ExactPlacement) (D : FractionPlacement) → IsWholePlacement C D → IsWholePlacement (T ∘ C) (fractions.◌∘◌ U D)
  compose_whole C D k = record {
    x_axis = vector_same (unrounded_steps.product_x T C) (linear_whole (x_axis C.orientation) D.x_axis k.x_axis);
    y_axis = vector_same (unrounded_steps.product_y T C) (linear_whole (y_axis C.orientation) D.y_axis k.y_axis);
    translation = move_whole C.translation D.translation k.translation;
  }

-- ---- a member

module _ (g : Grid) (z : IntegerGrid) (h : IsGrid g z) where
  cos_whole : IsWhole (cosine z.angle) (value_of g.cos)
  cos_whole = number_whole g.cos (cosine z.angle) h.cos

  sin_whole : IsWhole (sine z.angle) (value_of g.sin)
  sin_whole = number_whole g.sin (sine z.angle) h.sin

  offset_whole : (column row : ℕ) → IsWholeVector (z.spacing_x ⊛ integer column ⊹ z.spacing_y ⊛ integer row) (offset g column row)
  offset_whole column row =
      vector_sum
      (vector_scaled (integer column) (fraction column) (natural_whole column) (vector_whole g.spacing_x z.spacing_x h.spacing_x))
      (vector_scaled (integer row) (fraction row) (natural_whole row) (vector_whole g.spacing_y z.spacing_y h.spacing_y))

  rotated_whole : (i : Vector) (v : FractionVector) → IsWholeVector i v → IsWholeVector (rotated_offset z i) (rotated v (value_of g.cos) (value_of g.sin))
  rotated_whole i v k =
      let c = cosine z.angle in
      let s = sine z.angle in
      let cos = value_of g.cos in
      let sin = value_of g.sin in
      record {
        x = sum_whole (i.x ⊗ c) (negate (i.y ⊗ s)) (v.x ⊠ cos) (opposite (v.y ⊠ sin)) (product_whole i.x c v.x cos k.x cos_whole)
            (opposite_whole (i.y ⊗ s) (v.y ⊠ sin) (product_whole i.y s v.y sin k.y sin_whole));
        y = sum_whole (i.x ⊗ s) (i.y ⊗ c) (v.x ⊠ sin) (v.y ⊠ cos) (product_whole i.x s v.x sin k.x sin_whole) (product_whole i.y c v.y cos k.y cos_whole);
      }

  -- the y axis before it is magnified
  y_axis_whole : (reflection : Bool) → IsWholeVector (y_axis_step reflection (cosine z.angle) (sine z.angle)) (y_axis_of reflection (value_of g.cos) (value_of g.sin))
  y_axis_whole true = record { x = sin_whole; y = opposite_whole (cosine z.angle) (value_of g.cos) cos_whole }
  y_axis_whole false = record { x = opposite_whole (sine z.angle) (value_of g.sin) sin_whole; y = cos_whole }

  -- times the magnification, 1
  magnified_whole : {i : Vector} {v : FractionVector} → IsWholeVector i v → IsWholeVector (i ⊛ integer 1) (scaled v (value_of g.magnification))
  magnified_whole k = vector_scaled (integer 1) (value_of g.magnification) (number_whole g.magnification (integer 1) h.magnification) k

  member_whole : (column row : ℕ) → IsWholePlacement (member_placement z column row) (fractions.member_placement g column row)
  member_whole column row =
      let y = y_axis_step z.x_reflection (cosine z.angle) (sine z.angle) in
      let reflected = subst (λ (b : Bool). IsWholeVector y (y_axis_of b (value_of g.cos) (value_of g.sin))) (sym h.x_reflection) (y_axis_whole z.x_reflection) in
      record {
        x_axis = vector_same (unrounded_steps.member_x z column row) (magnified_whole (record { x = cos_whole; y = sin_whole }));
        y_axis = vector_same (unrounded_steps.member_y z column row) (magnified_whole reflected);
        translation = vector_same (unrounded_steps.member_translation z column row)
            (vector_sum (vector_whole g.origin z.origin h.origin) (rotated_whole _ (offset g column row) (offset_whole column row)));
      }

pub whole_steps : WholeSteps
whole_steps = record {
  number = number_whole;
  root = root_whole;
  point = λ T U i v h k. move_whole T U h i v k;
  product = λ P C Q D h k. compose_whole P Q h C D k;
  member = λ g z column row h. member_whole g z h column row;
}
