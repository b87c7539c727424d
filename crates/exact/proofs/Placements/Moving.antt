-- Float placements that are exact ones turn and move vectors exactly, and so does their product, while results stay within 2 ^ 53.
-- Assumes nothing.
use mathlib.Core.Path.{refl, sym, subst}
use mathlib.Core.Bool.{Bool, true, false, cond}
use native.Mathlib.Omega.{arith}
use lib.Ieee.{Float, binary64, add, mul}
use Rattle.geometry.specs.declared.placement.DVec2.{DVec2}
use Rattle.geometry.specs.declared.placement.Placement.{Placement}
use Rattle.geometry.specs.Placement.{IDENTITY, transform_vector2, transform_point2, ◌·◌}
use Rattle.exact.specs.Integer.{Integer, integer, negate_if, Within}
use Rattle.exact.specs.IsInteger.{IsInteger, exact_up_to}
use Rattle.exact.specs.Placement.{Vector, ◌≐ᵛ◌, VectorWithin, Orientation, orient, x_axis, y_axis, ExactPlacement, identity, move, ◌∘◌, IsVector, IsPlacement}
use Rattle.exact.proofs.Integers.Bounds.{within_natural, within_negate_if, vector_orient}
use Rattle.exact.proofs.Integers.Products.{unit_times, zero_times}
use Rattle.exact.proofs.Floats.Rounding.{integer_same}
use Rattle.exact.proofs.Floats.Sum.{add_integer}
use Rattle.exact.proofs.Floats.Product.{mul_integer}
use Rattle.exact.proofs.Placements.Orientation.{orient_compose}

pub zero_within : Within exact_up_to (integer 0)
zero_within = within_natural exact_up_to 0 (omega arith)

one_within : Within exact_up_to (integer 1)
one_within = within_natural exact_up_to 1 (omega arith)

-- ---- one coordinate: u x + v y, where one of u and v is 1 or −1 and the other 0
module _ (u v x y : Float) (a b : Integer) (p : IsInteger x a) (q : IsInteger y b) (h : Within exact_up_to a) (k : Within exact_up_to b) where
  first_coordinate : (n : Bool) → IsInteger u (negate_if n (integer 1)) → IsInteger v (negate_if n (integer 0))
      → IsInteger (add binary64 (mul binary64 u x) (mul binary64 v y)) (negate_if n a)
  first_coordinate n r s =
      add_integer binary64 (mul binary64 u x) (mul binary64 v y) (negate_if n a) (integer 0) (negate_if n a)
      (mul_integer binary64 u x (negate_if n (integer 1)) a (negate_if n a) r p (unit_times n a) (within_negate_if exact_up_to n a h))
      (mul_integer binary64 v y (negate_if n (integer 0)) b (integer 0) s q (zero_times n b) zero_within)
      (omega arith) (within_negate_if exact_up_to n a h)

  second_coordinate : (n : Bool) → IsInteger u (negate_if n (integer 0)) → IsInteger v (negate_if n (integer 1))
      → IsInteger (add binary64 (mul binary64 u x) (mul binary64 v y)) (negate_if n b)
  second_coordinate n r s =
      add_integer binary64 (mul binary64 u x) (mul binary64 v y) (integer 0) (negate_if n b) (negate_if n b)
      (mul_integer binary64 u x (negate_if n (integer 0)) a (integer 0) r p (zero_times n a) zero_within)
      (mul_integer binary64 v y (negate_if n (integer 1)) b (negate_if n b) s q (unit_times n b) (within_negate_if exact_up_to n b k))
      (omega arith) (within_negate_if exact_up_to n b k)

  coordinate_x : (s n : Bool) → IsInteger u (negate_if n (cond s (integer 0) (integer 1)))
      → IsInteger v (negate_if n (cond s (integer 1) (integer 0)))
      → IsInteger (add binary64 (mul binary64 u x) (mul binary64 v y)) (negate_if n (cond s b a))
  coordinate_x false n = first_coordinate n
  coordinate_x true n = second_coordinate n

  coordinate_y : (s n : Bool) → IsInteger u (negate_if n (cond s (integer 1) (integer 0)))
      → IsInteger v (negate_if n (cond s (integer 0) (integer 1)))
      → IsInteger (add binary64 (mul binary64 u x) (mul binary64 v y)) (negate_if n (cond s a b))
  coordinate_y false n = second_coordinate n
  coordinate_y true n = first_coordinate n

-- ---- vectors and points
pub vector_same : (v : DVec2) (i j : Vector) → i ≐ᵛ j → IsVector v i → IsVector v j
vector_same v i j e h = record { x = integer_same v.x i.x j.x e.x h.x; y = integer_same v.y i.y j.y e.y h.y }

transform_vector_exact : (p : Placement) (T : ExactPlacement) (v : DVec2) (i : Vector) → IsPlacement p T → IsVector v i
    → VectorWithin exact_up_to i
    → IsVector (transform_vector2 p v) (orient T.orientation i)
unfolding transform_vector2
transform_vector_exact p T v i h a w = record {
  x = coordinate_x p.xx p.yx v.x v.y i.x i.y a.x a.y w.x w.y T.orientation.swapped T.orientation.negate_x
      h.xx h.yx;
  y = coordinate_y p.xy p.yy v.x v.y i.x i.y a.x a.y w.x w.y T.orientation.swapped T.orientation.negate_y
      h.xy h.yy;
}

pub transform_point_exact : (p : Placement) (T : ExactPlacement) (v : DVec2) (i : Vector) → IsPlacement p T → IsVector v i
    → VectorWithin exact_up_to i → VectorWithin exact_up_to (move T i)
    → IsVector (transform_point2 p v) (move T i)
unfolding transform_point2
transform_point_exact p T v i h a w m =
    let t = transform_vector_exact p T v i h a w in
    let u = orient T.orientation i in
    record {
      x = add_integer binary64 (transform_vector2 p v).x p.tx u.x T.translation.x (move T i).x t.x h.tx refl m.x;
      y = add_integer binary64 (transform_vector2 p v).y p.ty u.y T.translation.y (move T i).y t.y h.ty refl m.y;
    }

-- ---- the product of two placements
pub axis_within : (o : Orientation) → VectorWithin exact_up_to (x_axis o) × VectorWithin exact_up_to (y_axis o)
axis_within o = (
  vector_orient exact_up_to o (record { x = integer 1; y = integer 0 }) (record { x = one_within; y = zero_within }),
  vector_orient exact_up_to o (record { x = integer 0; y = integer 1 }) (record { x = zero_within; y = one_within }),
)

pub compose_exact : (p c : Placement) (P C : ExactPlacement) → IsPlacement p P → IsPlacement c C → VectorWithin exact_up_to C.translation
    → VectorWithin exact_up_to (P ∘ C).translation
    → IsPlacement (p · c) (P ∘ C)
unfolding ◌·◌
compose_exact p c P C h k w m =
    let o = C.orientation in
    let x = transform_vector_exact p P (record { x = c.xx; y = c.xy }) (x_axis o) h (record { x = k.xx; y = k.xy }) (axis_within o).0 in
    let y = transform_vector_exact p P (record { x = c.yx; y = c.yy }) (y_axis o) h (record { x = k.yx; y = k.yy }) (axis_within o).1 in
    let t = transform_point_exact p P (record { x = c.tx; y = c.ty }) C.translation h (record { x = k.tx; y = k.ty }) w m in
    let ex = orient_compose P.orientation o (record { x = integer 1; y = integer 0 }) in
    let ey = orient_compose P.orientation o (record { x = integer 0; y = integer 1 }) in
    record {
      xx = subst (λ (v : Vector). IsInteger (p · c).xx v.x) (sym ex) x.x;
      xy = subst (λ (v : Vector). IsInteger (p · c).xy v.y) (sym ex) x.y;
      yx = subst (λ (v : Vector). IsInteger (p · c).yx v.x) (sym ey) y.x;
      yy = subst (λ (v : Vector). IsInteger (p · c).yy v.y) (sym ey) y.y;
      tx = t.x;
      ty = t.y;
    }

-- ---- the placement of the root
pub identity_exact : IsPlacement IDENTITY identity
unfolding IDENTITY
identity_exact = record { xx = refl; xy = refl; yx = refl; yy = refl; tx = refl; ty = refl }
