-- The least and greatest of floats that are integers: those of `transform_bbox`, which begin at an infinity, and those of `merge`, which
-- pass over a NaN. Assumes nothing.
use mathlib.Core.Path.{◌≡◌, refl, sym, ◌∙◌, subst}
use mathlib.Core.Bool.{Bool, true, false, not, cond}
use Prim.Native.Nat.{◌+◌}
use native.Mathlib.Omega.{arith}
use lib.Dec.{T, ltb→lt, nltb→le}
use lib.Ieee.{Float, nan, inf, fin, lt, is_nan}
use Rattle.floats.specs.Order.{min_num, max_num}
use Rattle.geometry.specs.Bbox.{least, greatest}
use Rattle.exact.specs.Integer.{Integer, is_below, minimum, maximum}
use Rattle.exact.specs.IsInteger.{IsInteger}
use Rattle.exact.proofs.Floats.Rounding.{integer_same}
use Rattle.exact.proofs.Floats.Order.{lt_integer}

cond_integer : (p : Bool) (x y : Float) (i : Integer) → (T p → IsInteger x i) → (T (not p) → IsInteger y i) → IsInteger (cond p x y) i
cond_integer true x y i f g = f tt
cond_integer false x y i f g = g tt

-- x if x < y, else y; and the other way round
module _ (x y : Float) (i j : Integer) (p : IsInteger x i) (q : IsInteger y j) where
  lower_integer : IsInteger (cond (lt x y) x y) (minimum i j)
  lower_integer =
      subst (λ (b : Bool). IsInteger (cond b x y) (minimum i j)) (sym (lt_integer x y i j p q))
      (cond_integer (is_below i j) x y (minimum i j)
      (λ h. let k = ltb→lt (i.pos + j.neg) (j.pos + i.neg) h in integer_same x i (minimum i j) (omega arith) p)
      (λ h. let k = nltb→le (i.pos + j.neg) (j.pos + i.neg) h in integer_same y j (minimum i j) (omega arith) q))

  upper_integer : IsInteger (cond (lt x y) y x) (maximum i j)
  upper_integer =
      subst (λ (b : Bool). IsInteger (cond b y x) (maximum i j)) (sym (lt_integer x y i j p q))
      (cond_integer (is_below i j) y x (maximum i j)
      (λ h. let k = ltb→lt (i.pos + j.neg) (j.pos + i.neg) h in integer_same y j (maximum i j) (omega arith) q)
      (λ h. let k = nltb→le (i.pos + j.neg) (j.pos + i.neg) h in integer_same x i (maximum i j) (omega arith) p))

swap_minimum : (x : Float) (i j : Integer) → IsInteger x (minimum i j) → IsInteger x (minimum j i)
swap_minimum x i j = integer_same x (minimum i j) (minimum j i) (omega arith)

swap_maximum : (x : Float) (i j : Integer) → IsInteger x (maximum i j) → IsInteger x (maximum j i)
swap_maximum x i j = integer_same x (maximum i j) (maximum j i) (omega arith)

-- ---- `transform_bbox`
pub least_integer : (x y : Float) (i j : Integer) → IsInteger x i → IsInteger y j → IsInteger (least x y) (minimum i j)
unfolding least
least_integer x y i j p q = lower_integer x y i j p q

pub greatest_integer : (x y : Float) (i j : Integer) → IsInteger x i → IsInteger y j → IsInteger (greatest x y) (maximum i j)
unfolding greatest
greatest_integer x y i j p q = swap_maximum (greatest x y) j i (upper_integer y x j i q p)

pub least_first : (x : Float) (i : Integer) → IsInteger x i → IsInteger (least (inf false) x) i
unfolding lt least
least_first nan i p = p
least_first (inf s) i p = absurd p
least_first (fin s m e) i p = p

pub greatest_first : (x : Float) (i : Integer) → IsInteger x i → IsInteger (greatest (inf true) x) i
unfolding lt greatest
greatest_first nan i p = p
greatest_first (inf s) i p = absurd p
greatest_first (fin s m e) i p = p

-- ---- `merge`
no_nan : (x : Float) (i : Integer) (y z : Float) → IsInteger x i → cond (is_nan x) y z ≡ z
unfolding is_nan
no_nan nan i y z h = absurd h
no_nan (inf s) i y z h = refl
no_nan (fin s m e) i y z h = refl

no_nans : (x y z : Float) (i j : Integer) → IsInteger x i → IsInteger y j → cond (is_nan x) y (cond (is_nan y) x z) ≡ z
no_nans x y z i j p q = no_nan x i y (cond (is_nan y) x z) p ∙ no_nan y j x z q

pub min_num_integer : (x y : Float) (i j : Integer) → IsInteger x i → IsInteger y j → IsInteger (min_num x y) (minimum i j)
unfolding min_num
min_num_integer x y i j p q =
    subst (λ (z : Float). IsInteger z (minimum i j)) (sym (no_nans x y (cond (lt y x) y x) i j p q))
    (swap_minimum (cond (lt y x) y x) j i (lower_integer y x j i q p))

pub max_num_integer : (x y : Float) (i j : Integer) → IsInteger x i → IsInteger y j → IsInteger (max_num x y) (maximum i j)
unfolding max_num
max_num_integer x y i j p q =
    subst (λ (z : Float). IsInteger z (maximum i j)) (sym (no_nans x y (cond (lt x y) y x) i j p q)) (upper_integer x y i j p q)
