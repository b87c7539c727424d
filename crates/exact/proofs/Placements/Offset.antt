-- A member's offset, `spacing_x * column + spacing_y * row`, and the offset rotated in fused steps. Assumes nothing.
use mathlib.Core.Path.{refl}
use mathlib.Core.Bool.{true, false}
use Prim.Native.Nat.{ℕ, ◌+◌, ◌*◌, ◌^◌, ◌≤◌}
use native.Mathlib.Omega.{arith}
use lib.Ieee.{Float, binary64, round, add, mul, neg, of_int}
use lib.Ieee.Back.{round_whole}
use Rattle.fused.specs.Fma.{fma}
use Rattle.geometry.specs.declared.placement.DVec2.{DVec2}
use Rattle.grid.specs.declared.Grid.{Grid}
use Rattle.grid.specs.Grid.{f64_from, offset, rotated}
use Rattle.exact.specs.Integer.{Integer, integer, ◌⊕◌, ◌⊗◌, negate, ◌≐◌, Within}
use Rattle.exact.specs.IsInteger.{IsInteger, exact_up_to}
use Rattle.exact.specs.Placement.{Vector, VectorWithin, orient, IsVector}
use Rattle.exact.specs.Member.{Rotation, degrees0, degrees90, degrees180, degrees270, cosine, sine, rotation, IntegerGrid, member_offset, GridWithin, IsGrid}
use Rattle.exact.proofs.Integers.Bounds.{within_negate_if, within_widen, within_sum, within_times}
use Rattle.exact.proofs.Floats.Rounding.{value_integer}
use Rattle.exact.proofs.Floats.Sum.{add_integer, neg_integer}
use Rattle.exact.proofs.Floats.Product.{mul_integer, fma_integer}
use Rattle.exact.proofs.Placements.Moving.{zero_within}

-- ---- the offset
f64_from_integer : (n : ℕ) → n ≤ 32767 → IsInteger (f64_from n) (integer n)
unfolding of_int
f64_from_integer n h = value_integer (round binary64 false n 1) false n (integer n) (omega arith) (round_whole binary64 false n (omega arith))

-- a spacing times a column or a row
times_f64_from : (n : ℕ) (x : Float) (i : Integer) → n ≤ 32767 → IsInteger x i → Within (2 ^ 31) i → IsInteger (mul binary64 x (f64_from n)) (i ⊗ integer n)
times_f64_from n x i n≤ p w =
    mul_integer binary64 x (f64_from n) i (integer n) (i ⊗ integer n) p (f64_from_integer n n≤) refl
    (within_widen (2 ^ 31 * 32767) exact_up_to (i ⊗ integer n) (omega arith) (within_times (2 ^ 31) 32767 n i n≤ w))

abbrev pub offset_reach : ℕ
offset_reach = 2 ^ 31 * 32767 + 2 ^ 31 * 32767

-- one coordinate: two spacings within 2 ^ 31, times a column and a row
module _ (c r : ℕ) (c≤ : c ≤ 32767) (r≤ : r ≤ 32767) (i j : Integer) (v : Within (2 ^ 31) i) (w : Within (2 ^ 31) j) where
  offset_within : Within offset_reach (i ⊗ integer c ⊕ j ⊗ integer r)
  offset_within =
      within_sum (2 ^ 31 * 32767) (2 ^ 31 * 32767) (i ⊗ integer c) (j ⊗ integer r)
      (within_times (2 ^ 31) 32767 c i c≤ v) (within_times (2 ^ 31) 32767 r j r≤ w)

  offset_exact : (x y : Float) → IsInteger x i → IsInteger y j
      → IsInteger (add binary64 (mul binary64 x (f64_from c)) (mul binary64 y (f64_from r))) (i ⊗ integer c ⊕ j ⊗ integer r)
  offset_exact x y p q =
      add_integer binary64 (mul binary64 x (f64_from c)) (mul binary64 y (f64_from r)) (i ⊗ integer c) (j ⊗ integer r) _
      (times_f64_from c x i c≤ p v) (times_f64_from r y j r≤ q w) refl
      (within_widen offset_reach exact_up_to (i ⊗ integer c ⊕ j ⊗ integer r) (omega arith) offset_within)

pub offset_is : (g : Grid) (z : IntegerGrid) (c r : ℕ) → IsGrid g z → c ≤ 32767 → r ≤ 32767 → IsVector (offset g c r) (member_offset z c r)
unfolding offset
offset_is g z c r h c≤ r≤ = record {
  x = offset_exact c r c≤ r≤ _ _ h.within.spacing_x.x h.within.spacing_y.x _ _ h.spacing_x.x h.spacing_y.x;
  y = offset_exact c r c≤ r≤ _ _ h.within.spacing_x.y h.within.spacing_y.y _ _ h.spacing_x.y h.spacing_y.y;
}

module _ (z : IntegerGrid) (c r : ℕ) (c≤ : c ≤ 32767) (r≤ : r ≤ 32767) (w : GridWithin z) where
  pub member_offset_within : VectorWithin offset_reach (member_offset z c r)
  member_offset_within = record {
    x = offset_within c r c≤ r≤ z.spacing_x.x z.spacing_y.x w.spacing_x.x w.spacing_y.x;
    y = offset_within c r c≤ r≤ z.spacing_x.y z.spacing_y.y w.spacing_x.y w.spacing_y.y;
  }

-- ---- the rotated offset: in each case one of the two products is 0, and the other has the magnitude of a coordinate
module _ (x y c s : Float) (i j k l m n : Integer) (p : IsInteger x i) (q : IsInteger y j) (u : IsInteger c k) (t : IsInteger s l) where
  fused_x : j ⊗ l ≐ m → i ⊗ k ⊕ negate m ≐ n → Within exact_up_to m → Within exact_up_to n → IsInteger (fma binary64 x c (neg (mul binary64 y s))) n
  fused_x e f v w =
      let product = mul_integer binary64 y s j l m q t e v in
      fma_integer binary64 x c (neg (mul binary64 y s)) i k (negate m) n p u (neg_integer (mul binary64 y s) m product) f w

  fused_y : j ⊗ k ≐ m → i ⊗ l ⊕ m ≐ n → Within exact_up_to m → Within exact_up_to n → IsInteger (fma binary64 x s (mul binary64 y c)) n
  fused_y e f v w = fma_integer binary64 x s (mul binary64 y c) i l m n p t (mul_integer binary64 y c j k m q u e v) f w

pub rotated_exact : (a : Rotation) (v : DVec2) (i : Vector) (c s : Float) → IsVector v i → IsInteger c (cosine a) → IsInteger s (sine a)
    → VectorWithin exact_up_to i → IsVector (rotated v c s) (orient (rotation a) i)
unfolding rotated
rotated_exact degrees0 v o c s p u t w =
    let i = o.x in
    let j = o.y in
    record {
      x = fused_x v.x v.y c s i j (integer 1) (integer 0) (integer 0) i p.x p.y u t (omega arith) (omega arith) zero_within w.x;
      y = fused_y v.x v.y c s i j (integer 1) (integer 0) j j p.x p.y u t (omega arith) (omega arith) w.y w.y;
    }
rotated_exact degrees90 v o c s p u t w =
    let i = o.x in
    let j = o.y in
    let wj = within_negate_if exact_up_to true j w.y in
    record {
      x = fused_x v.x v.y c s i j (integer 0) (integer 1) j (negate j) p.x p.y u t (omega arith) (omega arith) w.y wj;
      y = fused_y v.x v.y c s i j (integer 0) (integer 1) (integer 0) i p.x p.y u t (omega arith) (omega arith) zero_within w.x;
    }
rotated_exact degrees180 v o c s p u t w =
    let i = o.x in
    let j = o.y in
    let wi = within_negate_if exact_up_to true i w.x in
    let wj = within_negate_if exact_up_to true j w.y in
    record {
      x = fused_x v.x v.y c s i j (negate (integer 1)) (integer 0) (integer 0) (negate i) p.x p.y u t (omega arith) (omega arith) zero_within wi;
      y = fused_y v.x v.y c s i j (negate (integer 1)) (integer 0) (negate j) (negate j) p.x p.y u t (omega arith) (omega arith) wj wj;
    }
rotated_exact degrees270 v o c s p u t w =
    let i = o.x in
    let j = o.y in
    let wi = within_negate_if exact_up_to true i w.x in
    let wj = within_negate_if exact_up_to true j w.y in
    record {
      x = fused_x v.x v.y c s i j (integer 0) (negate (integer 1)) (negate j) j p.x p.y u t (omega arith) (omega arith) wj w.y;
      y = fused_y v.x v.y c s i j (integer 0) (negate (integer 1)) (integer 0) (negate i) p.x p.y u t (omega arith) (omega arith) zero_within wi;
    }
