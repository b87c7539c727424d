-- FLOATS NEAR EXACT FRACTIONS: finite, and so many units of 2 ^ -53 off at most. Sum, product and fused operation of such floats are near the exact results; all go through
-- `rounded_near`. Assumes nothing.
use mathlib.Core.Path.{◌≡◌, refl, sym, subst}
use mathlib.Core.Bool.{Bool, true, false}
use Prim.Native.Nat.{ℕ, suc, ◌+◌, ◌*◌, ◌^◌, ◌≤◌, ◌<◌}
use native.Mathlib.Omega.{arith}
use lib.IntN.{pos}
use lib.Ieee.{Float, nan, inf, fin, binary64, up, round, add, mul, neg, of_int}
use lib.Ieee.Exact.{HasValue}
use lib.Ieee.Back.{round_whole}
use Rattle.floats.specs.Order.{is_finite}
use Rattle.fused.specs.Fma.{fma}
use Rattle.exact.specs.Integer.{integer, negate_if}
use Rattle.fractions.specs.Fraction.{Fraction, fraction, ◌⊞◌, opposite, ◌⊟◌, ◌⊠◌, AtMost, Finite, places_of, value_of}
use Rattle.fractions.specs.Errors.{product_error}
use Rattle.fractions.proofs.Magnitudes.{most_coarse, most_sum, most_opposite, most_product}
use Rattle.fractions.proofs.Differences.{near_opposite, near_way, near_sum, near_product, most_near}
use Rattle.fractions.proofs.Rounding.{Rounds, down_is}
use Rattle.fractions.proofs.Operations.{add_rounds, mul_rounds, fma_rounds}

-- x is finite, at most E units of 2 ^ -53 from v, and v is at most B in magnitude
pub record Approximates (x : Float) (v : Fraction) (E B : ℕ) : Type 0 where
  pub finite : Finite x
  pub near : AtMost E 53 (value_of x ⊟ v)
  pub most : AtMost B 0 v

-- a float is its own value
no_difference : (v : Fraction) → AtMost 0 53 (v ⊟ v)
no_difference v = record { above = omega arith; below = omega arith }

pub approx_own : (x : Float) (B : ℕ) → Finite x → AtMost B 0 (value_of x) → Approximates x (value_of x) 0 B
approx_own x B p h = record { finite = p; near = no_difference (value_of x); most = h }

-- a fraction r that is rounded to x, and lies near v
rounded_near : (x : Float) (r v : Fraction) (E B : ℕ) → Rounds binary64 x r → AtMost E 53 (r ⊟ v) → AtMost B 0 v → E ≤ 2 ^ 53 → B < 2 ^ 60 → Approximates x v (suc B + E) B
rounded_near x r v E B rounds near most e b =
    let k = rounds (suc B) (omega arith) b (most_coarse (B * 2 ^ 53 + E) (suc B) 0 53 r (omega arith) (most_near B E 53 r v most near)) in
    record { finite = k.0; near = near_way (suc B) E 53 (value_of x) r v k.1 near; most = most }

-- ---- the operations
module _ (x y : Float) (v w : Fraction) (E B F C : ℕ) (p : Approximates x v E B) (q : Approximates y w F C) where
  pub add_near : E + F ≤ 2 ^ 53 → B + C < 2 ^ 60 → Approximates (add binary64 x y) (v ⊞ w) (suc (B + C) + (E + F)) (B + C)
  add_near e b =
      rounded_near (add binary64 x y) (value_of x ⊞ value_of y) (v ⊞ w) (E + F) (B + C) (add_rounds binary64 x y p.finite q.finite)
      (near_sum E F 53 (value_of x) (value_of y) v w p.near q.near) (most_sum B C 0 v w p.most q.most) e b

  -- the exact product of the floats
  product_near : E * F ≤ 2 ^ 53 → AtMost (E * C + 1 + B * F) 53 (value_of x ⊠ value_of y ⊟ v ⊠ w)
  product_near d = near_product E B F C 53 (value_of x) (value_of y) v w p.near p.most q.near q.most d

  pub mul_near : E * F ≤ 2 ^ 53 → E * C + 1 + B * F ≤ 2 ^ 53 → B * C < 2 ^ 60 → Approximates (mul binary64 x y) (v ⊠ w) (product_error E B F C) (B * C)
  mul_near d e b =
      rounded_near (mul binary64 x y) (value_of x ⊠ value_of y) (v ⊠ w) (E * C + 1 + B * F) (B * C) (mul_rounds binary64 x y p.finite q.finite)
      (product_near d) (most_product B C 0 0 v w p.most q.most) e b

  pub fma_near : (z : Float) (u : Fraction) (G D : ℕ) → Approximates z u G D → E * F ≤ 2 ^ 53 → E * C + 1 + B * F + G ≤ 2 ^ 53 → B * C + D < 2 ^ 60
      → Approximates (fma binary64 x y z) (v ⊠ w ⊞ u) (suc (B * C + D) + (E * C + 1 + B * F + G)) (B * C + D)
  fma_near z u G D r d e b =
      rounded_near (fma binary64 x y z) (value_of x ⊠ value_of y ⊞ value_of z) (v ⊠ w ⊞ u) (E * C + 1 + B * F + G) (B * C + D) (fma_rounds binary64 x y z p.finite q.finite r.finite)
      (near_sum (E * C + 1 + B * F) G 53 (value_of x ⊠ value_of y) (value_of z) (v ⊠ w) u (product_near d) r.near) (most_sum (B * C) D 0 (v ⊠ w) u (most_product B C 0 0 v w p.most q.most) r.most) e b

neg_value : (x : Float) → value_of (neg x) ≡ opposite (value_of x)
unfolding neg
neg_value nan = refl
neg_value (inf s) = refl
neg_value (fin false m e) = refl
neg_value (fin true m e) = refl

neg_finite : (x : Float) → Finite x → Finite (neg x)
unfolding neg is_finite
neg_finite nan p = p
neg_finite (inf s) p = p
neg_finite (fin s m e) p = tt

pub neg_near : (x : Float) (v : Fraction) (E B : ℕ) → Approximates x v E B → Approximates (neg x) (opposite v) E B
neg_near x v E B p = record {
  finite = neg_finite x p.finite;
  near = subst (λ (z : Fraction). AtMost E 53 (z ⊟ opposite v)) (sym (neg_value x)) (near_opposite E 53 (value_of x) v p.near);
  most = most_opposite B 0 v p.most;
}

-- ---- a column or a row as a float
natural_value : (x : Float) (n : ℕ) → HasValue x false n 1 → Finite x × AtMost 0 53 (value_of x ⊟ fraction n)
unfolding is_finite
natural_value nan n h = absurd h
natural_value (inf s) n h = absurd h
natural_value (fin t m e) n h =
    let k : m * up e * 1 ≡ n * 2 ^ places_of e = subst (λ (z : ℕ). m * up e * 1 ≡ n * z) (down_is e) h.1 in
    (tt, subst (λ (t : Bool). AtMost 0 53 (record { num = negate_if t (integer (m * up e)); places = places_of e } ⊟ fraction n)) (sym h.0) (record { above = omega arith; below = omega arith }))

pub natural_near : (n B : ℕ) → n ≤ B → B ≤ 2 ^ 53 → Approximates (of_int binary64 (pos n)) (fraction n) 0 B
unfolding of_int
natural_near n B l b =
    let k = natural_value (round binary64 false n 1) n (round_whole binary64 false n (omega arith)) in
    record { finite = k.0; near = k.1; most = record { above = omega arith; below = omega arith } }
