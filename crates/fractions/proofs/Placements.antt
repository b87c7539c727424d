-- PLACEMENTS NEAR EXACT ONES: the point that a placement moves, and the product with a child. One lemma over the coordinate, `linear_near`, serves the axes, the translations, the
-- points and the offsets of members. Assumes nothing.
use Prim.Native.Nat.{ℕ, ◌+◌, ◌*◌, ◌^◌, ◌≤◌, ◌<◌}
use native.Mathlib.Omega.{arith}
use lib.Ieee.{Float}
use Rattle.geometry.specs.declared.placement.DVec2.{DVec2}
use Rattle.geometry.specs.declared.placement.Placement.{Placement}
use Rattle.geometry.specs.Rounded.{◌⊕◌, ◌⊗◌}
use Rattle.geometry.specs.Placement.{transform_vector2, transform_point2, ◌·◌, vec}
use Rattle.fractions.specs.Fraction.{Fraction, ◌⊞◌, ◌⊠◌}
use Rattle.fractions.specs.Placement.{FractionVector, FractionPlacement, linear, move, ◌∘◌}
use Rattle.fractions.specs.Errors.{product_error, linear_error, move_error}
use Rattle.fractions.proofs.Approximates.{Approximates, add_near, mul_near}

-- ---- one coordinate: a x + b y, and a x + b y + t

module _ (a b x y : Float) (u v w z : Fraction) (E B F C : ℕ) (pa : Approximates a u E B) (pb : Approximates b v E B) (px : Approximates x w F C) (py : Approximates y z F C)
    (small : E * F ≤ 2 ^ 53) where
  pub linear_near : linear_error E B F C ≤ 2 ^ 53 → B * C + B * C < 2 ^ 60 → Approximates (a ⊗ x ⊕ b ⊗ y) (u ⊠ w ⊞ v ⊠ z) (linear_error E B F C) (B * C + B * C)
  linear_near e s =
      add_near (a ⊗ x) (b ⊗ y) (u ⊠ w) (v ⊠ z) (product_error E B F C) (B * C) (product_error E B F C) (B * C)
      (mul_near a x u w E B F C pa px small (omega arith) (omega arith)) (mul_near b y v z E B F C pb py small (omega arith) (omega arith)) (omega arith) s

  pub move_near : (t : Float) (o : Fraction) (G D : ℕ) → Approximates t o G D → linear_error E B F C + G ≤ 2 ^ 53 → B * C + B * C + D < 2 ^ 60
      → Approximates (a ⊗ x ⊕ b ⊗ y ⊕ t) (u ⊠ w ⊞ v ⊠ z ⊞ o) (move_error E B F C G D) (B * C + B * C + D)
  move_near t o G D pt e s =
      add_near (a ⊗ x ⊕ b ⊗ y) t (u ⊠ w ⊞ v ⊠ z) o (linear_error E B F C) (B * C + B * C) G D (linear_near (omega arith) (omega arith)) pt e s

-- ---- vectors and placements

-- each coordinate is F off and C large at most
pub record NearVector (v : DVec2) (o : FractionVector) (F C : ℕ) : Type 0 where
  pub x : Approximates v.x o.x F C
  pub y : Approximates v.y o.y F C

-- each coordinate of the axes is E off and B large at most, each of the translation G off and D large
pub record NearPlacement (p : Placement) (T : FractionPlacement) (E B G D : ℕ) : Type 0 where
  pub xx : Approximates p.xx T.x_axis.x E B
  pub xy : Approximates p.xy T.x_axis.y E B
  pub yx : Approximates p.yx T.y_axis.x E B
  pub yy : Approximates p.yy T.y_axis.y E B
  pub tx : Approximates p.tx T.translation.x G D
  pub ty : Approximates p.ty T.translation.y G D

module _ (p : Placement) (T : FractionPlacement) (E B G D : ℕ) (h : NearPlacement p T E B G D) where
  module _ (v : DVec2) (o : FractionVector) (F C : ℕ) (k : NearVector v o F C) (small : E * F ≤ 2 ^ 53) where
    vector_near : linear_error E B F C ≤ 2 ^ 53 → B * C + B * C < 2 ^ 60 → NearVector (transform_vector2 p v) (linear T o) (linear_error E B F C) (B * C + B * C)
    unfolding transform_vector2
    vector_near e s = record {
      x = linear_near p.xx p.yx v.x v.y T.x_axis.x T.y_axis.x o.x o.y E B F C h.xx h.yx k.x k.y small e s;
      y = linear_near p.xy p.yy v.x v.y T.x_axis.y T.y_axis.y o.x o.y E B F C h.xy h.yy k.x k.y small e s;
    }

    pub point_near : linear_error E B F C + G ≤ 2 ^ 53 → B * C + B * C + D < 2 ^ 60 → NearVector (transform_point2 p v) (move T o) (move_error E B F C G D) (B * C + B * C + D)
    unfolding transform_point2 transform_vector2
    point_near e s = record {
      x = move_near p.xx p.yx v.x v.y T.x_axis.x T.y_axis.x o.x o.y E B F C h.xx h.yx k.x k.y small p.tx T.translation.x G D h.tx e s;
      y = move_near p.xy p.yy v.x v.y T.x_axis.y T.y_axis.y o.x o.y E B F C h.xy h.yy k.x k.y small p.ty T.translation.y G D h.ty e s;
    }

  -- the product with a child, whose bounds are E', B', G', D'
  pub product_near : (c : Placement) (C : FractionPlacement) (E' B' G' D' : ℕ) → NearPlacement c C E' B' G' D' → E * E' ≤ 2 ^ 53 → linear_error E B E' B' ≤ 2 ^ 53 → B * B' + B * B' < 2 ^ 60
      → E * G' ≤ 2 ^ 53 → linear_error E B G' D' + G ≤ 2 ^ 53 → B * D' + B * D' + D < 2 ^ 60
      → NearPlacement (p · c) (T ∘ C) (linear_error E B E' B') (B * B' + B * B') (move_error E B G' D' G D) (B * D' + B * D' + D)
  unfolding ◌·◌
  product_near c C E' B' G' D' k small e s small' e' s' =
      let x = vector_near (vec c.xx c.xy) C.x_axis E' B' (record { x = k.xx; y = k.xy }) small e s in
      let y = vector_near (vec c.yx c.yy) C.y_axis E' B' (record { x = k.yx; y = k.yy }) small e s in
      let t = point_near (vec c.tx c.ty) C.translation G' D' (record { x = k.tx; y = k.ty }) small' e' s' in
      record { xx = x.x; xy = x.y; yx = y.x; yy = y.y; tx = t.x; ty = t.y }
