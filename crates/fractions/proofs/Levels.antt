-- REFERENCE BY REFERENCE: the placement below n references lies near the exact one by the bounds of `Errors` at n, and so does a position that it moves, for n up to eight. The
-- bounds grow with n, so that what is asked of them is asked at eight alone. Assumes nothing.
use mathlib.Core.Path.{◌≡◌, subst}
use mathlib.Core.Logic.{◌⊎◌, inl, inr}
use Prim.Native.Nat.{ℕ, zero, suc, ◌*◌, ◌^◌, ◌≤◌, ◌<◌}
use native.Mathlib.Omega.{arith}
use lib.Dec.{lit≤}
use Rattle.floats.specs.Order.{is_finite}
use Rattle.rounding.proofs.Naturals.{lt_or_ge}
use Rattle.geometry.specs.declared.placement.DVec2.{DVec2}
use Rattle.geometry.specs.declared.placement.Placement.{Placement}
use Rattle.geometry.specs.Placement.{IDENTITY, transform_point2, ◌·◌, zero_float, one_float}
use Rattle.grid.specs.declared.Grid.{Grid}
use Rattle.grid.specs.Grid.{grid_member_transform}
use Rattle.fractions.specs.Fraction.{value_of}
use Rattle.fractions.specs.Placement.{vector_of, FractionPlacement, identity, move, ◌∘◌, member_placement}
use Rattle.fractions.specs.Bounds.{SlantedVector, SlantedGrid}
use Rattle.fractions.specs.Errors.{member_axis_error, member_bound, member_shift_error, axis_bound, axis_error, shift_bound, shift_error, position_bound, position_error, most_bounded}
use Rattle.fractions.proofs.Approximates.{Approximates, approx_own}
use Rattle.fractions.proofs.Placements.{NearVector, NearPlacement, point_near, product_near}
use Rattle.fractions.proofs.Member.{number_near, member_near}

-- ---- the bounds grow

grows : (f : ℕ → ℕ) → ((n : ℕ) → f n ≤ f (suc n)) → (n m : ℕ) → n ≤ m → f n ≤ f m
grows f step n zero l = let e : n ≡ 0 = omega arith in subst (λ (k : ℕ). f n ≤ f k) e (omega arith)
grows f step n (suc m) l = by (lt_or_ge m n) (λ k. grows f step n m k)
  where
    by : (m < n) ⊎ (n ≤ m) → (n ≤ m → f n ≤ f m) → f n ≤ f (suc m)
    by (inl k) g = let e : n ≡ suc m = omega arith in subst (λ (k : ℕ). f n ≤ f k) e (omega arith)
    by (inr k) g = let a = g k in let b = step m in omega arith

axis_bound_grows : (n : ℕ) → axis_bound n ≤ axis_bound (suc n)
unfolding axis_bound
axis_bound_grows n = omega arith

axis_error_grows : (n : ℕ) → axis_error n ≤ axis_error (suc n)
unfolding axis_error
axis_error_grows n = omega arith

shift_bound_grows : (n : ℕ) → shift_bound n ≤ shift_bound (suc n)
unfolding shift_bound
shift_bound_grows n = omega arith

shift_error_grows : (n : ℕ) → shift_error n ≤ shift_error (suc n)
unfolding shift_error
shift_error_grows n = omega arith

position_error_grows : (n : ℕ) → position_error n ≤ position_error (suc n)
unfolding position_error
position_error_grows n =
    let a = axis_bound_grows n in
    let b = axis_error_grows n in
    let c = shift_bound_grows n in
    let d = shift_error_grows n in
    omega arith

-- ---- up to eight references

record Bounded (n : ℕ) : Type 0 where
  axis_bound≤ : axis_bound n ≤ 2 ^ 8
  axis_error≤ : axis_error n ≤ 2 ^ 14
  shift_bound≤ : shift_bound n ≤ 2 ^ 45
  shift_error≤ : shift_error n ≤ 2 ^ 51

bounded : (n : ℕ) → n ≤ most_bounded → Bounded n
unfolding axis_bound axis_error shift_bound shift_error
bounded n l =
    let a = grows axis_bound axis_bound_grows n most_bounded l in
    let b = grows axis_error axis_error_grows n most_bounded l in
    let c = grows shift_bound shift_bound_grows n most_bounded l in
    let d = grows shift_error shift_error_grows n most_bounded l in
    record {
      axis_bound≤ = let k : axis_bound most_bounded ≤ 2 ^ 8 = lit≤ tt in omega arith;
      axis_error≤ = let k : axis_error most_bounded ≤ 2 ^ 14 = lit≤ tt in omega arith;
      shift_bound≤ = let k : shift_bound most_bounded ≤ 2 ^ 45 = lit≤ tt in omega arith;
      shift_error≤ = let k : shift_error most_bounded ≤ 2 ^ 51 = lit≤ tt in omega arith;
    }

-- ---- a placement below n references

abbrev pub NearAtLevel : ℕ → Placement → FractionPlacement → Type 0
NearAtLevel n p T = NearPlacement p T (axis_error n) (axis_bound n) (shift_error n) (shift_bound n)

pub identity_near : NearAtLevel 0 IDENTITY identity
unfolding IDENTITY is_finite axis_bound axis_error shift_bound shift_error
identity_near = record { xx = one; xy = zero_axis; yx = zero_axis; yy = one; tx = zero_shift; ty = zero_shift }
  where
    one : Approximates one_float (value_of one_float) 0 1
    one = approx_own one_float 1 tt (record { above = lit≤ tt; below = lit≤ tt })

    zero_axis : Approximates zero_float (value_of zero_float) 0 1
    zero_axis = approx_own zero_float 1 tt (record { above = lit≤ tt; below = lit≤ tt })

    zero_shift : Approximates zero_float (value_of zero_float) 0 0
    zero_shift = approx_own zero_float 0 tt (record { above = lit≤ tt; below = lit≤ tt })

-- through one reference more
pub member_level : (n : ℕ) → n < most_bounded → (p : Placement) (T : FractionPlacement) → NearAtLevel n p T → (g : Grid) → SlantedGrid g → (column row : ℕ) → column < g.columns → row < g.rows
    → NearAtLevel (suc n) (p · grid_member_transform g column row) (T ∘ member_placement g column row)
unfolding axis_bound axis_error shift_bound shift_error
member_level n n< p T h g s column row c< r< =
    let k = bounded n (omega arith) in
    let a = k.axis_bound≤ in
    let b = k.axis_error≤ in
    let c = k.shift_bound≤ in
    let d = k.shift_error≤ in
    product_near p T (axis_error n) (axis_bound n) (shift_error n) (shift_bound n) h (grid_member_transform g column row) (member_placement g column row) member_axis_error 1 member_shift_error member_bound
    (member_near g s column row (omega (arith, s.columns)) (omega (arith, s.rows)))
    (omega arith) (omega arith) (omega arith) (omega arith) (omega arith) (omega arith)

-- a position that it moves
pub position_near : (n : ℕ) → n ≤ most_bounded → (p : Placement) (T : FractionPlacement) → NearAtLevel n p T → (v : DVec2) → SlantedVector v
    → NearVector (transform_point2 p v) (move T (vector_of v)) (position_error n) (position_bound n)
unfolding position_error position_bound
position_near n n≤ p T h v s =
    let k = bounded n n≤ in
    let a = k.axis_bound≤ in
    let b = k.axis_error≤ in
    let c = k.shift_bound≤ in
    let d = k.shift_error≤ in
    point_near p T (axis_error n) (axis_bound n) (shift_error n) (shift_bound n) h v (vector_of v) 0 (2 ^ 24) (record { x = number_near (2 ^ 24) v.x s.x; y = number_near (2 ^ 24) v.y s.y })
    (omega arith) (omega arith) (omega arith)

-- ---- within E / 2 ^ (53 − l)

-- if the bound at the most references is so small, that at fewer is
pub positions_within : (most E l : ℕ) → position_error most ≤ E * 2 ^ l → (n : ℕ) → n ≤ most → position_error n ≤ E * 2 ^ l
positions_within most E l h n n≤ = let k = grows position_error position_error_grows n most n≤ in omega arith
