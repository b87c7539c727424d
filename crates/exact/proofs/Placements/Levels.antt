-- Level by level: a placement of level n is exact, and so is what it moves, down to the deepest level. Assumes nothing.
use Prim.Native.Nat.{ℕ, suc, ◌+◌, ◌*◌, ◌^◌, ◌≤◌}
use native.Mathlib.Omega.{arith}
use Rattle.geometry.specs.declared.placement.DVec2.{DVec2}
use Rattle.geometry.specs.declared.placement.Placement.{Placement}
use Rattle.grid.specs.declared.Grid.{Grid}
use Rattle.geometry.specs.Placement.{transform_point2, ◌·◌}
use Rattle.grid.specs.Grid.{grid_member_transform}
use Rattle.exact.specs.IsInteger.{exact_up_to}
use Rattle.exact.specs.Placement.{Vector, VectorWithin, orient, ExactPlacement, identity, move, ◌∘◌, IsVector, IsPlacement, member_reach, AtLevel, deepest_level}
use Rattle.exact.specs.Member.{IntegerGrid, member_placement, IsGrid}
use Rattle.exact.proofs.Integers.Bounds.{within_natural, vector_widen, vector_sum, vector_orient}
use Rattle.exact.proofs.Placements.Moving.{transform_point_exact, compose_exact}
use Rattle.exact.proofs.Placements.Member.{member_within, member_transform_exact}

pub identity_level : AtLevel 0 identity
identity_level = record { x = within_natural (0 * member_reach) 0 (omega arith); y = within_natural (0 * member_reach) 0 (omega arith) }

-- each member adds at most its reach
compose_level : (n : ℕ) (P C : ExactPlacement) → AtLevel n P → VectorWithin member_reach C.translation → AtLevel (suc n) (P ∘ C)
compose_level n P C h k =
    vector_widen (member_reach + n * member_reach) (suc n * member_reach) (P ∘ C).translation (omega arith)
    (vector_sum member_reach (n * member_reach) (orient P.orientation C.translation) P.translation
    (vector_orient member_reach P.orientation C.translation k) h)

module _ (n : ℕ) (n≤ : n ≤ deepest_level) (p : Placement) (T : ExactPlacement) (h : IsPlacement p T) (l : AtLevel n T) where
  -- a point within 2 ^ 48, such as a corner of a reference's box, is moved exactly
  pub level_point_exact : (v : DVec2) (i : Vector) → IsVector v i → VectorWithin (2 ^ 48) i → IsVector (transform_point2 p v) (move T i)
  level_point_exact v i a w =
      transform_point_exact p T v i h a (vector_widen (2 ^ 48) exact_up_to i (omega arith) w)
      (vector_widen (2 ^ 48 + n * member_reach) exact_up_to (move T i) (omega arith)
      (vector_sum (2 ^ 48) (n * member_reach) (orient T.orientation i) T.translation (vector_orient (2 ^ 48) T.orientation i w) l))

  -- one level down, through a member
  pub level_member_exact : (g : Grid) (z : IntegerGrid) (c r : ℕ) → IsGrid g z → c ≤ 32767 → r ≤ 32767
      → IsPlacement (p · grid_member_transform g c r) (T ∘ member_placement z c r) × AtLevel (suc n) (T ∘ member_placement z c r)
  level_member_exact g z c r k c≤ r≤ =
      let C = member_placement z c r in
      let near = member_within z c r c≤ r≤ k.within in
      let next = compose_level n T C l near in (
        compose_exact p (grid_member_transform g c r) T C h (member_transform_exact g z c r k c≤ r≤)
            (vector_widen member_reach exact_up_to C.translation (omega arith) near)
            (vector_widen (suc n * member_reach) exact_up_to (T ∘ C).translation (omega arith) next),
        next,
      )
