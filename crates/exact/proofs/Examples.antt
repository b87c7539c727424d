-- One grid, computed: 2 columns and 3 rows, reflected and rotated by 90 degrees. The rules' floats and the exact placement agree on it,
-- so the hypotheses can be met. And the bound of 2 ^ 53 is sharp. Assumes nothing.
use mathlib.Core.Path.{◌≡◌, refl, subst}
use mathlib.Core.Logic.{inl}
use mathlib.Core.Bool.{true, false}
use mathlib.Core.List.{[], ◌∷◌}
use Prim.Native.Nat.{ℕ, ◌+◌, ◌*◌, ◌^◌}
use native.Mathlib.Omega.{arith}
use lib.IntN.{pos}
use lib.Ieee.{Float, fin, binary64, neg, add, of_int}
use Rattle.geometry.specs.declared.placement.DVec2.{DVec2}
use Rattle.grid.specs.declared.Grid.{Grid}
use Rattle.geometry.specs.Placement.{vec, from_cols, zero_float, one_float, transform_point2, ◌·◌}
use Rattle.geometry.specs.Bbox.{bbox, boxed}
use Rattle.grid.proofs.Opened.{opened}
use Rattle.grid.specs.Grid.{grid_member_transform, reference_bbox}
use Rattle.exact.specs.Integer.{integer}
use Rattle.exact.specs.IsInteger.{IsInteger, exact_up_to}
use Rattle.exact.specs.Placement.{Vector, ◌≐ᵛ◌, IsPlacement}
use Rattle.exact.specs.Member.{degrees90, reflected_rotation, member_placement, IsGrid, grid_of}
use Rattle.exact.specs.Manual.{manual_place, single_member, manual_along}
use Rattle.exact.specs.Box.{SameBox, box_of, reference_box}
use Rattle.exact.proofs.Integers.Bounds.{within_natural}
use Rattle.exact.proofs.Placements.Member.{member_transform_exact}
use Rattle.exact.proofs.Boxes.Reading.{grid_of_is}

-- ---- the example
abbrev float : ℕ → Float
float n = of_int binary64 (pos n)

abbrev point : ℕ → ℕ → DVec2
point x y = vec (float x) (float y)

abbrev grid : Grid
grid = record {
  columns = 2;
  rows = 3;
  x_reflection = true;
  origin = point 100 200;
  spacing_x = point 10 0;
  spacing_y = point 0 20;
  magnification = one_float;
  cos = zero_float;
  sin = one_float;
}

abbrev vector : ℕ → ℕ → Vector
vector x y = record { x = integer x; y = integer y }

-- ---- it is a grid of a square sheet
grid_is : IsGrid grid (grid_of grid)
unfolding opened
grid_is =
    grid_of_is grid (omega arith) (omega arith) (record { x = refl; y = refl }) (record { x = refl; y = refl }) (record { x = refl; y = refl })
    refl (inl (refl, inl refl))
    (record {
      origin = record { x = within_natural (2 ^ 31) 100 (omega arith); y = within_natural (2 ^ 31) 200 (omega arith) };
      spacing_x = record { x = within_natural (2 ^ 31) 10 (omega arith); y = within_natural (2 ^ 31) 0 (omega arith) };
      spacing_y = record { x = within_natural (2 ^ 31) 0 (omega arith); y = within_natural (2 ^ 31) 20 (omega arith) };
    })

-- ---- the member at column 1 and row 2: offset (10, 40), rotated (−40, 10)
member_floats : grid_member_transform grid 1 2 ≡ from_cols (vec zero_float one_float) (vec one_float (neg zero_float)) (point 60 210)
unfolding opened
member_floats = refl

member_orientation_lem : (member_placement (grid_of grid) 1 2).orientation ≡ reflected_rotation degrees90
unfolding opened
member_orientation_lem = refl

member_translation : (member_placement (grid_of grid) 1 2).translation ≐ᵛ vector 60 210
unfolding opened
member_translation = record { x = refl; y = refl }

member_agrees : IsPlacement (grid_member_transform grid 1 2) (member_placement (grid_of grid) 1 2)
member_agrees = member_transform_exact grid (grid_of grid) 1 2 grid_is (omega arith) (omega arith)

-- ---- the point (3, 4) in that member: reflected (3, −4), rotated (4, 3), moved (64, 213)
point_floats : transform_point2 (grid_member_transform grid 1 2) (point 3 4) ≡ point 64 213
unfolding opened
point_floats = refl

point_manual : manual_place (single_member (grid_of grid) 1 2) (vector 3 4) ≐ᵛ vector 64 213
unfolding opened
point_manual = record { x = refl; y = refl }

-- and in that member of that member: (64, 213) reflected (64, −213), rotated (213, 64), moved (273, 274)
inner_floats : transform_point2 (grid_member_transform grid 1 2 · grid_member_transform grid 1 2) (point 3 4) ≡ point 273 274
unfolding opened
inner_floats = refl

inner_manual : manual_along (single_member (grid_of grid) 1 2 ∷ single_member (grid_of grid) 1 2 ∷ []) (vector 3 4) ≐ᵛ vector 273 274
unfolding opened
inner_manual = record { x = refl; y = refl }

-- ---- the reference's box around the source box 0, 0, 3, 4
reference_floats : reference_bbox grid (bbox zero_float zero_float (float 3) (float 4)) ≡ boxed (bbox (float 60) (float 200) (float 104) (float 213))
unfolding opened
reference_floats = refl

reference_exact : SameBox (reference_box (grid_of grid) 2 3 (box_of (bbox zero_float zero_float (float 3) (float 4)))) (box_of (bbox (float 60) (float 200) (float 104) (float 213)))
unfolding opened
reference_exact = record { min_x = refl; min_y = refl; max_x = refl; max_y = refl }

-- ---- the bound is sharp: 2 ^ 53 + 1 is no f64
beyond : add binary64 (fin false 1 (pos 53)) one_float ≡ fin false 1 (pos 53)
unfolding opened
beyond = refl

bound_is_sharp : IsInteger (add binary64 (fin false 1 (pos 53)) one_float) (integer (exact_up_to + 1)) → ⊥
bound_is_sharp h =
    let k : 1 * 2 ^ 53 + 0 * 1 ≡ (exact_up_to + 1) * 1 = subst (λ (x : Float). IsInteger x (integer (exact_up_to + 1))) beyond h in omega arith
