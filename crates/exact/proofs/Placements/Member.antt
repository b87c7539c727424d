-- `grid_member_transform` gives a member's exact placement on a square sheet, and that moves by at most 2 ^ 47. Assumes nothing.
use mathlib.Core.Path.{refl}
use Prim.Native.Nat.{ℕ, ◌+◌, ◌^◌, ◌≤◌}
use native.Mathlib.Omega.{arith}
use lib.Ieee.{binary64}
use Rattle.grid.specs.declared.Grid.{Grid}
use Rattle.grid.specs.Grid.{offset, rotated, grid_member_transform}
use Rattle.exact.specs.IsInteger.{exact_up_to}
use Rattle.exact.specs.Placement.{◌⊹◌, VectorWithin, orient, IsPlacement, member_reach}
use Rattle.exact.specs.Member.{IntegerGrid, member_offset, offset_orientation, member_placement, GridWithin, IsGrid}
use Rattle.exact.proofs.Integers.Bounds.{vector_widen, vector_sum, vector_orient}
use Rattle.exact.proofs.Floats.Sum.{add_integer}
use Rattle.exact.proofs.Placements.Axes.{x_axis_exact, y_axis_exact}
use Rattle.exact.proofs.Placements.Offset.{offset_reach, member_offset_within, offset_is, rotated_exact}

-- ---- how far a member moves
pub member_within : (z : IntegerGrid) (c r : ℕ) → c ≤ 32767 → r ≤ 32767 → GridWithin z
    → VectorWithin member_reach (member_placement z c r).translation
member_within z c r c≤ r≤ w =
    vector_widen (2 ^ 31 + offset_reach) member_reach _ (omega arith)
    (vector_sum (2 ^ 31) offset_reach z.origin _ w.origin
    (vector_orient offset_reach (offset_orientation z) (member_offset z c r) (member_offset_within z c r c≤ r≤ w)))

-- ---- the member's placement
pub member_transform_exact : (g : Grid) (z : IntegerGrid) (c r : ℕ) → IsGrid g z → c ≤ 32767 → r ≤ 32767
    → IsPlacement (grid_member_transform g c r) (member_placement z c r)
unfolding grid_member_transform
member_transform_exact g z c r h c≤ r≤ =
    let x = x_axis_exact g z h in
    let y = y_axis_exact g z h in
    let i = member_offset z c r in
    let near = vector_widen offset_reach exact_up_to i (omega arith) (member_offset_within z c r c≤ r≤ h.within) in
    let moved = vector_widen member_reach exact_up_to (member_placement z c r).translation (omega arith)
    (member_within z c r c≤ r≤ h.within) in
    let turned = rotated_exact z.angle (offset g c r) i g.cos g.sin (offset_is g z c r h c≤ r≤) h.cos h.sin near in
    let v = rotated (offset g c r) g.cos g.sin in
    let u = orient (offset_orientation z) i in
    record {
      xx = x.x;
      xy = x.y;
      yx = y.x;
      yy = y.y;
      tx = add_integer binary64 g.origin.x v.x z.origin.x u.x (z.origin ⊹ u).x h.origin.x turned.x refl moved.x;
      ty = add_integer binary64 g.origin.y v.y z.origin.y u.y (z.origin ⊹ u).y h.origin.y turned.y refl moved.y;
    }
