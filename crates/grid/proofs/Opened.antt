-- To compute with the definitions of this crate, a proof names one: `unfolding opened` opens them all, down to the floats,
-- with those of placements and boxes.
-- Assumes nothing.
use Prim.Native.Nat.{ℕ}
use lib.Ieee.{of_int}
use Rattle.fused.specs.Fma.{fma}
use Rattle.geometry.proofs.Opened as geometry
use Rattle.grid.specs.Grid.{grid_count, offset, rotated, y_axis, grid_member_transform, member_bbox, corners_bbox, reference_bbox}

unfoldable pub opened : ℕ
unfolding geometry.opened of_int fma grid_count offset rotated y_axis grid_member_transform member_bbox corners_bbox reference_bbox
opened = 0
