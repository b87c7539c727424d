-- To compute with the definitions of this crate, a proof names one: `unfolding opened` opens them all, down to the floats.
-- Assumes nothing.
use Prim.Native.Nat.{ℕ}
use lib.Ieee.{span, climb, size, odd, units, round, neg, sum, add, sub, mul, lt, eq, le, is_nan}
use Rattle.floats.specs.Order.{min_num, max_num}
use Rattle.geometry.specs.Placement.{IDENTITY, transform_vector2, transform_point2, ◌·◌}
use Rattle.geometry.specs.Bbox.{boxed, overlaps, merge, least, greatest, include, transform_bbox, point_in_bbox, source_is_degenerate}

unfoldable pub opened : ℕ
unfolding span climb size odd units round neg sum add sub mul lt eq le is_nan min_num max_num IDENTITY transform_vector2 transform_point2 ◌·◌ boxed overlaps merge least greatest include transform_bbox point_in_bbox source_is_degenerate
opened = 0
