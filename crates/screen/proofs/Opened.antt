-- To compute with the definitions of this crate, a proof names one: `unfolding opened` opens them all, down to the floats,
-- with those of placements and boxes.
-- Assumes nothing.
use Prim.Native.Nat.{ℕ}
use lib.Ieee.{div, of_int}
use Rattle.rounding.specs.Narrow.{narrow}
use Rattle.floats.specs.Order.{abs, is_finite}
use Rattle.geometry.proofs.Opened as geometry
use Rattle.screen.specs.Screen.{side, screen_size, reference_screen_size, is_subpixel, average_area_within, is_dense, is_dense_batch, collapse_test, should_collapse_reference}

unfoldable pub opened : ℕ
unfolding geometry.opened div of_int narrow abs is_finite side screen_size reference_screen_size is_subpixel average_area_within is_dense is_dense_batch collapse_test should_collapse_reference
opened = 0
