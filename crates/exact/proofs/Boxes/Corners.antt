-- The corners of a box, and that a proper box holds them. Assumes nothing.
use native.Mathlib.Omega.{arith}
use Rattle.exact.specs.Placement.{Vector}
use Rattle.exact.specs.Box.{IntegerBox, Proper, Holds}

abbrev pub lower_left : IntegerBox → Vector
lower_left b = record { x = b.min_x; y = b.min_y }

abbrev pub lower_right : IntegerBox → Vector
lower_right b = record { x = b.max_x; y = b.min_y }

abbrev pub upper_right : IntegerBox → Vector
upper_right b = record { x = b.max_x; y = b.max_y }

abbrev pub upper_left : IntegerBox → Vector
upper_left b = record { x = b.min_x; y = b.max_y }

module _ (b : IntegerBox) (h : Proper b) where
  pub lower_left_held : Holds b (lower_left b)
  lower_left_held = record { left = omega arith; right = h.x; bottom = omega arith; top = h.y }

  pub lower_right_held : Holds b (lower_right b)
  lower_right_held = record { left = h.x; right = omega arith; bottom = omega arith; top = h.y }

  pub upper_right_held : Holds b (upper_right b)
  upper_right_held = record { left = h.x; right = omega arith; bottom = h.y; top = omega arith }

  pub upper_left_held : Holds b (upper_left b)
  upper_left_held = record { left = omega arith; right = h.x; bottom = h.y; top = omega arith }
