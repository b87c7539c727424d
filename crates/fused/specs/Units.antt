-- The factors at which a product is exact whatever the other factor, and at which `mul_add` takes one multiply and one add. Assumes nothing.
use Rattle.std.specs.Prelude.{Bool, ◌||◌, ◌%◌, ◌^◌, eqb, Float}
use Rattle.std.specs.Float.{binary64}
use Rattle.std.specs.Float.Ieee.{to_bits}

-- 0, 1 or -1: without its sign the pattern is that of 0 or of 1
unfoldable pub unit_or_zero : Float → Bool
unfolding to_bits
unit_or_zero v = eqb (to_bits binary64 v % 2 ^ 63) 0 || eqb (to_bits binary64 v % 2 ^ 63) 0x3ff0_0000_0000_0000
