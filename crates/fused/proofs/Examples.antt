-- Fused operations that a wrong rounding would miss, at the ends of the range, computed from the definition. Assumes nothing.
use mathlib.Core.Path.{◌≡◌, refl}
use mathlib.Core.Bool.{true}
use lib.Ieee.{inf, binary64, of_bits, to_bits}
use Rattle.fused.specs.Fma.{fma}

-- the smallest f64 squared is far below half a unit of the sum
fused_tiny : to_bits binary64 (fma binary64 (of_bits binary64 1) (of_bits binary64 1) (of_bits binary64 1)) ≡ 1
unfolding fma of_bits to_bits
fused_tiny = refl

-- the largest f64 squared does not overflow before an infinity is added
fused_infinite : fma binary64 (of_bits binary64 0x7fef_ffff_ffff_ffff) (of_bits binary64 0x7fef_ffff_ffff_ffff) (inf true) ≡ inf true
unfolding fma of_bits
fused_infinite = refl
