-- Narrowings that a wrong rounding would miss, at the end of the range, computed from the definition. Assumes nothing.
use Rattle.std.proofs.Common.{◌≡◌, refl}
use lib.Ieee.{binary32, binary64, of_bits, to_bits}
use Rattle.rounding.specs.Narrow.{narrow}

-- the least value that narrows to an infinity, and the one below it
narrow_overflows : (to_bits binary32 (narrow (of_bits binary64 0x47ef_ffff_f000_0000)) ≡ 0x7f80_0000) × (to_bits binary32 (narrow (of_bits binary64 0x47ef_ffff_efff_ffff)) ≡ 0x7f7f_ffff)
unfolding narrow of_bits to_bits
narrow_overflows = (refl, refl)
