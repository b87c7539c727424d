-- What the contracts of `rounding` cite. The first module is the meaning of the conversions: a reader must believe it, with the toolchain's `lib.Ieee`.
-- The others state what the steps hand to one another, and to those of the crate `fused`; no conversion's contract rests on them.

-- the conversions
pub mod Narrow
-- the steps
pub mod Fields
pub mod RoundToOdd
pub mod Packed
