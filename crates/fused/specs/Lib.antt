-- What the contracts of `fused` cite. The first module is the meaning of the public function: a reader must believe it, with the toolchain's `lib.Ieee`.
-- The others state what the steps inside the crate hand to one another; the public contract does not rest on them.

-- the public function
pub mod Fma
-- the steps inside
pub mod Units
pub mod RoundToOdd
pub mod Wide
