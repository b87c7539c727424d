-- The rounding step, for both formats together.
mod HalfUnit
pub mod Normalising
mod Packing
mod Patterns
pub mod Theorem
