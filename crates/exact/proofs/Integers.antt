-- Facts about integers and vectors of integers.
pub mod Bounds
pub mod Products
