-- Floats that are integers: rounding, sum, product and fused operation are exact up to 2 ^ 53, and comparisons agree with the integers'.
pub mod Rounding
pub mod Sum
pub mod Product
pub mod Order
pub mod Reading
pub mod Extremes
