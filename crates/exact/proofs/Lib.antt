-- Facts about the definitions of specs/, by topic. Assumes nothing.
--     Integers     bounds of magnitude, products with 1 and 0
--     Floats       rounding, sum, product, fused operation, order, extremes, reading of floats that are integers
--     Placements   turning, moving, product, members, levels; the steps without rounding; the manual's placing
--     Boxes        enclosing, placing, a reference's box; the rules' boxes; reading
--     Screen       sizes on the screen are finite
--     Examples     a reflected and rotated grid, computed; the bound is sharp
pub mod Integers
pub mod Floats
pub mod Placements
pub mod Boxes
pub mod Screen
pub mod Examples
