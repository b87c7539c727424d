-- How far rounded placement lies from the exact one: one rounding, one operation, one placement, and reference by reference. Assumes nothing.
--     Magnitudes    bounds of magnitude under sum, product and a change of writing
--     Differences   how differences from the exact operands go with the operations
--     Nearest       the nearest value of a format is half a unit off at most
--     Rounding      the error of one rounding
--     Operations    each operation rounds the exact result of its operands
--     Approximates  floats near exact fractions, operation by operation
--     Placements    placements near exact ones: moving and product
--     Member        one member of a reference
--     Levels        below so many references
--     WholeNumbers  fractions that are whole numbers, operation by operation
--     Whole         on whole numbers, exact placement is that of `exact`
pub mod Magnitudes
pub mod Differences
pub mod Nearest
pub mod Rounding
pub mod Operations
pub mod Approximates
pub mod Placements
pub mod Member
pub mod Levels
pub mod WholeNumbers
pub mod Whole
