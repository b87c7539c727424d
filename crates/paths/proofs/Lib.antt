-- Facts about the definitions of specs/. Assumes nothing.
--     Leads        a path leads to the same item at placements of two kinds
--     Square       a square sheet's floats are integers
--     TrueBoxes    what a box that is there surrounds
pub mod Leads
pub mod Square
pub mod TrueBoxes
