-- Whole numbers in floats, and exact placement.
--     Integer      integers as differences of natural numbers
--     IsInteger    floats that are integers
--     Placement    vectors, orientations, exact placements, levels
--     Member       a member of a reference on a square sheet
--     Steps        statement: exact placement is document 01's steps without rounding
--     Manual       statement: the manual's placing
--     Box          boxes, placed boxes, a reference's box
--     Screen       statement: sizes on the screen are finite
pub mod Integer
pub mod IsInteger
pub mod Placement
pub mod Member
pub mod Steps
pub mod Manual
pub mod Box
pub mod Screen
