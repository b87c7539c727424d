-- DEMAND 3 IS ABOUT SOMETHING: sheets of bytes that are square with true boxes, and their plans.
--     Decided      square and true boxes as tests of the bytes
--     Worked       document 01's worked example
--     EveryKind    every kind of record, turned, reflected and inner references, a grid, a circle, and a node grid that meets a limit
--     Boxes        whole numbers and boxes of small sheets
--     Fields       sheets of bytes, field by field
--     Every        tests of many
-- Assumes nothing.
pub mod Boxes
pub mod Fields
pub mod Every
pub mod Decided
pub mod Worked
pub mod EveryKind
