-- Placements and boxes, each operation rounded, as document 01 and the Rust give them.
--     Rounded       the f64 operations, as operators
--     Placement     points and placements
--     Bbox          boxes in the world
-- Assumes nothing.
pub mod Rounded
pub mod Placement
pub mod Bbox
