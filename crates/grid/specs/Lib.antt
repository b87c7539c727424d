-- The grid of a reference, each operation rounded, as document 01 and the Rust give it.
--     Grid    the members of a reference
-- Assumes nothing.
pub mod Grid
