-- Facts that the proofs about this crate's code cite, over plain values.
--     Cells        the ways out of `visit_cell` and `visit_source`, one law for each
--     References   the ways out of `visit_reference` and a turn of its loop
--     Members      the members of a grid in one loop
-- Assumes nothing.
pub mod Cells
pub mod References
pub mod Members
