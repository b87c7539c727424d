-- Facts that the proofs about this crate's code cite.
--     Exits       the ways out of the draw units, one law for each
-- Assumes nothing.
pub mod Exits
