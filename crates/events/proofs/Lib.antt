-- Facts that the proofs about this crate's code and those above cite.
--     Opened    one name that opens what an event leaves
-- Assumes nothing.
pub mod Opened
