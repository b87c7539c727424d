-- Facts that the proofs about this crate's code cite.
--     Totals    sums that stop at 2^64 − 1
-- Assumes nothing.
pub mod Totals
