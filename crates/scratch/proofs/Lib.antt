-- Facts that the proofs about this crate's code cite.
--     Layers    places of a layer fit 64 bits, and so do the numbers of places that a plan names
-- Assumes nothing.
pub mod Layers
