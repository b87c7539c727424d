-- Facts that the proofs about this crate's code cite.
--     Room    a record is written if it fits
--     Left    what is left to write
-- Assumes nothing.
pub mod Room
pub mod Left
