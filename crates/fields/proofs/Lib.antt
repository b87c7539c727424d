-- What the proofs of several functions share.
--     Reading      laws of `uint_at`
--     Writing      laws of `uint_bytes`, and of fields written one after the other
--     ReadBack     what is read where a field was written, and where none was
--     Halves       a field of 2 j bytes from its halves
--     Zeroed       the end of a loop that zeroes lent memory, for whoever has one
-- Assumes nothing.
mod Halves
pub mod Reading
pub mod Writing
pub mod ReadBack
pub mod Zeroed
