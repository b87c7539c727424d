-- Proofs of `streams`.
--     Meanings    what an answer means, read backwards; what a loop has moved; and where an input that was read lies
pub mod Meanings
