-- What the proofs of several functions share.
--     Flags        tests joined by `&&` and `||`
--     Merging      a box merged with itself
--     Opened       one name that opens every definition, to compute with
-- Assumes nothing.
pub mod Flags
pub mod Merging
pub mod Opened
