-- What the proofs of the grid share, and a name to compute with.
--     OneMember    the corners of a grid of one member
--     Opened       one name that opens every definition of specs/
-- Assumes nothing.
pub mod OneMember
pub mod Opened
