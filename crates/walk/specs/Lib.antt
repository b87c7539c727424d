-- The records of a sheet, in the order in which to read them.
--     Offsets    where the records are
--     Find       what is found by its number
--     Heads      what a walk over the records gives
--     Every      a fact of every record
--     Narrow     document 02's paper 4: offsets of 32 bits, and lengths that reach past the end
-- Assumes nothing.
pub mod Offsets
pub mod Find
pub mod Heads
pub mod Every
pub mod Narrow
