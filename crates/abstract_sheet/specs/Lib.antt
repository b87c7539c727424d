-- The abstract sheet, in the order in which to read it.
--     Sheet     what a sheet holds, and the sheet of some bytes by a look-up
--     Lookup    what stands at a number, and where a look-up finds it
-- Assumes nothing.
pub mod Sheet
pub mod Lookup
