-- What the contracts of `streams` cite.
--     Moving      what an answer to a read or a write means, and when an input is whole
--     Printing    what a printer remembers
-- Definitions only. Assumes nothing.
pub mod Moving
pub mod Printing
