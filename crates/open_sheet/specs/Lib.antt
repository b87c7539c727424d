-- Opening a sheet.
--     Opening       the answer, and what stands in the lent list after it
--     Statements    what is proved of it
-- Assumes nothing.
pub mod Opening
pub mod Statements
