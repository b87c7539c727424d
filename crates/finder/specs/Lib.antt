-- The finder beside a sheet.
--     Finder        the finder of a sheet, and which lists belong to it
--     Statements    what is proved of them
-- Assumes nothing.
pub mod Finder
pub mod Statements
