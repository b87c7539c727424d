-- What the program `plan` reads before the sheet.
--     Query    the first record of the input
-- Definitions only. Assumes nothing.
pub mod Query
