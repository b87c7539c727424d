-- Facts of opening a sheet.
--     Filling    a list filled with the offsets of the records, one by one
--     Answers    each answer by what leads to it
--     Outcomes   what opening a valid sheet gives, and that what it leaves belongs to the sheet
-- Assumes nothing.
pub mod Filling
pub mod Answers
pub mod Outcomes
