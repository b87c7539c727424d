-- Questions 1, 6 and 7 of document 01, "Before a plan: the questions", and the answer of a whole sheet.
--     Count        how many records there are of each kind
--     Links        question 7: what a record names
--     Check        the answer, with the paper's number and offset of each case
--     Valid        what a sheet is that passes them
--     WellFormed   the same in the words of the abstract sheet: what is named exists, the limits hold, every float is finite
--     Narrow       document 02's paper 4: a length that reaches past the end
-- Assumes nothing.
pub mod Count
pub mod Links
pub mod Check
pub mod Valid
pub mod WellFormed
pub mod Narrow
