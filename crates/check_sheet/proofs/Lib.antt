-- The two passes, the answers, and what a sound answer gives a reader of the sheet.
--     Passes       the two passes over the records, step by step
--     Answers      each answer by what leads to it, numbers 1 and 7 among them
--     Verdict      the verdict says all that an answer does
--     Numbered     a refusal has a number from 1 to 7
--     Valid        the answer is sound just where the sheet is valid
--     WellFormed   a valid sheet is well formed
--     Narrow       paper 4's statement
--     LongLengths  sheets of any size whose first or second record has a long length
--     Examples     small sheets and their answers, computed
--     Passed       the counts of the records before an offset
--     Remaining    the records from an offset on, and what question 7 still asks of them
-- Assumes nothing.
mod Passed
mod Remaining
pub mod Passes
pub mod Answers
pub mod Verdict
pub mod Numbered
pub mod Valid
pub mod WellFormed
pub mod Narrow
pub mod LongLengths
pub mod Examples
