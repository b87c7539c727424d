-- Facts about answers.
--     Outcomes         which answer an outcome tells of
--     OwnFinder        a plan in the list in which the sheet was opened
--     Replies          the reply to an input, by code path
--     Parts            a part of a text
--     Texts            the text, part behind part
--     Printing         prints one after the other
--     Lines            a line of each kind of record, computed
--     WorkedExample    document 01's worked example, from its bytes to its text
-- Assumes nothing.
pub mod Outcomes
pub mod OwnFinder
pub mod Replies
pub mod Parts
pub mod Texts
pub mod Printing
pub mod Lines
pub mod WorkedExample
