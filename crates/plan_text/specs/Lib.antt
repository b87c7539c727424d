-- The text of the program `plan`: what it prints.
--     Ascii      a text as the codes of its characters
--     Text       numbers, lines, and the lines of a tape
--     Written    what a writer leaves in the lent text
-- Definitions only. Assumes nothing.
pub mod Ascii
pub mod Text
pub mod Written
