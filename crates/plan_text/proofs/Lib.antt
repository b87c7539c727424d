-- Facts about the text.
--     Digits       how many digits a number has, and how they are written
--     Pieces       the pieces of a line, one after the other
--     TapeLines    the lines of a tape, record by record
--     Examples     the line of a refusal, and numbers, computed
--     Opened       one name that opens the text, to compute with it
-- Assumes nothing.
pub mod Digits
pub mod Pieces
pub mod TapeLines
pub mod Examples
pub mod Opened
