-- What the answers of questions 2 to 5 say of a record.
--     Tests           laws of the tests: two in turn, and one at each of several places
--     RightRecords    no question has a no just where the record is right
--     Facts           what each question gives a reader of the record
-- Assumes nothing.
pub mod Tests
pub mod RightRecords
pub mod Facts
