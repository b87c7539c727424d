-- What each question gives a reader of the record.
--     Lengths    from question 3: a record's length by its kind
--     Numbers    from question 4: a reference's columns, rows, flags, source and absent box
--     Finite     from question 5: each float of a record
-- Assumes nothing.
pub mod Lengths
pub mod Numbers
pub mod Finite
