-- Fields of a list of bytes.
--     Field        the definitions: a field's number, its bytes, and a record of fields
--     Head         how wide a record's length and kind are
-- Assumes nothing.
pub mod Field
pub mod Head
