-- What stands in a record, by the record's offset.
--     Format     document 01's table: the fields of each kind, their widths and offsets
--     Records    what the fields of each kind say
--     Reading    what holds of the reader of each record
--     Sources    a source by document 01's kind and number, and its label
-- Assumes nothing.
pub mod Format
pub mod Records
pub mod Reading
pub mod Sources
