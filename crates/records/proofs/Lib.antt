-- What the proofs of the readers share, and a law of sources.
--     Body       a number in a record's bytes is the number in the sheet at the record's offset
--     EachKind   so is a record of each kind
--     Sources    the reader gives the case of the kind and the number that it read
-- Assumes nothing.
pub mod Body
pub mod EachKind
pub mod Sources
