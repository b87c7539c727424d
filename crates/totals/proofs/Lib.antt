-- Proofs of the statements about proxies and the tape's length.
--     Proxies         the state counts what is listed and dropped: of the rules
--     Dropped         what a loop may drop, before and after the list is full
--     DroppedVisits   what each visit may drop, and so a plan
--     Tape            the tape's records of kind 14 and its last field: of an accepted call
--     TapeLength      no tape is longer than 5,360,062 bytes
--     Examples        full lists, computed
-- Assumes nothing.
pub mod Proxies
pub mod Dropped
pub mod DroppedVisits
pub mod Tape
pub mod TapeLength
pub mod Examples
