-- What a walk over the records rests on.
--     Offsets      the equations of the list of offsets, which are all that a walk needs
--     Finding      the steps by which a walk finds a record by its number, and which numbers are found
--     Every        facts of every record, and of the one that is found
--     Taking       a step of a walk
--     Narrow       paper 4's statements
-- Assumes nothing.
pub mod Offsets
pub mod Finding
pub mod Every
pub mod Taking
pub mod Narrow
