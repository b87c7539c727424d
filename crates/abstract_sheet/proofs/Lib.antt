-- Facts of the abstract sheet.
--     Lookup      what a sheet has at a number is what is read where the look-up finds it
--     Opened      one name that opens every definition, to compute with
--     Examples    document 01's worked sheet, the empty one, one with a record of each kind, and hostile bytes, computed
-- Assumes nothing.
pub mod Lookup
pub mod Opened
pub mod Examples
