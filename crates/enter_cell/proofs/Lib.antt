-- Laws that the proof about this crate's code cites.
--     FoundCell    `visit_cell` of a cell that is there, by code path
-- Assumes nothing.
pub mod FoundCell
