-- Laws that the proofs about this crate's code cite.
--     SourcedReference    `visit_reference` of a reference that is there, by code path
-- Assumes nothing.
pub mod SourcedReference
