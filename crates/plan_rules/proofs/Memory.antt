-- A plan over the lent scratch is a plan over the Rust's memory: `complexity_cache`, `complexity_stack` and `cell_stack` (specs `Maps` and `MappedPlan`).
--     Places      no two cells or layers share a place
--     Faithful    the two count alike, and go on agreeing
--     Start       a plan starts with the two in agreement
--     Plan        a whole plan says the same events over either
-- A contract that cites the places alone could not tell a bad layout from a good one.
-- Assumes nothing.
pub mod Places
pub mod Faithful
pub mod Start
pub mod Plan
