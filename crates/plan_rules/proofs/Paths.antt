-- The rules by code path: one law for each way out of each function, its premises being the outcomes of the tests on that way.
-- A proof about code cites these with what its callees ensure. The steps of the visits have laws of this form in their own crates.
-- Assumes nothing.
pub mod Loops
pub mod Pushes
pub mod Cells
pub mod References
pub mod Counts
pub mod Plans
