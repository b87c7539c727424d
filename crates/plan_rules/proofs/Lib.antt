-- Facts about the rules.
--     Cases             what the rules answer, computed: the P cases, whole plans, whole calls
--     Simulation        the one induction over the rules, for two runs side by side
--     Invariant         the same for one run
--     TapeTheorem       the bytes are the events' records
--     Questions         what a query has that passes questions 8 to 11
--     OutcomeTheorem    the outcome by code path, and by the run that writes
--     Accepted          what an accepted call passed, and what it leaves
--     Paths             the rules by code path, for proofs about code
--     Memory            the lent scratch is the Rust's memory
--     UnusedSites       document 02, paper 3
--     NodeGrid          document 02, paper 5
--     Deeper            document 02, paper 13
-- Assumes nothing.
pub mod Cases
pub mod Simulation
pub mod Invariant
pub mod TapeTheorem
pub mod Questions
pub mod OutcomeTheorem
pub mod Accepted
pub mod Paths
pub mod Memory
pub mod UnusedSites
pub mod NodeGrid
pub mod Deeper
