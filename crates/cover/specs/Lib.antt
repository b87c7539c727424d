-- DEMAND 3: document 01's "Words used in demand 3", one file for each group of words, and the statement.
--     Path         path, step, item: those of `paths`, at exact placements
--     View         in view, shown, within a box
--     Trace        what happened in a plan, each event with its path
--     Covered      listed, dropped, skipped, covered
--     Demand3      the statement: of the rules' events, and of the bytes of a call
--     Manual       statement of demand 2: the manual's placing along a path
-- A placed box is `exact`'s `place`; square sheets and true boxes are `paths`'s. Definitions only; the proof is in proofs/.
pub mod Path
pub mod View
pub mod Trace
pub mod Covered
pub mod Demand3
pub mod Manual
