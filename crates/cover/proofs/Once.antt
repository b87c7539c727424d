-- NO PATH TWICE: the records of a plan have pairwise different paths, since every loop goes on by different steps. Nothing is asked of the sheet.
--     Adds       what a piece of the run adds: records with new tags, all of them below a given tag
--     Loops      a loop whose turns go on by different steps
--     Pushes     batches, texts and nodes
--     Visits     cells, references and the plan
-- Assumes nothing.
pub mod Adds
pub mod Loops
pub mod Pushes
pub mod Visits
