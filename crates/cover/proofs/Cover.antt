-- THE COVER: every path to an item in view on a shown layer is covered by an event of the plan. By induction on the depth; each rule is seen from the step that the path takes there.
--     Claims        what an event does for a path, by its tag; what is covered stays covered
--     Pushes        batches, texts and points
--     Cells         the four loops of a cell, and the cell's box at each way out
--     References    the members of a reference, and the ways out before and among them
--     Visits        the induction
-- Assumes nothing.
pub mod Claims
pub mod Pushes
pub mod Cells
pub mod References
pub mod Visits
