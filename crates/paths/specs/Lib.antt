-- Document 01's words for paths and for the sheets of demand 3, for whoever speaks of paths.
--     Path         path, step, item: at placements of any kind
--     Square       square sheet
--     TrueBoxes    true boxes
pub mod Path
pub mod Square
pub mod TrueBoxes
