-- Document 02, paper 14: SLANTED SHEETS.
--     Sheet      the bounds on a sheet's numbers
--     Path       paths at exact placements on fractions
--     Slanted    the statement: of the rules' events, and of the bytes of a call
--     Whole      the statement that on square sheets its exact placement is demand 3's
pub mod Sheet
pub mod Path
pub mod Slanted
pub mod Whole
