-- Names that open definitions, to compute with.
--     Patterns    opens the patterns of the code's constants
--     Opened      opens every definition
-- Assumes nothing.
pub mod Patterns
pub mod Opened
