-- What the contract of `open_reference` cites.
--     Left    what is left to do after the step
-- Definitions only.
pub mod Left
