-- What the contract of `enter_cell` cites.
--     Left    what is left to do after the step
-- Definitions only.
pub mod Left
