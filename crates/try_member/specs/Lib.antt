-- What the contract of `try_member` cites.
--     Left    what is left to do after the step
-- Definitions only.
pub mod Left
