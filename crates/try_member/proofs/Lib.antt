-- Laws that the proof about this crate's code cites.
--     MemberExits    one member, by code path, and where it stands in its grid
-- Assumes nothing.
pub mod MemberExits
