-- Paper 14, proved. Assumes nothing.
--     Rules       of the rules' events; a path leads to one item at one placement
--     Call        of the bytes of an accepted call
--     Whole       on square sheets the exact placement is demand 3's
--     Decided     the bounds as a test of a sheet's bytes
--     Examples    a sheet of bytes turned by an odd angle, accepted; its record is not exact, and near
pub mod Rules
pub mod Call
pub mod Whole
pub mod Decided
pub mod Examples
