-- Facts of finders.
--     Prefix         when a list starts with another
--     Stands         a list in which another stands from a place on
--     ByKind         where the records of each kind stand in a sheet's finder
--     RecordPlaces   each record has its place
--     SheetBy        the sheet by its own finder is the sheet
--     TurnedAway     which lists belong, and that a short or a different one does not
--     Sizes          how many places a sheet's finder has
--     Running        the places of the kinds while the records are passed one by one
--     Agreeing       the check of a list, record by record
--     Examples       finders of small sheets, and lists that belong to them or do not
-- Assumes nothing.
pub mod Prefix
pub mod Stands
pub mod ByKind
pub mod RecordPlaces
pub mod SheetBy
pub mod TurnedAway
pub mod Sizes
pub mod Running
pub mod Agreeing
pub mod Examples
