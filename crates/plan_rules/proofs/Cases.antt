-- The rules computed: what they answer on numbers, small sheets and bytes, beside what document 01 says.
--     Readings       the readings at the edges that document 01 marks P: one list, one theorem
--     Edges          narrowing, the limits, and the memory of counts
--     Records        a record of each kind, byte by byte
--     Plans          the events of whole plans on small sheets
--     Deep           calls at depths above document 01's 32
--     Calls          whole calls from bytes: the worked example, and refusals
--     Opened         one name that opens the rules, to compute with them
--     OpenedSheet    the same for questions 1 to 7
-- Assumes nothing.
pub mod Readings
pub mod Edges
pub mod Records
pub mod Plans
pub mod Deep
pub mod Calls
pub mod Opened
pub mod OpenedSheet
