-- Facts about the query.
--     Layers       hidden layers, copied one after the other
--     Reading      what those have who go on with the query
--     Examples     what is a whole query, computed
--     Opened       one name that opens the query, to compute with it
-- Assumes nothing.
pub mod Layers
pub mod Reading
pub mod Examples
pub mod Opened
