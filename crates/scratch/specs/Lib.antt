-- The layers of the two sets of cells, and what stays of a lent scratch.
--     Stack    which layer of the marks each set has
--     Lent     what no call changes of the scratch that it is handed
-- Assumes nothing.
pub mod Stack
pub mod Lent
