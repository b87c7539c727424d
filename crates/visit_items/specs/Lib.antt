-- What the contracts of a cell's lists cite.
--     Lists    the loops of `visit_cell`, for a cell that is open
-- Definitions only.
pub mod Lists
