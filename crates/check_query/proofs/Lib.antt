-- Laws about this crate's code.
--     Lent    for callers: where no question has a no the lent scratch has every place that a plan names
-- Assumes nothing.
pub mod Lent
