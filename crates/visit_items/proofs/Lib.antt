-- Laws that the proofs about this crate's code cite. Assumes nothing.
pub mod NumberLoop  -- the loop over a list of numbers
pub mod CellLists  -- a list of an open cell
pub mod Body  -- the three lists one after the other
