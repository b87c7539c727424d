-- What the proofs about the exported calls cite. Assumes nothing.
pub mod Told  -- an answer in numbers
