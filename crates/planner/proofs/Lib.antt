-- Laws that the proofs about this crate's code cite, and what follows from the entry point's contract. Assumes nothing.
pub mod Refusals  -- no number of one is 0, and what `?` hands on
pub mod Answers  -- question 12, by code path
pub mod Sweep  -- the visits on zeroed scratch
pub mod Delivered  -- the answer is the outcome that the rules define
pub mod Finders  -- question 13, by code path, and what a call with a finder and one without have in common
pub mod Deeper  -- paper 13 of a call with a finder
pub mod Corollaries  -- demands 2 and 3, and paper 8, of what a call leaves
