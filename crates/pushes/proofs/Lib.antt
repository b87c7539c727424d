-- Laws that the proofs about this crate's code cite. Assumes nothing.
pub mod HiddenLayers  -- the search among the hidden layers
