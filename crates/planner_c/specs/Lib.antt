-- What the exported calls are handed and what they give back, in the rules' terms.
pub mod Call
