-- What the proofs on the order of floats cite.
mod Choice
