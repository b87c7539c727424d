-- What the proofs of more than one module cite, and those of other crates. Each Rust module has its own lemmas beside its functions' proofs.
pub mod Nans
