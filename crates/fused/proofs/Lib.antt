-- What the proofs of more than one module cite. Each Rust module has its own lemmas beside its functions' proofs.
mod Naturals
mod Examples
mod RoundToOdd
