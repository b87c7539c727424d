-- What the proofs of more than one module cite, and those of the crate `fused`. Each Rust module has its own lemmas beside its functions' proofs.
pub mod Naturals
mod Examples
mod RoundToOdd
