-- What the fused operation's proofs cite.
mod Sums
mod Values
mod Alignment
mod Terms
mod Exceptional
mod Rounding
mod ExactProduct
mod UnitPattern
