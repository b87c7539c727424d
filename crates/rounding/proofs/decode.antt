-- Lemmas on the fields of an f64's pattern.
pub mod Reading
mod Scaling
pub mod Signs
