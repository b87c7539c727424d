-- Sizes on the screen.
pub mod Powers
pub mod Sizes
