-- Sizes on the screen, each operation rounded, as document 01 and the Rust give them.
--     Screen    sizes on the screen, and the tests that are made of them
-- Assumes nothing.
pub mod Screen
