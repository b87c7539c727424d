-- The look-up by number.
--     Places    the places of a finder
--     Look      where a number of a kind is found, with a finder and without one
-- Assumes nothing.
pub mod Places
pub mod Look
