-- WHAT THE TOTALS AND THE TAPE'S LENGTH SAY of a plan. Document 02, paper 8.
--     Proxies      listed, dropped and called for: of the rules' events, and of the bytes of a call
--     TapeLength   the length that no tape exceeds
-- Definitions only; the proofs are in proofs/.
pub mod Proxies
pub mod TapeLength
