-- What the contracts of `planner` cite besides the rules.
--     Answered       question 12, by the tape's end
--     Swept          the visits on scratch that is zeroed before and after
--     WithFinder     the outcome of a call with a finder: question 13
--     LosesNothing   demands 2 and 3 of a call: what its proofs state
--     PlacesNear     paper 14 of a call: what its proofs state
--     Totals         paper 8 of a call: what its proofs state
--     Deeper         paper 13 of a call with a finder: what its proofs state
--     Agreement      a call with a finder and one without: what its proofs state
-- Definitions and statements. Assumes nothing.
pub mod Answered
pub mod Swept
pub mod WithFinder
pub mod LosesNothing
pub mod PlacesNear
pub mod Totals
pub mod Deeper
pub mod Agreement
