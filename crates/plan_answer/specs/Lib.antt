-- What the program `plan` prints for an input.
--     NoPlan   why there is no plan, and the line that says so
--     Text     the text of an answer
--     Reply    what an input is answered, and what stands in every lent place after it
--     Part     a part of the text, put into a lent buffer
-- Definitions only. Assumes nothing.
pub mod NoPlan
pub mod Text
pub mod Reply
pub mod Part
