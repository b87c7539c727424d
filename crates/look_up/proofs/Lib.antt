-- What the look-up rests on.
--     Looking    the steps of a look-up, and the sheet that each way of looking up gives
-- Assumes nothing.
pub mod Looking
