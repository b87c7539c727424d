-- Questions 2 to 5 of document 01, "Before a plan: the questions", in its order.
--     Tests     two tests in turn, and one test at each of several places
--     Frame     question 2: a record's frame
--     Shape     question 3: its kind and length
--     Values    question 4: its whole numbers, flags and absent boxes
--     Floats    question 5: its floats
--     Record    the number of the first no, and what a record is that has none
-- Assumes nothing.
pub mod Tests
pub mod Frame
pub mod Shape
pub mod Values
pub mod Floats
pub mod Record
