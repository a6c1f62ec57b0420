-- Laws of step records. What others cite is in Theorems and Accepted.
-- a number and its bytes, low first; bytes stored in a buffer
pub mod Bytes
-- the definitions at the five fields, as the code has them
pub mod Five
-- the map byte: its size, the length that it asks for, and the operations that make it and judge it
pub mod MapLaws
-- maps that mark exactly the fields that are not 0; fields that the mask lacks
pub mod Marks
-- the ten kinds
pub mod Steps
-- what writing answers and leaves
pub mod Writes
-- what holds where a step was read, and the numbers of the answers
pub mod Accepted
-- the theorems
pub mod Theorems
-- 01's sample records
pub mod Samples
