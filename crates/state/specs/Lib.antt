-- The values that the algorithm is about.
-- the sizes of a room
pub mod Sizes
-- the block, and the largest ballot
pub mod Block
-- the server record
pub mod Server
-- the words and numbers of an answer
pub mod Answers
-- where a step acts
pub mod View
