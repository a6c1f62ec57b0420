-- The algorithm on values.
-- what a step needs of its numbers
pub mod Arguments
-- what becomes of a record
pub mod Changes
-- one slot
pub mod Slot
-- the ten rules
pub mod Rules
