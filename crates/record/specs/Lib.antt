-- Step records (SPEC, "Step records").
-- the fields of a step, and the table of which kind has which
pub mod Fields
-- the map byte
pub mod Map
-- the kinds as an enum
pub mod Kinds
-- a walk over the fields
pub mod Cursor
-- what is written for a step, or for its fields
pub mod Write
-- what is read from bytes, as a step or as its fields
pub mod Read
-- the numbers of the answers
pub mod Answers
