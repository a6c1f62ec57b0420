-- Open and step over the cells of a room.
pub mod Open
pub mod Judge
pub mod Ready
pub mod Step
-- a step on a row, by the room that the row is
pub mod ByNext
