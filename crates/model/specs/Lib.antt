-- A room as a value, what each of the ten steps makes of it, and the row of cells that is its encoding.
-- a room: its sizes, off marks and limits, and what its servers and drives hold; the four ways in which it changes
pub mod Room
-- the ten steps on a room, on one page
pub mod Next
-- what a room may hold: its shape, and its ranges
pub mod Fits
-- the cells of a room, and the room that a row is
pub mod Encoding
-- which slots a step may change
pub mod Concerns
-- what is promised of the encoding
pub mod Promise
