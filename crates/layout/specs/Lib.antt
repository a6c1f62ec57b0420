-- Where the parts of a room stand in its row of cells, and how they are read and stored.
pub mod Places
pub mod Cells
pub mod Rooms
