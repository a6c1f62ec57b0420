-- That a room and its row say the same, and what a step keeps of a room.
-- tables; the shape of a room and what it holds
pub mod Tables
pub mod Shapes
-- the cells of the room that a row is read as; what is read of a row
pub mod Encodes
pub mod Views
pub mod Ranged
pub mod Rows
-- the room that a room's cells are read as; cells stored in them
pub mod Decodes
pub mod Again
pub mod Stores
-- a step on a room, slot by slot; what it keeps in range
pub mod RulesKeep
pub mod Slots
-- what the next step says, by the rule of its kind
pub mod NextLaws
