-- What a command is, its kind, and the table by which all cells of a room are judged.
pub mod Command
pub mod Kinds
pub mod Tops
