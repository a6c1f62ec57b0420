-- Laws of places and of cells, for the crates above.
pub mod PlaceLaws
pub mod CellLaws
pub mod RoomLaws
