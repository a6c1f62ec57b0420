-- What is promised of the encoding (SPEC, "A room is a value"): each is the contract of a public function.
use Rattle.std.specs.Prelude.{ℕ, true, List, Some, is_some, ◌≡◌}
use Rattle.layout.specs.Cells.{is_row}
use Rattle.range.specs.Range.{in_range}
use Rattle.model.specs.Room.{Room}
use Rattle.model.specs.Fits.{shaped, fits}
use Rattle.model.specs.Encoding.{cells_of, room_of, room_in}

-- a row is a room exactly where it is in range
abbrev pub RoomWhereInRange : Type 0
RoomWhereInRange = (cells : List ℕ) → is_some (room_in cells) ≡ in_range cells

-- the cells of the room that a row is read as are the row again, also where it is not in range
abbrev pub RowAgain : Type 0
RowAgain = (cells : List ℕ) → is_row cells ≡ true → cells_of (room_of cells) ≡ cells

-- the room that a row is read as has the shape of one, also where it is not in range
abbrev pub RowShaped : Type 0
RowShaped = (cells : List ℕ) → is_row cells ≡ true → shaped (room_of cells) ≡ true

-- the cells of what has the shape of a room are a row, also where it is not in range
abbrev pub CellsRow : Type 0
CellsRow = (r : Room) → shaped r ≡ true → is_row (cells_of r) ≡ true

-- what has the shape of a room is read from its cells again, also where it is not in range
abbrev pub RoomAgain : Type 0
RoomAgain = (r : Room) → shaped r ≡ true → room_of (cells_of r) ≡ r

-- a room in range is the room that its cells are
abbrev pub RoomInCells : Type 0
RoomInCells = (r : Room) → shaped r ≡ true → fits r ≡ true → room_in (cells_of r) ≡ Some r
