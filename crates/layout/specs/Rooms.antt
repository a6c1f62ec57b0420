-- A room that is lent to be changed.
use Rattle.std.specs.Prelude.{ℕ, ◌≡◌, List}
use Rattle.layout.specs.declared.rooms.RoomMut.{RoomMut}

-- the same lent room of the same sizes, with these cells
pub record Becomes (old : RoomMut) (row : List ℕ) (new : RoomMut) : Type 0 where
  pub same_reference : new.cells.ghost_name ≡ old.cells.ghost_name
  pub sizes : new.sizes ≡ old.sizes
  pub cells : new.cells.now ≡ row
