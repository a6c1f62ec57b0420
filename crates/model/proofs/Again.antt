-- The cells of what has the shape of a room are a row; where it holds what a room may hold, they are in range, and the room
-- that they are is it.
use Prim.Native.Nat.{ℕ, ◌*◌}
use mathlib.Core.Path.{◌≡◌, ◌∙◌, sym, ap}
use mathlib.Core.Bool.{Bool, true, cond}
use mathlib.Core.List.{List, ◌∷◌}
use native.Mathlib.Omega.{arith}
use lib.ListN.{length, length-append}
use lib.Seq.{take_at}
use Rattle.std.specs.Prelude.{Some, None}
use Rattle.std.specs.List.{flat_map}
use Rattle.lemmas.proofs.Tests.{and_intro}
use Rattle.command.specs.Command.{cabinets}
use Rattle.layout.specs.Places.{slot_length, room_length, Row}
use Rattle.layout.specs.Cells.{limits_of}
use Rattle.layout.proofs.RoomLaws.{says_row}
use Rattle.range.proofs.Laws.{InRange, cells_say}
use Rattle.model.specs.Room.{Room, no_slot, slot}
use Rattle.model.specs.Fits.{fits_by, fits}
use Rattle.model.specs.Encoding.{slot_cells, cells_of, room_by, is_room, room_in}
use Rattle.model.specs.Promise.{CellsRow, RoomAgain, RoomInCells}
use Rattle.model.proofs.Decodes.{rows_length, state_length, read_again}
use Rattle.model.proofs.Shapes.{Shape, RoomIn, shape_of, room_holds}
use Rattle.model.proofs.Ranged.{fits_ranged}

module _ (r : Room) (i : Shape r) where
  pub cells_row : Row r.sizes (cells_of r)
  unfolding cells_of room_length
  cells_row =
      let head : List ℕ = r.sizes.servers ∷ r.sizes.drives ∷ r.sizes.slots ∷ r.off ∷ r.limits in
      let states = rows_length slot_cells (slot_length r.sizes) no_slot r.slots
      (λ j l. let e = i.long in state_length r.sizes (slot r j) (i.slots j (omega arith))) in
      let slots : length r.slots * slot_length r.sizes ≡ r.sizes.slots * slot_length r.sizes = ap (λ (k : ℕ). k * slot_length r.sizes) i.long in
      record { fit = i.fit; exact = let e = i.eight in omega (arith, length-append head (flat_map slot_cells r.slots)) }

  pub cells_limits : limits_of (cells_of r) ≡ r.limits
  unfolding cells_of
  cells_limits = take_at r.limits (flat_map slot_cells r.slots) cabinets i.eight

  -- what the cells of a room that fits hold
  pub cells_in : (value : ℕ → Bool) → RoomIn value r → InRange (limits_of (cells_of r)) value r.sizes (cells_of r)
  cells_in value k =
      cells_say (limits_of (cells_of r)) value r.sizes (cells_of r) cells_row
      (sym (fits_ranged value r.sizes (cells_of r)) ∙ ap (fits_by value) (read_again r i) ∙ room_holds value r i k)

pub cells_are_row : CellsRow
unfolding cells_of
cells_are_row r e = says_row (cells_of r) (cells_row r (shape_of r e))

pub room_again : RoomAgain
unfolding cells_of
room_again r e = read_again r (shape_of r e)

pub room_in_cells : RoomInCells
unfolding room_in cells_of
room_in_cells r e f =
    let i = shape_of r e in
    let is = read_again r i in
    let both : is_room (cells_of r) ≡ true
    = and_intro _ _ (says_row (cells_of r) (cells_row r i)) (ap fits is ∙ f) in
    ap (λ (t : Bool). cond t (Some (room_by r.sizes (cells_of r))) None) both ∙ ap Some is
