-- What is read of a row is what the room that it is read as holds; and what a step makes of a room, by its view.
use Prim.Native.Nat.{ℕ, ◌<◌}
use mathlib.Core.Path.{◌≡◌, ◌∙◌, ap}
use mathlib.Core.List.{List, []}
use lib.ListN.{get_or}
use Rattle.state.specs.Block.{blank}
use Rattle.state.specs.Server.{failed}
use Rattle.state.specs.declared.Block.{Block}
use Rattle.state.specs.declared.Server.{Server}
use Rattle.state.specs.declared.Sizes.{Sizes}
use Rattle.state.specs.View.{Brings, Stores, Alone, View, AtSlot, AtServer, AtDrive}
use Rattle.synod.specs.Rules.{off_after}
use Rattle.layout.specs.Cells.{server_of, block_of}
use Rattle.model.specs.Room.{SlotState, Room, no_slot, slot, own, disk, with_server, with_write, with_failure}
use Rattle.model.specs.Encoding.{table, slot_by, room_by}
use Rattle.model.proofs.Tables.{table_at}

module _ (z : Sizes) (cells : List ℕ) where
  -- slot s of the room
  pub slot_there : (s : ℕ) → s < z.slots → slot (room_by z cells) s ≡ slot_by z cells s
  unfolding room_by
  slot_there s h = table_at z.slots (slot_by z cells) no_slot s h

  pub own_read : (s p : ℕ) → s < z.slots → p < z.servers → own (room_by z cells) s p ≡ server_of z cells s p
  own_read s p h l =
      ap (λ (v : SlotState). get_or v.servers p failed) (slot_there s h) ∙ table_at z.servers (server_of z cells s) failed p l

  pub disk_read : (s d p : ℕ) → s < z.slots → d < z.drives → p < z.servers → disk (room_by z cells) s d p ≡ block_of z cells s d p
  disk_read s d p h k l =
      ap (λ (v : SlotState). get_or (get_or v.drives d []) p blank) (slot_there s h)
      ∙ ap (λ (bs : List Block). get_or bs p blank) (table_at z.drives (λ e. table z.servers (block_of z cells s e)) [] d k)
      ∙ table_at z.servers (block_of z cells s d) blank p l

-- what a step makes of the slots, and of the room, by its view and the record of its rule
abbrev pub slots_after : Room → View → Server → List SlotState
slots_after r (AtSlot p s (Brings c)) v = (with_server r s p v).slots
slots_after r (AtSlot p s (Stores d)) v = (with_write r s p d v).slots
slots_after r (AtSlot p s Alone) v = (with_server r s p v).slots
slots_after r (AtServer p) v = (with_failure r p).slots
slots_after r (AtDrive d on) v = r.slots

abbrev pub stored_in : Room → View → Server → Room
stored_in r w v = record r { off = off_after r.off w; slots = slots_after r w v }
