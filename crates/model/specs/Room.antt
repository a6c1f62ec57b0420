-- A room as a value: what its servers and its drives hold of each slot (SPEC, "The room in memory"). Nothing of cells is said
-- here.
use Rattle.std.specs.Prelude.{ℕ, List, [], get_or, set, map}
use Rattle.state.specs.Block.{blank}
use Rattle.state.specs.Server.{failed, own_block}
use Rattle.state.specs.declared.Block.{Block}
use Rattle.state.specs.declared.Server.{Server}
use Rattle.state.specs.declared.Sizes.{Sizes}
use Rattle.synod.specs.Slot.{Slot}

-- what is held of one slot: the servers' records, and of each drive the servers' blocks
pub record SlotState : Type 0 where
  pub servers : List Server
  pub drives : List (List Block)

-- the sizes, the cell of off marks, the limits of the cabinets, and the slots
pub record Room : Type 0 where
  pub sizes : Sizes
  pub off : ℕ
  pub limits : List ℕ
  pub slots : List SlotState

-- nothing is held
abbrev pub no_slot : SlotState
no_slot = record { servers = []; drives = [] }

-- slot s; beyond the slots nothing is held
abbrev pub slot : Room → ℕ → SlotState
slot r s = get_or r.slots s no_slot

-- a slot as the rules see it; beyond its servers and drives there are failed servers and blank blocks
abbrev pub seen_of : SlotState → Slot
seen_of v = λ p. record { own = get_or v.servers p failed; disk = λ d. get_or (get_or v.drives d []) p blank }

abbrev pub seen_at : Room → ℕ → Slot
seen_at r s = seen_of (slot r s)

-- server p's record in slot s
abbrev pub own : Room → ℕ → ℕ → Server
own r s p = (seen_at r s p).own

-- server p's block on drive d in slot s
abbrev pub disk : Room → ℕ → ℕ → ℕ → Block
disk r s d p = (seen_at r s p).disk d

-- a slot with this record of server p
abbrev pub record_on : SlotState → ℕ → Server → SlotState
record_on v p w = record v { servers = set v.servers p w }

-- a slot with this block of server p on drive d
abbrev pub block_on : SlotState → ℕ → ℕ → Block → SlotState
block_on v d p b = record v { drives = set v.drives d (set (get_or v.drives d []) p b) }

-- the room with this slot s
abbrev pub with_slot : Room → ℕ → SlotState → Room
with_slot r s v = record r { slots = set r.slots s v }

-- The four ways in which a step changes a room.

-- the room in which server p has this record in slot s
abbrev pub with_server : Room → ℕ → ℕ → Server → Room
with_server r s p w = with_slot r s (record_on (slot r s) p w)

-- the room in which server p has this record in slot s, and that record's own block on drive d
abbrev pub with_write : Room → ℕ → ℕ → ℕ → Server → Room
with_write r s p d w = with_slot r s (block_on (record_on (slot r s) p w) d p (own_block w))

-- the room in which server p has failed in every slot
abbrev pub with_failure : Room → ℕ → Room
with_failure r p = record r { slots = map (λ v. record_on v p failed) r.slots }

-- the room with these off marks
abbrev pub with_off : Room → ℕ → Room
with_off r off = record r { off = off }
