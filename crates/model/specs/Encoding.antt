-- The cells of a room, and the room that a row of cells is (SPEC, "The room in memory", "A room is a value").
use Rattle.std.specs.Prelude.{if◌then◌else◌, ℕ, Bool, ◌&&◌, List, ◌∷◌, ◌++◌, map, Option, Some, None}
use Rattle.std.specs.List.{flat_map, range_with_len}
use Rattle.state.specs.declared.Sizes.{Sizes}
use Rattle.layout.specs.Cells.{sizes_of, sizes_cells, is_row, off_of, limits_of, server_cells, server_of, block_cells, block_of}
use Rattle.model.specs.Room.{SlotState, Room}
use Rattle.model.specs.Fits.{fits}

-- the servers' records, then drive by drive the servers' blocks
abbrev pub slot_cells : SlotState → List ℕ
slot_cells v = flat_map server_cells v.servers ++ flat_map (flat_map block_cells) v.drives

-- the sizes, the off marks, the limits, then slot by slot
unfoldable pub cells_of : Room → List ℕ
cells_of r = sizes_cells r.sizes ++ (r.off ∷ (r.limits ++ flat_map slot_cells r.slots))

-- f at 0 to n - 1
abbrev pub table : {A : Type 0} → ℕ → (ℕ → A) → List A
table n f = map f (range_with_len 0 n)

-- slot s of the cells of a room of these sizes
abbrev pub slot_by : Sizes → List ℕ → ℕ → SlotState
slot_by z cells s =
    record {
      servers = table z.servers (server_of z cells s);
      drives = table z.drives (λ d. table z.servers (block_of z cells s d));
    }

-- the cells, read as those of a room of these sizes
unfoldable pub room_by : Sizes → List ℕ → Room
room_by z cells =
    record { sizes = z; off = off_of cells; limits = limits_of cells; slots = table z.slots (slot_by z cells) }

-- the cells, read as those of a room of the sizes in their head
abbrev pub room_of : List ℕ → Room
room_of cells = room_by (sizes_of cells) cells

-- whether a row is a room: its sizes fit, it is as long as they say, and what is read of it is in range
abbrev pub is_room : List ℕ → Bool
is_room cells = is_row cells && fits (room_of cells)

-- the room that a row is, if it is one
unfoldable pub room_in : List ℕ → Option Room
room_in cells = if is_room cells then Some (room_of cells) else None
