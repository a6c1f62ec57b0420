-- The places of a room (SPEC, "The room in memory"). The literals of the layout stand here and in Cells alone.
use Rattle.std.specs.Prelude.{ℕ, ◌+◌, ◌*◌, ◌≤◌, Bool, ◌&&◌, cond, List, ◌≡◌, length, leb}
use Rattle.state.specs.declared.Sizes.{Sizes}
use Rattle.state.specs.Sizes.{in_room, drive_fits}

-- cells 0 to 3 are N, D, S and the off marks, 4 to 11 the limits of the cabinets
abbrev pub base : ℕ
base = 12

-- cells of a server record
abbrev pub server_length : ℕ
server_length = 11

-- cells of a block
abbrev pub block_length : ℕ
block_length = 4

-- cells of the longest slot and of the longest room: 4 servers, 7 drives, 16 slots
abbrev pub longest_slot : ℕ
longest_slot = server_length * 4 + block_length * 28

abbrev pub longest_room : ℕ
longest_room = base + 16 * longest_slot

-- the cells of one slot: N records, then for each drive N blocks
unfoldable pub slot_length : Sizes → ℕ
slot_length z = server_length * z.servers + block_length * (z.drives * z.servers)

-- the cells of a room
unfoldable pub room_length : Sizes → ℕ
room_length z = base + z.slots * slot_length z

-- where slot s begins
unfoldable pub slot_at : Sizes → ℕ → ℕ
slot_at z s = base + s * slot_length z

-- where the record of server p in slot s begins
unfoldable pub server_at : Sizes → ℕ → ℕ → ℕ
server_at z s p = slot_at z s + server_length * p

-- where the k-th block of slot s begins, counted drive by drive
unfoldable pub nth_block_at : Sizes → ℕ → ℕ → ℕ
nth_block_at z s k = slot_at z s + server_length * z.servers + block_length * k

-- where server p's block on drive d in slot s begins
unfoldable pub block_at : Sizes → ℕ → ℕ → ℕ → ℕ
block_at z s d p = nth_block_at z s (d * z.servers + p)

-- the sizes that a room may have
unfoldable pub sizes_fit : Sizes → Bool
sizes_fit z =
    leb 1 z.servers && leb z.servers 4
    && leb 1 z.drives && leb z.drives 7
    && leb 1 z.slots && leb z.slots 16

-- the cells that a room of these sizes has; none where they do not fit
abbrev pub length_of : Sizes → ℕ
length_of z = cond (sizes_fit z) (room_length z) 0

-- a room of these sizes has a record of server p in slot s
abbrev pub has_record : Sizes → ℕ → ℕ → Bool
has_record z p s = sizes_fit z && in_room z p s

-- where server p's record in slot s begins; 0, which is a cell of the head, where the room has no such place
abbrev pub server_place : Sizes → ℕ → ℕ → ℕ
server_place z p s = cond (has_record z p s) (server_at z s p) 0

-- where its block on drive d begins, likewise
abbrev pub block_place : Sizes → ℕ → ℕ → ℕ → ℕ
block_place z p s d = cond (has_record z p s && drive_fits z d) (block_at z s d p) 0

-- the sizes as bounds
pub record Fit (z : Sizes) : Type 0 where
  pub one_server : 1 ≤ z.servers
  pub servers : z.servers ≤ 4
  pub one_drive : 1 ≤ z.drives
  pub drives : z.drives ≤ 7
  pub one_slot : 1 ≤ z.slots
  pub slots : z.slots ≤ 16

-- a row that is as long as a room of these sizes
pub record Row (z : Sizes) (cells : List ℕ) : Type 0 where
  pub fit : Fit z
  pub exact : length cells ≡ room_length z
