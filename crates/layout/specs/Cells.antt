-- A record and a block as cells, read from a row and stored in it (SPEC, "The room in memory").
use Rattle.std.specs.Prelude.{ℕ, ◌+◌, Bool, ◌&&◌, List, [], ◌∷◌, length, get_or, set, take, drop, eqb, leb}
use Rattle.command.specs.Command.{cabinets}
use Rattle.command.specs.declared.Limits.{Limits}
use Rattle.state.specs.declared.Block.{Block}
use Rattle.state.specs.declared.Server.{Server}
use Rattle.state.specs.declared.Sizes.{Sizes}
use Rattle.layout.specs.Places.{base, sizes_fit, room_length, server_at, block_at}

-- what is stored from cell at + k on
abbrev pub put_from : List ℕ → ℕ → ℕ → List ℕ → List ℕ
put_from cells at k [] = cells
put_from cells at k (x ∷ xs) = put_from (set cells (at + k) x) at (k + 1) xs

-- the row with the cells xs stored at a place
abbrev pub put : List ℕ → ℕ → List ℕ → List ℕ
put cells at [] = cells
put cells at (x ∷ xs) = put_from (set cells at x) at 1 xs

abbrev pub sizes_of : List ℕ → Sizes
sizes_of cells = record { servers = get_or cells 0 0; drives = get_or cells 1 0; slots = get_or cells 2 0 }

-- the cells of the sizes
abbrev pub sizes_cells : Sizes → List ℕ
sizes_cells z = z.servers ∷ z.drives ∷ z.slots ∷ []

-- a row that is as long as the sizes in its head say
unfoldable pub is_row : List ℕ → Bool
is_row cells =
    leb base (length cells) && sizes_fit (sizes_of cells) && eqb (length cells) (room_length (sizes_of cells))

-- the cell of off marks
abbrev pub off_at : ℕ
off_at = 3

abbrev pub off_of : List ℕ → ℕ
off_of cells = get_or cells off_at 0

-- the limits that eight cells say
abbrev pub limits_by : List ℕ → Limits
limits_by cells = record { 0 = cells }

-- the first cell of the limits
abbrev pub limits_at : ℕ
limits_at = 4

-- the limits by which a room's commands are judged: cells 4 to 11
abbrev pub limits_of : List ℕ → List ℕ
limits_of cells = take cabinets (drop limits_at cells)

-- the eleven cells of a server record
abbrev pub server_cells : Server → List ℕ
server_cells v =
    v.phase ∷ v.mbal ∷ v.bal ∷ v.inp ∷ v.offer ∷ v.top ∷ v.seenbal ∷ v.seeninp ∷ v.written ∷ v.read ∷ v.agreed ∷ []

abbrev pub server_in : List ℕ → ℕ → Server
server_in cells at =
    record {
      phase = get_or cells at 0;
      mbal = get_or cells (at + 1) 0;
      bal = get_or cells (at + 2) 0;
      inp = get_or cells (at + 3) 0;
      offer = get_or cells (at + 4) 0;
      top = get_or cells (at + 5) 0;
      seenbal = get_or cells (at + 6) 0;
      seeninp = get_or cells (at + 7) 0;
      written = get_or cells (at + 8) 0;
      read = get_or cells (at + 9) 0;
      agreed = get_or cells (at + 10) 0;
    }

-- the four cells of a block
abbrev pub block_cells : Block → List ℕ
block_cells b = b.mbal ∷ b.bal ∷ b.inp ∷ b.done ∷ []

abbrev pub block_in : List ℕ → ℕ → Block
block_in cells at =
    record {
      mbal = get_or cells at 0;
      bal = get_or cells (at + 1) 0;
      inp = get_or cells (at + 2) 0;
      done = get_or cells (at + 3) 0;
    }

-- server p's record in slot s
unfoldable pub server_of : Sizes → List ℕ → ℕ → ℕ → Server
server_of z cells s p = server_in cells (server_at z s p)

unfoldable pub put_server : Sizes → List ℕ → ℕ → ℕ → Server → List ℕ
put_server z cells s p v = put cells (server_at z s p) (server_cells v)

-- server p's block on drive d in slot s
unfoldable pub block_of : Sizes → List ℕ → ℕ → ℕ → ℕ → Block
block_of z cells s d p = block_in cells (block_at z s d p)

unfoldable pub put_block : Sizes → List ℕ → ℕ → ℕ → ℕ → Block → List ℕ
put_block z cells s d p b = put cells (block_at z s d p) (block_cells b)
