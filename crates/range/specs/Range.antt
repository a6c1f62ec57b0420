-- Cells in range (SPEC, "The room in memory"): refusal 3 says that they are not.
use Rattle.std.specs.Prelude.{ℕ, ◌*◌, ◌/◌, ◌%◌, Bool, ◌&&◌, ◌||◌, List, length, take, drop, map, eqb, leb, ltb}
use Rattle.std.specs.List.{list_all, zip}
use Rattle.std.specs.Simd.{first_chunks}
use Rattle.command.specs.Command.{limits_fit, is_command}
use Rattle.quorum.specs.Sets.{all_below, gathered, within}
use Rattle.state.specs.Block.{ballot_fits}
use Rattle.state.specs.declared.Block.{Block}
use Rattle.state.specs.declared.Server.{Server}
use Rattle.state.specs.declared.Sizes.{Sizes}
use Rattle.layout.specs.Places.{server_length, block_length, nth_block_at}
use Rattle.layout.specs.Cells.{sizes_of, is_row, off_of, limits_of, server_in, server_of, block_in}
use Rattle.range.specs.declared.Masks.{Masks}

-- the marks that may stand: of drives, and of blocks read (bit 4d + q)
unfoldable pub legal_drives : Sizes → ℕ
legal_drives z = gathered 32 (λ i. ltb i z.drives)

unfoldable pub legal_reads : Sizes → ℕ
legal_reads z = gathered 32 (λ i. ltb (i / 4) z.drives && ltb (i % 4) z.servers)

abbrev pub masks_of : Sizes → Masks
masks_of z = record { drives = legal_drives z; reads = legal_reads z }

-- what a cell that holds a command may hold
unfoldable pub value_fits : List ℕ → ℕ → Bool
value_fits limits v = eqb v 0 || is_command limits v

-- the phase, the ballots and the marks of a server record
unfoldable pub numbers_fit : Masks → Server → Bool
numbers_fit k v =
    leb v.phase 3
    && ballot_fits v.mbal
    && ballot_fits v.bal
    && ballot_fits v.top
    && ballot_fits v.seenbal
    && within v.written k.drives
    && within v.read k.reads

-- one server record; value says what a cell that holds a command may hold
unfoldable pub server_fits : (ℕ → Bool) → Masks → Server → Bool
server_fits value k v = numbers_fit k v && value v.inp && value v.offer && value v.seeninp && value v.agreed

-- the ballots of a block
abbrev pub ballots_fit : Block → Bool
ballots_fit b = ballot_fits b.mbal && ballot_fits b.bal

-- the values of a block
abbrev pub values_fit : (ℕ → Bool) → Block → Bool
values_fit value b = value b.inp && value b.done

-- one block
unfoldable pub block_fits : (ℕ → Bool) → Block → Bool
block_fits value b = ballots_fit b && values_fit value b

-- a row of cells as chunks of n cells each
abbrev pub chunks : ℕ → List ℕ → List (List ℕ)
chunks n cells = first_chunks n (length cells / n) cells

-- some blocks by their cells, and a test of each of them
abbrev pub blocks_of : List (List ℕ) → List Block
blocks_of blocks = map (λ cells. block_in cells 0) blocks

abbrev pub every_block : (Block → Bool) → List (List ℕ) → Bool
every_block test blocks = list_all (λ cells. test (block_in cells 0)) blocks

-- and of each beside the one at its place among others
abbrev pub every_pair : (Block → Block → Bool) → List (List ℕ) → List (List ℕ) → Bool
every_pair test blocks others = list_all (λ p. test (block_in p.0 0) (block_in p.1 0)) (zip blocks others)

-- a slot as a row of its own, which begins with n cells of server records
abbrev pub slot_in : (ℕ → Bool) → Masks → ℕ → List ℕ → Bool
slot_in value k n slot =
    list_all (λ cells. server_fits value k (server_in cells 0)) (chunks server_length (take n slot))
    && every_block (block_fits value) (chunks block_length (drop n slot))

-- a block with no value but v
unfoldable pub holds_only : ℕ → Block → Bool
holds_only v b = (eqb b.inp 0 || eqb b.inp v) && (eqb b.done 0 || eqb b.done v)

-- every server record of slot s
unfoldable pub servers_fit : (ℕ → Bool) → Sizes → List ℕ → ℕ → Bool
servers_fit value z cells s = all_below z.servers (λ p. server_fits value (masks_of z) (server_of z cells s p))

-- every block of slot s
unfoldable pub blocks_fit : (ℕ → Bool) → Sizes → List ℕ → ℕ → Bool
blocks_fit value z cells s = all_below (z.drives * z.servers) (λ j. block_fits value (block_in cells (nth_block_at z s j)))

unfoldable pub slot_fits : (ℕ → Bool) → Sizes → List ℕ → ℕ → Bool
slot_fits value z cells s = servers_fit value z cells s && blocks_fit value z cells s

-- the limits, the off marks and the slots of a room of these sizes; value says what a cell that holds a command may hold
abbrev pub room_fits_by : (ℕ → Bool) → List ℕ → Sizes → List ℕ → Bool
room_fits_by value limits z cells =
    limits_fit limits && (within (off_of cells) (legal_drives z) && all_below z.slots (slot_fits value z cells))

-- by the room's limits: 0 or a command
unfoldable pub room_fits : List ℕ → Sizes → List ℕ → Bool
room_fits limits z cells = room_fits_by (value_fits limits) limits z cells

-- a row that is a room with every cell in range
unfoldable pub in_range : List ℕ → Bool
in_range cells = is_row cells && room_fits (limits_of cells) (sizes_of cells) cells
