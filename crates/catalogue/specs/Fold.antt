-- A list of commands applied to the 64 cells, one after the other (SPEC, "The catalogue").
use Rattle.std.specs.Prelude.{cond, ℕ, ◌+◌, List, [], ◌∷◌, get_or, set, replicate}
use Rattle.command.specs.Command.{kind_of, piece_of, hoard_of}
use Rattle.catalogue.specs.Entry.{skips, entry}

-- one cell for each piece
abbrev pub pieces : ℕ
pieces = 64

-- the cells, and how many commands were skipped
pub record Entries : Type 0 where
  pub cells : List ℕ
  pub skipped : ℕ

-- the cell of the command's piece
abbrev pub cell_of : List ℕ → ℕ → ℕ
cell_of cells v = get_or cells (piece_of v) 0

-- the cells after one command
unfoldable pub cells_after : List ℕ → ℕ → List ℕ
cells_after cells v = set cells (piece_of v) (entry (kind_of v) (hoard_of v) (cell_of cells v))

-- 1 for a command that is skipped, 0 for any other
unfoldable pub skipped_by : List ℕ → ℕ → ℕ
skipped_by cells v = cond (skips (kind_of v) (cell_of cells v)) 1 0

abbrev pub applied : Entries → ℕ → Entries
applied e v = record { cells = cells_after e.cells v; skipped = e.skipped + skipped_by e.cells v }

-- the commands in their order, from a start
unfoldable pub folded : Entries → List ℕ → Entries
folded e [] = e
folded e (v ∷ vs) = folded (applied e v) vs

-- before the first command
abbrev pub start : Entries
start = record { cells = replicate pieces 0; skipped = 0 }
