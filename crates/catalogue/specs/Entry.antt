-- One command and the cell of its piece (SPEC, "The catalogue"). A cell is the piece's hoard, 0 if it has none, or struck.
use Rattle.std.specs.Prelude.{ℕ, Bool, not, ◌&&◌, ◌||◌, cond, eqb, ltb}
use Rattle.command.specs.Command.{enter, move, strike}

-- the cell of a piece that was struck: above every hoard
abbrev pub struck : ℕ
struck = 256

-- the cell is a hoard
abbrev pub entered : ℕ → Bool
entered cell = ltb 0 cell && ltb cell struck

-- a command of this kind does something to the cell
unfoldable pub applies : ℕ → ℕ → Bool
applies kind cell = (eqb kind enter && eqb cell 0) || ((eqb kind move || eqb kind strike) && entered cell)

-- it does nothing
abbrev pub skips : ℕ → ℕ → Bool
skips kind cell = not (applies kind cell)

-- what the cell becomes where the command is not skipped
abbrev pub changed : ℕ → ℕ → ℕ
changed kind hoard = cond (eqb kind strike) struck hoard

-- the cell after a command
unfoldable pub entry : ℕ → ℕ → ℕ → ℕ
entry kind hoard cell = cond (skips kind cell) cell (changed kind hoard)
