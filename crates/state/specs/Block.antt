-- The block and the ballots that cells hold (SPEC, "The room in memory").
use Rattle.std.specs.Prelude.{ℕ, Bool, ◌&&◌, cond, eqb, leb, Option, Some, None}
use Rattle.state.specs.declared.Block.{Block}

-- the block of these ballots and this command, with no done
abbrev pub block : ℕ → ℕ → ℕ → Block
block mbal bal inp = record { mbal = mbal; bal = bal; inp = inp; done = 0 }

-- nothing was written yet
abbrev pub blank : Block
blank = block 0 0 0

-- two blocks are equal, cell by cell
unfoldable pub same_block : Block → Block → Bool
same_block a b = eqb a.mbal b.mbal && eqb a.bal b.bal && eqb a.inp b.inp && eqb a.done b.done

-- the command that a cell holds; 0 is none
abbrev pub command_in : ℕ → Option ℕ
command_in cell = cond (eqb cell 0) None (Some cell)

-- the largest ballot
abbrev pub limit : ℕ
limit = 1000000

-- what a cell that holds a ballot may hold; 0 is none
abbrev pub ballot_fits : ℕ → Bool
ballot_fits b = leb b limit
