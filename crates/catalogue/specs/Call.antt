-- The call (SPEC, "The catalogue", "Who can bring which number"): refused with 2 where out is not 64 cells, 3 where the
-- room is out of range, 4 where the server is beyond it. A refusal changes no cell.
use Rattle.std.specs.Prelude.{ℕ, ◌<◌, List, length, eqb, ltb, Result}
use Rattle.checks.specs.declared.Refusal.{Refusal}
use Rattle.checks.specs.declared.Refusal.TheVariants.{WrongLength, OutOfRange, BeyondRoom}
use Rattle.checks.specs.Checks.{Checked, Must, Gives, outcome, left_by}
use Rattle.command.specs.Command.{piece_of}
use Rattle.state.specs.declared.Sizes.{Sizes}
use Rattle.layout.specs.Cells.{sizes_of}
use Rattle.range.specs.Range.{in_range}
use Rattle.catalogue.specs.Fold.{pieces, Entries, folded, start}
use Rattle.catalogue.specs.Outputs.{output_at, outputs_of}
use Rattle.catalogue.specs.Listing.{counts}
use Rattle.catalogue.specs.declared.Counts.{Counts}

-- the entries that server p's outputs make
unfoldable pub entries_of : Sizes → List ℕ → ℕ → Entries
entries_of z room p = folded start (outputs_of z room p)

-- how many commands were taken, and how many of these were skipped
abbrev pub counted : Sizes → List ℕ → ℕ → Counts
counted z room p = counts (length (outputs_of z room p)) (entries_of z room p).skipped

unfoldable pub catalogue_checks : List ℕ → ℕ → List ℕ → Checked Counts
catalogue_checks room server out =
    Must (eqb (length out) pieces) WrongLength
    (Must (in_range room) OutOfRange
    (Must (ltb server (sizes_of room).servers) BeyondRoom
    (Gives (counted (sizes_of room) room server))))

-- the answer
unfoldable pub catalogue_of : List ℕ → ℕ → List ℕ → Result Counts Refusal
catalogue_of room server out = outcome (catalogue_checks room server out)

-- the 64 cells afterwards
unfoldable pub catalogue_cells : List ℕ → ℕ → List ℕ → List ℕ
catalogue_cells room server out =
    left_by (λ c. (entries_of (sizes_of room) room server).cells) out (catalogue_of room server out)

-- what the loop over the slots needs beside a room: the server is in it, and each of its outputs names a piece
pub record NamesPieces (z : Sizes) (room : List ℕ) (p : ℕ) : Type 0 where
  pub server : p < z.servers
  pub within : (s : ℕ) → s < z.slots → piece_of (output_at z room p s) < pieces
