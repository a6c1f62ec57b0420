-- One history (SPEC, "The one-value machine", "The catalogue"): demand 3 of 01, as one claim about a whole list of calls.
use Rattle.std.specs.Prelude.{ℕ, ◌<◌, ◌≤◌, true, List, [], ◌≡◌, length, take}
use Rattle.checks.specs.Checks.{accepted}
use Rattle.state.specs.declared.Sizes.{Sizes}
use Rattle.history.specs.Calls.{Call, Event}
use Rattle.history.specs.Run.{history, Always, first_output, OfferedEarlier, AllCommit, CommitsOutput}
use Rattle.history.specs.Machine.{at_first, Follows}
use Rattle.catalogue.specs.Fold.{pieces, folded, start}
use Rattle.catalogue.specs.Outputs.{leading, outputs_of}
use Rattle.catalogue.specs.Call.{catalogue_of, catalogue_cells}
use Rattle.catalogue.specs.Listing.{taken_of, skipped_of}

-- the run's list of commands: slot by slot the command of the first committed answer, up to a slot without one
unfoldable pub commands_of : Sizes → List Event → List ℕ
commands_of z events = leading (λ t. first_output t events) 0 z.slots

-- The catalogue of server p in this room, with 64 cells lent: it is accepted, the commands that it takes, k of them, are
-- the first k of the list, and its counts and cells are their result.
pub record Shows (z : Sizes) (commands room : List ℕ) (p : ℕ) (out : List ℕ) : Type 0 where
  pub k : ℕ
  pub some : k ≤ length commands
  pub takes : outputs_of z room p ≡ take k commands
  pub accepted : accepted (catalogue_of room p out) ≡ true
  pub taken : taken_of (catalogue_of room p out) ≡ k
  pub skipped : skipped_of (catalogue_of room p out) ≡ (folded start (take k commands)).skipped
  pub cells : catalogue_cells room p out ≡ (folded start (take k commands)).cells

-- every server's catalogue
abbrev pub AllShow : Sizes → List ℕ → List ℕ → Type 0
AllShow z commands room = (p : ℕ) → p < z.servers → (out : List ℕ) → length out ≡ pieces → Shows z commands room p out

pub record OneHistory (z : Sizes) (cells : List ℕ) (calls : List Call) : Type 0 where
  -- every server's offer and output equal the machine's after every call: in each slot one path of machine states serves
  -- the entire list
  pub machines : (t : ℕ) → t < z.slots → Follows z t at_first cells calls
  -- the run has one list of commands, and at any moment every catalogue takes the first of them
  pub catalogues : Always (AllShow z (commands_of z (history cells calls))) cells calls
  -- the answers agree with the cells: right after a committed answer its command is that server's output in that slot
  pub outputs : (t : ℕ) → t < z.slots → CommitsOutput z t cells calls
  -- and with each other: every committed answer in a slot is with its one command
  pub agreed : (t : ℕ) → t < z.slots → AllCommit t (first_output t (history cells calls)) (history cells calls)
  -- every command was offered in its slot, at an earlier call than any output of it
  pub offered : (t : ℕ) → t < z.slots → OfferedEarlier t [] (history cells calls)
