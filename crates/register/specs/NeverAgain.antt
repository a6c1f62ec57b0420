-- A struck number is never used again (SPEC, "The catalogue"): what a catalogue shows as struck at one moment of a run is
-- struck in every catalogue, at any moment, that takes as many commands or more.
use Rattle.std.specs.Prelude.{ℕ, ◌<◌, ◌≤◌, List, ◌≡◌, length, get_or}
use Rattle.state.specs.declared.Sizes.{Sizes}
use Rattle.history.specs.Calls.{Call}
use Rattle.history.specs.Run.{Always}
use Rattle.catalogue.specs.Entry.{struck}
use Rattle.catalogue.specs.Fold.{pieces}
use Rattle.catalogue.specs.Call.{catalogue_of, catalogue_cells}
use Rattle.catalogue.specs.Listing.{taken_of}

-- a catalogue of one room and a catalogue of another, of any servers and with any 64 cells lent
abbrev pub StaysStruck : Sizes → List ℕ → List ℕ → Type 0
StaysStruck z room other =
    (p q : ℕ) → p < z.servers → q < z.servers
    → (out lent : List ℕ) → length out ≡ pieces → length lent ≡ pieces
    → taken_of (catalogue_of room p out) ≤ taken_of (catalogue_of other q lent)
    → (piece : ℕ) → get_or (catalogue_cells room p out) piece 0 ≡ struck → get_or (catalogue_cells other q lent) piece 0 ≡ struck

-- at any two moments of a run
abbrev pub NeverAgain : Sizes → List ℕ → List Call → Type 0
NeverAgain z cells calls = Always (λ room. Always (StaysStruck z room) cells calls) cells calls
