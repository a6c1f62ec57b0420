-- Agreement in plain words: what the machine's path says of the outputs in one slot.
use Rattle.std.specs.Prelude.{ℕ, ◌<◌, List, ◌≡◌}
use Rattle.state.specs.declared.Sizes.{Sizes}
use Rattle.state.specs.Server.{output_of}
use Rattle.layout.specs.Cells.{server_of}
use Rattle.history.specs.Calls.{Call}
use Rattle.history.specs.Run.{Always}

-- every output in slot t of this room is v
abbrev pub AllOutput : Sizes → ℕ → ℕ → List ℕ → Type 0
AllOutput z t v room =
    (p : ℕ) → p < z.servers → (output_of (server_of z room t p) ≡ 0 → ⊥) → output_of (server_of z room t p) ≡ v

-- one command serves every server at every moment of the run
pub record Agree (z : Sizes) (cells : List ℕ) (calls : List Call) (t : ℕ) : Type 0 where
  pub command : ℕ
  pub always : Always (AllOutput z t command) cells calls
