-- The commands that a catalogue takes (SPEC, "The catalogue"): a server's outputs from slot 0 up to the first slot without
-- one.
use Rattle.std.specs.Prelude.{ℕ, zero, suc, cond, List, [], ◌∷◌, eqb}
use Rattle.state.specs.declared.Sizes.{Sizes}
use Rattle.state.specs.Server.{output_of}
use Rattle.layout.specs.Cells.{server_of}

-- the output of server p in slot s; 0 is none
unfoldable pub output_at : Sizes → List ℕ → ℕ → ℕ → ℕ
output_at z cells p s = output_of (server_of z cells s p)

-- the values of f at the n numbers from s on, up to the first that is 0
unfoldable pub leading : (ℕ → ℕ) → ℕ → ℕ → List ℕ
leading f s zero = []
leading f s (suc n) = cond (eqb (f s) 0) [] (f s ∷ leading f (suc s) n)

unfoldable pub outputs_of : Sizes → List ℕ → ℕ → List ℕ
outputs_of z cells p = leading (output_at z cells p) 0 z.slots
