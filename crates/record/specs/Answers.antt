-- The values of what reading and writing answer (SPEC, "Who can bring which number", "Step records").
use Rattle.std.specs.Prelude.{ℕ, ◌≡◌, Ok, Err}
use Rattle.state.specs.declared.Step.{Step}
use Rattle.record.specs.Read.{Reading}
use Rattle.record.specs.Write.{Writing}

-- reading answers this step, with this length used
abbrev pub Reads : Reading → Step → ℕ → Type 0
Reads (Ok (step, used)) st length = (step ≡ st) × (used ≡ length)
Reads (Err refusal) st length = ⊥

-- writing: the length used; a refusal uses none
abbrev pub write_length : Writing → ℕ
write_length (Ok used) = used
write_length (Err refusal) = 0
