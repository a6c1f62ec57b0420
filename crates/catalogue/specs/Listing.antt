-- The counts of a catalogue's answer (SPEC, "The catalogue", "Who can bring which number").
use Rattle.std.specs.Prelude.{ℕ, Result}
use Rattle.std.specs.Result.{result_unwrap_or}
use Rattle.checks.specs.declared.Refusal.{Refusal}
use Rattle.catalogue.specs.declared.Counts.{Counts}

-- k commands taken, n of them skipped
abbrev pub counts : ℕ → ℕ → Counts
counts k n = record { taken = k; skipped = n }

-- the counts of an answer; a refusal takes no command
abbrev pub counts_of : Result Counts Refusal → Counts
counts_of l = result_unwrap_or l (counts 0 0)

-- the commands taken
abbrev pub taken_of : Result Counts Refusal → ℕ
taken_of l = (counts_of l).taken

-- how many of them were skipped
abbrev pub skipped_of : Result Counts Refusal → ℕ
skipped_of l = (counts_of l).skipped
