-- `quorum::gather` meets its contract: the drives passed so far are gathered.
use Rattle.std.proofs.Common.{◌≡◌, ℕ, Bool}
use Rattle.quorum.specs.Sets.{gathered, Tells}
use Rattle.quorum.proofs.gather.Given as goal

abbrev pub invariant-loop-d : goal.invariant-loop-d
invariant-loop-d g l = (set : ℕ → Bool) → Tells (goal.F-post g l.test) set → l.marks ≡ gathered l.d set
