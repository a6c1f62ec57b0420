-- `used_drives` meets its contract: the drives passed so far are gathered, those that are used and those that are on.
use Rattle.std.proofs.Common.{◌≡◌}
use Rattle.quorum.specs.Sets.{gathered}
use Rattle.progress.specs.Used.{is_used}
use Rattle.synod.specs.Rules.{is_on}
use Rattle.next_step.proofs.used_drives.Given as goal

abbrev pub invariant-loop-d : goal.invariant-loop-d
invariant-loop-d l = (l.used ≡ gathered l.d (is_used l.drives l.off)) × (l.below ≡ gathered l.d (is_on l.off))
