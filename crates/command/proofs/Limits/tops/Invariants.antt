-- `Limits::tops` meets its contract: the limits passed so far stand in the table.
use mathlib.Core.Path.{◌≡◌}
use Rattle.command.proofs.TopLaws.{tops_after}
use Rattle.command.proofs.Limits.tops.Given as goal

abbrev pub invariant-loop-i : goal.invariant-loop-i
invariant-loop-i l = l.tops ≡ tops_after l.self.0 l.i
