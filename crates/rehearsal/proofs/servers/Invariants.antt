-- `servers` meets its contract. The invariant: the lines of the servers so far stand behind what was there.
use Rattle.std.proofs.Common.{◌*◌}
use Rattle.transcript.specs.Lines.{line_max}
use Rattle.rehearsal.specs.Rehearsal.{server_lines}
use Rattle.rehearsal.specs.Buffer.{Adds}
use Rattle.rehearsal.proofs.servers.Given as goal

abbrev pub invariant-loop-p : goal.invariant-loop-p
invariant-loop-p l =
    Adds l.initial.text (server_lines l.room l.p) l.text (line_max * l.p)
