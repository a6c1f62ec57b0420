-- `run` meets its contract: open answers that the room is opened or, since the row is exact, that the sizes do not fit.
use Rattle.std.proofs.Common.{sym, rules}
use Rattle.rehearsal.specs.Script.{script}
use Rattle.rehearsal.proofs.BufferLaws.{adds_then}
use Rattle.rehearsal.proofs.OpenedLaws.{opened_text, refused_text}
use Rattle.rehearsal.proofs.run.Goals as goal

pub returns-in-Ok : goal.returns-in-Ok
returns-in-Ok c =
    opened_text c.args.z _ (script c.args.records.now) (rw c.of_cabinets.ensures at (sym c.in-Ok.ensures.0)) (rw c.of_cabinets.ensures at c.«open».ensures.1) c.steps.ensures.room
    (adds_then c.steps.ensures.lines c.servers.ensures)

pub returns-in-Err : goal.returns-in-Err
returns-in-Err c =
    refused_text c.args.z _ (script c.args.records.now) (search rules)
    (rw c.of_cabinets.ensures at (sym c.in-Err.ensures.0)) (search rules) c.number.ensures c.open_line.ensures
