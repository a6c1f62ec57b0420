-- `Transcript::open_line` meets its contract: the number with its label and the line's end follow each other.
use Rattle.std.proofs.Common.{sym, ◌∙◌}
use Rattle.transcript.specs.Lines.{open_line}
use Rattle.transcript.proofs.LineLaws.{both, prints}
use Rattle.transcript.proofs.Transcript.open_line.Goals as goal

pub returns-then-has_room : goal.returns-then-has_room
unfolding open_line
returns-then-has_room c =
    prints (sym c.has_room.ensures ∙ c.if-has_room.true) (both c.put_field.ensures c.put.ensures)
