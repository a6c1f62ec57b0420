-- `Transcript::server_line` meets its contract: three numbers with their labels and the line's end follow each other.
use Rattle.std.proofs.Common.{sym, ◌∙◌}
use Rattle.transcript.specs.Lines.{server_line}
use Rattle.transcript.proofs.LineLaws.{both, and_field, prints}
use Rattle.transcript.proofs.Transcript.server_line.Goals as goal

pub returns-then-has_room : goal.returns-then-has_room
unfolding server_line
returns-then-has_room c =
    prints (sym c.has_room.ensures ∙ c.if-has_room.true)
    (both
    (and_field _ _ (and_field _ _ c.put_field.ensures c.put_field-then-has_room.ensures) c.put_field-then-has_room-2.ensures)
    c.put.ensures)
