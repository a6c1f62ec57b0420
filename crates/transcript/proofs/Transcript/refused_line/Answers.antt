-- `Transcript::refused_line` meets its contract: the index, the number with its label and the line's end follow each other.
use Rattle.std.proofs.Common.{sym, ◌∙◌}
use Rattle.transcript.specs.Lines.{refused_line}
use Rattle.transcript.proofs.LineLaws.{both, and_field, prints}
use Rattle.transcript.proofs.Transcript.refused_line.Goals as goal

pub returns-then-has_room : goal.returns-then-has_room
unfolding refused_line
returns-then-has_room c =
    prints (sym c.has_room.ensures ∙ c.if-has_room.true) (both (and_field _ _ c.put_number.ensures c.put_field.ensures) c.put.ensures)
