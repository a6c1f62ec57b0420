-- `Transcript::step_line` meets its contract: the index, the answer and the line's end follow each other.
use Rattle.std.proofs.Common.{sym, ◌∙◌}
use Rattle.transcript.specs.Lines.{step_line}
use Rattle.transcript.proofs.LineLaws.{both, prints}
use Rattle.transcript.proofs.Transcript.step_line.Goals as goal

pub returns-then-has_room : goal.returns-then-has_room
unfolding step_line
returns-then-has_room c =
    prints (sym c.has_room.ensures ∙ c.if-has_room.true) (both (both c.put_number.ensures c.put_answer.ensures) c.put.ensures)
