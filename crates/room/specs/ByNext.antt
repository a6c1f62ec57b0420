-- A step on a row by the room that the row is (SPEC, "A room is a value").
use Rattle.std.specs.Prelude.{ℕ, List, ◌≡◌}
use Rattle.checks.specs.declared.Refusal.TheVariants.{OutOfRange}
use Rattle.checks.specs.Checks.{Must, mapped, left_by, outcome, ◌>>◌}
use Rattle.state.specs.Answers.{Answered}
use Rattle.state.specs.declared.Step.{Step}
use Rattle.model.specs.Next.{RoomRule, next}
use Rattle.model.specs.Encoding.{cells_of, room_of, is_room}
use Rattle.room.specs.Step.{answered, stepped}

-- the step on the room that a row is; 3 where it is none
unfoldable pub next_on : List ℕ → Step → RoomRule
next_on cells st = do
  Must (is_room cells) OutOfRange
  next (room_of cells) st

-- what it answers
unfoldable pub answers : List ℕ → Step → Answered
answers cells st = mapped (λ x. x.1) (outcome (next_on cells st))

-- the cells that it leaves: those of the room as it becomes, or as they were where the step is refused
unfoldable pub leaves : List ℕ → Step → List ℕ
leaves cells st = left_by (λ x. cells_of x.0) cells (outcome (next_on cells st))

-- what step answers, for every row and every step
abbrev pub AnswersNext : Type 0
AnswersNext = (cells : List ℕ) (st : Step) → answered cells st ≡ answers cells st

-- and every cell that it leaves
abbrev pub LeavesNext : Type 0
LeavesNext = (cells : List ℕ) (st : Step) → stepped cells st ≡ leaves cells st
