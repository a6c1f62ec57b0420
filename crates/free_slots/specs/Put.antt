-- Put (SPEC, "Ask and Put"): 3 the room, 4 the server and the slot, 5 the command, 16 the slot is not free; then the rule of
-- the step Offer.
use Rattle.std.specs.Prelude.{ℕ, List, Result}
use Rattle.checks.specs.declared.Refusal.{Refusal}
use Rattle.checks.specs.declared.Refusal.TheVariants.{OutOfRange, BeyondRoom, NoCommand, SlotNotFree}
use Rattle.checks.specs.Checks.{Must, mapped, left_by}
use Rattle.command.specs.Command.{is_command}
use Rattle.state.specs.Answers.{Answered}
use Rattle.state.specs.Sizes.{in_room}
use Rattle.synod.specs.Rules.{Rule, ruling, offer_rule}
use Rattle.layout.specs.Cells.{sizes_of, limits_of, server_of}
use Rattle.range.specs.Range.{in_range}
use Rattle.room.specs.declared.effect.Effect.{Effect}
use Rattle.room.specs.Judge.{recording, answer_of}
use Rattle.room.specs.Step.{settled}
use Rattle.free_slots.specs.Ask.{free_at}

unfoldable pub put_rule : List ℕ → ℕ → ℕ → ℕ → Rule
put_rule cells p s v =
    Must (in_range cells) OutOfRange
    (Must (in_room (sizes_of cells) p s) BeyondRoom
    (Must (is_command (limits_of cells) v) NoCommand
    (Must (free_at (sizes_of cells) cells p s) SlotNotFree
    (offer_rule (server_of (sizes_of cells) cells s p) v))))

unfoldable pub put_judged : List ℕ → ℕ → ℕ → ℕ → Result Effect Refusal
put_judged cells p s v = mapped (recording s p) (ruling (put_rule cells p s v))

-- what put answers, and the cells that it leaves
unfoldable pub put_answered : List ℕ → ℕ → ℕ → ℕ → Answered
put_answered cells p s v = mapped answer_of (put_judged cells p s v)

unfoldable pub put_cells : List ℕ → ℕ → ℕ → ℕ → List ℕ
put_cells cells p s v = left_by (settled (sizes_of cells) cells) cells (put_judged cells p s v)
