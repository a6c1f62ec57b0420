-- What a step would answer and store, without storing (SPEC, "The ten steps", "Who can bring which number"). The checks
-- stand in the order of their numbers: the room 3, the places 4, the command 5, then the rule's own.
use Rattle.std.specs.Prelude.{ℕ, List, Result}
use Rattle.checks.specs.declared.Refusal.{Refusal}
use Rattle.checks.specs.declared.Refusal.TheVariants.{OutOfRange, BeyondRoom, NoCommand}
use Rattle.checks.specs.Checks.{Must, outcome, mapped}
use Rattle.state.specs.declared.Answer.{Answer}
use Rattle.state.specs.declared.Answer.TheVariants.{Done}
use Rattle.state.specs.declared.Server.{Server}
use Rattle.state.specs.declared.Sizes.{Sizes}
use Rattle.state.specs.declared.Step.{Step}
use Rattle.state.specs.View.{Brings, Stores, Alone, View, AtSlot, AtServer, AtDrive, view_of, view_slot}
use Rattle.synod.specs.Arguments.{places_fit, command_fits}
use Rattle.synod.specs.Slot.{Slot, config_of}
use Rattle.synod.specs.Rules.{Rule, ruling, rule_of, off_after}
use Rattle.layout.specs.Cells.{sizes_of, limits_of, off_of, server_of, block_of}
use Rattle.range.specs.Range.{in_range}
use Rattle.room.specs.declared.effect.Effect.{Effect}
use Rattle.room.specs.declared.effect.Effect.TheVariants as effect

-- slot t of the cells, as the rules see it
abbrev pub seen : Sizes → List ℕ → ℕ → Slot
seen z cells t = λ p. record { own = server_of z cells t p; disk = λ d. block_of z cells t d p }

-- the rule of the step's kind, at the slot that it names
abbrev pub rule_at : Sizes → List ℕ → Step → Rule
rule_at z cells st = rule_of (config_of z) (off_of cells) (seen z cells (view_slot (view_of st))) st

-- the record of server p in slot s is to be stored, with the answer
abbrev pub recording : ℕ → ℕ → Server × Answer → Effect
recording s p x = effect.Record s p x.0 x.1

-- where the record of an accepted step and the off marks are to be stored; for a Write the block too
abbrev pub effect_at : View → ℕ → Server × Answer → Effect
effect_at (AtSlot p s (Brings c)) off x = recording s p x
effect_at (AtSlot p s (Stores d)) off x = effect.Block s d p x.0
effect_at (AtSlot p s Alone) off x = recording s p x
effect_at (AtServer p) off x = effect.Failure p
effect_at (AtDrive d on) off x = effect.Off off

abbrev pub effect_by : List ℕ → Step → Server × Answer → Effect
effect_by cells st = effect_at (view_of st) (off_after (off_of cells) (view_of st))

-- what the rule of the step's kind makes of the cells
unfoldable pub effect_of : Sizes → List ℕ → Step → Result Effect Refusal
effect_of z cells st = mapped (effect_by cells st) (ruling (rule_at z cells st))

-- the room, the places and the command, then the rule
unfoldable pub step_rule : List ℕ → Step → Rule
step_rule cells step =
    Must (in_range cells) OutOfRange
    (Must (places_fit (sizes_of cells) step) BeyondRoom
    (Must (command_fits (limits_of cells) step) NoCommand
    (rule_at (sizes_of cells) cells step)))

unfoldable pub judged : List ℕ → Step → Result Effect Refusal
judged cells step = mapped (effect_by cells step) (outcome (step_rule cells step))

-- the answer that goes with an effect
abbrev pub answer_of : Effect → Answer
answer_of (effect.Record s p v a) = a
answer_of (effect.Block s d p v) = Done
answer_of (effect.Failure p) = Done
answer_of (effect.Off marks) = Done
