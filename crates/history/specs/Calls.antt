-- What a run is made of (SPEC, "The one-value machine"): calls on a room, each with its answer.
use Rattle.std.specs.Prelude.{ℕ, List, [], ◌∷◌, Option, Some, None, Result}
use Rattle.checks.specs.declared.Refusal.{Refusal}
use Rattle.state.specs.declared.Step.{Step}
use Rattle.state.specs.declared.Step.TheVariants.{Offer}
use Rattle.state.specs.Answers.{Answered}
use Rattle.room.specs.Step.{answered, stepped}
use Rattle.free_slots.specs.Ask.{asked}
use Rattle.free_slots.specs.Put.{put_answered, put_cells}

-- a step; Ask of server p; Put of server p in slot s with command v
pub data Call : Type 0 where
  Steps : Step → Call
  Asks : (p : ℕ) → Call
  Puts : (p s v : ℕ) → Call

-- a call with its answer
pub data Event : Type 0 where
  Took : Step → Answered → Event
  Asked : (p : ℕ) → Result ℕ Refusal → Event
  Put : (p s v : ℕ) → Answered → Event

-- the event of a call on these cells
abbrev pub event_of : List ℕ → Call → Event
event_of cells (Steps st) = Took st (answered cells st)
event_of cells (Asks p) = Asked p (asked cells p)
event_of cells (Puts p s v) = Put p s v (put_answered cells p s v)

-- the cells that it leaves
abbrev pub called : List ℕ → Call → List ℕ
called cells (Steps st) = stepped cells st
called cells (Asks p) = cells
called cells (Puts p s v) = put_cells cells p s v

-- What an event counts as in all that is told of a run: a step with its answer. A Put counts as an Offer, an Ask as nothing.
abbrev pub told : Event → Option (Step × Answered)
told (Took st a) = Some (st, a)
told (Asked p a) = None
told (Put p s v a) = Some (Offer p s v, a)

-- a run of steps alone
unfoldable pub all_steps : List Step → List Call
all_steps [] = []
all_steps (st ∷ sts) = Steps st ∷ all_steps sts
