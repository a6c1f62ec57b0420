-- A run is its history: the list of calls with their answers (SPEC, "The one-value machine"). What is told of a run is
-- read off this list, never off the cells; what it says of outputs is compared with them at the end.
use Rattle.std.specs.Prelude.{ℕ, Bool, ◌≡◌, ◌==◌, if◌then◌else◌}
use Rattle.std.specs.Option.{option_map_or}
use mathlib.Core.List.{List, [], ◌∷◌, Memᴰ}
use Rattle.checks.specs.Checks.{accepted}
use Rattle.state.specs.declared.Sizes.{Sizes}
use Rattle.state.specs.declared.Step.{Step}
use Rattle.state.specs.Answers.{Answered, code_of, number_of}
use Rattle.state.specs.Server.{output_of}
use Rattle.state.specs.View.{Deed, Brings, Stores, Alone, View, AtSlot, AtServer, AtDrive, view_of}
use Rattle.layout.specs.Cells.{server_of}
use Rattle.history.specs.Calls.{Call, Event, event_of, called, told}

-- the cells after a list of calls
unfoldable pub ran : List ℕ → List Call → List ℕ
ran cells [] = cells
ran cells (c ∷ cs) = ran (called cells c) cs

-- the calls with their answers, in order
unfoldable pub history : List ℕ → List Call → List Event
history cells [] = []
history cells (c ∷ cs) = event_of cells c ∷ history (called cells c) cs

-- at the start and after each call
unfoldable pub Always : (List ℕ → Type 0) → List ℕ → List Call → Type 0
Always P cells [] = P cells
Always P cells (c ∷ cs) = P cells × Always P (called cells c) cs

-- the answer has the word committed
abbrev pub committed : Answered → Bool
committed a = code_of a == 3

-- the move of a slot's machine
pub data Move : Type 0 where
  Offers : ℕ → ℕ → Move
  Chooses : ℕ → Move
  Fails : ℕ → Move
  Rests : Move

-- The move that a step with this answer makes. A Choose is read off the answer, not off the kind: a Finish that
-- commits and a Read that learns are answered so, and nothing else.
abbrev pub deed_move : ℕ → Deed → Answered → Move
deed_move p (Brings c) a = if accepted a then Offers p c else Rests
deed_move p (Stores d) a = if committed a then Chooses p else Rests
deed_move p Alone a = if committed a then Chooses p else Rests

abbrev pub move_at : ℕ → View → Answered → Move
move_at t (AtSlot p s k) a = if s == t then deed_move p k a else Rests
move_at t (AtServer p) a = if accepted a then Fails p else Rests
move_at t (AtDrive d on) a = Rests

unfoldable pub move_of : ℕ → Step → Answered → Move
move_of t st a = move_at t (view_of st) a

-- the move of an event
abbrev pub move_in : ℕ → Event → Move
move_in t e = option_map_or (λ x. move_of t x.0 x.1) (told e) Rests

-- the command with which an answer committed, by the move; 0 where it did not
abbrev pub output_in : Move → Answered → ℕ
output_in (Offers p v) a = 0
output_in (Chooses p) a = number_of a
output_in (Fails p) a = 0
output_in Rests a = 0

unfoldable pub output_by : ℕ → Event → ℕ
output_by t e = option_map_or (λ x. output_in (move_of t x.0 x.1) x.1) (told e) 0

-- the first that is not 0
abbrev pub or_else : ℕ → ℕ → ℕ
or_else a b = if a == 0 then b else a

-- the command of the first committed answer in the slot; 0 where there is none
unfoldable pub first_output : ℕ → List Event → ℕ
first_output t [] = 0
first_output t (e ∷ h) = or_else (output_by t e) (first_output t h)

-- the commands offered so far in a slot, with those that a move offers
abbrev pub given : Move → List ℕ → List ℕ
given (Offers p v) l = v ∷ l
given (Chooses p) l = l
given (Fails p) l = l
given Rests l = l

-- a claim about the server of a committed answer: nothing is claimed of any other answer
abbrev pub WhenChooses : Move → (ℕ → Type 0) → Type 0
WhenChooses (Offers p v) A = Unit {0}
WhenChooses (Chooses p) A = A p
WhenChooses (Fails p) A = Unit {0}
WhenChooses Rests A = Unit {0}

-- every committed answer is with a command that was offered for its slot by an accepted Offer or Put at an earlier call:
-- seen holds the commands offered before the history begins
unfoldable pub OfferedEarlier : ℕ → List ℕ → List Event → Type 0
OfferedEarlier t seen [] = Unit {0}
OfferedEarlier t seen (e ∷ h) =
    WhenChooses (move_in t e) (λ p. Memᴰ (output_by t e) seen) × OfferedEarlier t (given (move_in t e) seen) h

-- every committed answer in the slot is with the command v, which is not 0
unfoldable pub AllCommit : ℕ → ℕ → List Event → Type 0
AllCommit t v [] = Unit {0}
AllCommit t v (e ∷ h) =
    WhenChooses (move_in t e) (λ p. (output_by t e ≡ v) × (v ≡ 0 → ⊥)) × AllCommit t v h

-- right after every committed answer in the slot, its server's output there is the answer's command
unfoldable pub CommitsOutput : Sizes → ℕ → List ℕ → List Call → Type 0
CommitsOutput z t cells [] = Unit {0}
CommitsOutput z t cells (c ∷ cs) =
    WhenChooses (move_in t (event_of cells c)) (λ p. output_of (server_of z (called cells c) t p) ≡ output_by t (event_of cells c))
    × CommitsOutput z t (called cells c) cs
