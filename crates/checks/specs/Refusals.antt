-- The number of each refusal (SPEC, "Who can bring which number"), and the refusals of a call, with the condition under which
-- each applies, read off its checks.
use Rattle.std.specs.Prelude.{ℕ, Bool, true, not, ◌&&◌, cond, List, [], ◌∷◌, ltb, Result, Ok, Err}
use Rattle.checks.specs.declared.Refusal.{Refusal}
use Rattle.checks.specs.declared.Refusal.TheVariants.{SizesUnfit, WrongLength, OutOfRange, BeyondRoom, NoCommand, NotOwnBallot, WrongPhase, DriveIsOff, NotWritten, NoMajority, BallotTooLow, NothingToTry, BallotsSpent, CutShort, Malformed, SlotNotFree, NoSlotFree, LimitsUnfit, OnDrivesTooFew}
use Rattle.checks.specs.Checks.{Checked, Must, Either, Gives}

abbrev pub refusal_number : Refusal → ℕ
refusal_number SizesUnfit = 1
refusal_number WrongLength = 2
refusal_number OutOfRange = 3
refusal_number BeyondRoom = 4
refusal_number NoCommand = 5
refusal_number NotOwnBallot = 6
refusal_number WrongPhase = 7
refusal_number DriveIsOff = 8
refusal_number NotWritten = 9
refusal_number NoMajority = 10
refusal_number BallotTooLow = 11
refusal_number NothingToTry = 12
refusal_number BallotsSpent = 13
refusal_number CutShort = 14
refusal_number Malformed = 15
refusal_number SlotNotFree = 16
refusal_number NoSlotFree = 17
refusal_number LimitsUnfit = 18
refusal_number OnDrivesTooFew = 19

-- the number of what a call answers: 0 where it is accepted
abbrev pub refusal_in : {A : Type 0} → Result A Refusal → ℕ
refusal_in (Ok a) = 0
refusal_in (Err refusal) = refusal_number refusal

-- a refusal that the checks can bring: its number, and whether it applies
pub record Possible : Type 0 where
  pub number : ℕ
  pub applies : Bool

-- this refusal where the condition holds
infix 70 ◌where_holds◌
abbrev pub ◌where_holds◌ : Refusal → Bool → Possible
refusal where_holds b = record { number = refusal_number refusal; applies = b }

-- those on the ways that the test g leaves open, before those of rest
abbrev pub refusals_in : {A : Type 0} → Bool → Checked A → List Possible → List Possible
refusals_in g (Must b n c) rest = n where_holds (g && not b) ∷ refusals_in g c rest
refusals_in g (Either t x y) rest = refusals_in (g && t) x (refusals_in (g && not t) y rest)
refusals_in g (Gives a) rest = rest

abbrev pub refusals_of : {A : Type 0} → Checked A → List Possible
refusals_of c = refusals_in true c []

-- their numbers, in the order of the checks
unfoldable pub numbers_of : List Possible → List ℕ
numbers_of [] = []
numbers_of (r ∷ rs) = r.number ∷ numbers_of rs

-- the numbers rise, from above n on
unfoldable pub rises : ℕ → List ℕ → Bool
rises n [] = true
rises n (m ∷ ms) = ltb n m && rises m ms

-- the number of the first that applies; 0 where none does. Where the numbers rise, the first is the lowest.
unfoldable pub lowest : List Possible → ℕ
lowest [] = 0
lowest (r ∷ rs) = cond r.applies r.number (lowest rs)
