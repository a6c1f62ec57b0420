-- No two refusals share a number, and none has the number 0.
use Prim.Native.Nat.{ℕ, ◌≤◌}
use mathlib.Core.Path.{◌≡◌, refl, ◌∙◌, sym, ap}
use mathlib.Core.List.{[], ◌∷◌}
use native.Mathlib.Omega.{arith}
use lib.ListN.{get_or}
use Rattle.std.specs.Prelude.{Result, Ok, Err}
use Rattle.checks.specs.declared.Refusal.{Refusal}
use Rattle.checks.specs.declared.Refusal.TheVariants.{SizesUnfit, WrongLength, OutOfRange, BeyondRoom, NoCommand, NotOwnBallot, WrongPhase, DriveIsOff, NotWritten, NoMajority, BallotTooLow, NothingToTry, BallotsSpent, CutShort, Malformed, SlotNotFree, NoSlotFree, LimitsUnfit, OnDrivesTooFew}
use Rattle.checks.specs.Refusals.{refusal_number, refusal_in}

-- the refusal with this number; for a number that none has, the first
abbrev pub refusal_at : ℕ → Refusal
refusal_at n =
    get_or
    (SizesUnfit
    ∷ SizesUnfit
    ∷ WrongLength
    ∷ OutOfRange
    ∷ BeyondRoom
    ∷ NoCommand
    ∷ NotOwnBallot
    ∷ WrongPhase
    ∷ DriveIsOff
    ∷ NotWritten
    ∷ NoMajority
    ∷ BallotTooLow
    ∷ NothingToTry
    ∷ BallotsSpent
    ∷ CutShort
    ∷ Malformed
    ∷ SlotNotFree
    ∷ NoSlotFree
    ∷ LimitsUnfit
    ∷ OnDrivesTooFew
    ∷ [])
    n SizesUnfit

pub at_number : (r : Refusal) → refusal_at (refusal_number r) ≡ r
at_number SizesUnfit = refl
at_number WrongLength = refl
at_number OutOfRange = refl
at_number BeyondRoom = refl
at_number NoCommand = refl
at_number NotOwnBallot = refl
at_number WrongPhase = refl
at_number DriveIsOff = refl
at_number NotWritten = refl
at_number NoMajority = refl
at_number BallotTooLow = refl
at_number NothingToTry = refl
at_number BallotsSpent = refl
at_number CutShort = refl
at_number Malformed = refl
at_number SlotNotFree = refl
at_number NoSlotFree = refl
at_number LimitsUnfit = refl
at_number OnDrivesTooFew = refl

pub one_number : (r s : Refusal) → refusal_number r ≡ refusal_number s → r ≡ s
one_number r s e = sym (at_number r) ∙ ap refusal_at e ∙ at_number s

pub number_positive : (r : Refusal) → 1 ≤ refusal_number r
number_positive SizesUnfit = omega arith
number_positive WrongLength = omega arith
number_positive OutOfRange = omega arith
number_positive BeyondRoom = omega arith
number_positive NoCommand = omega arith
number_positive NotOwnBallot = omega arith
number_positive WrongPhase = omega arith
number_positive DriveIsOff = omega arith
number_positive NotWritten = omega arith
number_positive NoMajority = omega arith
number_positive BallotTooLow = omega arith
number_positive NothingToTry = omega arith
number_positive BallotsSpent = omega arith
number_positive CutShort = omega arith
number_positive Malformed = omega arith
number_positive SlotNotFree = omega arith
number_positive NoSlotFree = omega arith
number_positive LimitsUnfit = omega arith
number_positive OnDrivesTooFew = omega arith

-- the number tells the refusal
pub refused_is : {A : Type 0} (x : Result A Refusal) (r : Refusal) → refusal_in x ≡ refusal_number r → x ≡ Err r
refused_is (Ok a) r e = let some = number_positive r in absurd (omega arith)
refused_is (Err s) r e = ap Err (one_number s r e)
