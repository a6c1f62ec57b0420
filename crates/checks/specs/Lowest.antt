-- What is promised of the refusals of a call, for every input. c is the call's checks, expected the numbers that they are to
-- have, answer what the call answers, and before and after what it is lent, as it was and as it is left.
use Rattle.std.specs.Prelude.{ℕ, ◌≤◌, ◌≡◌, true, false, List, Result}
use mathlib.Core.List.{Memᴰ}
use Rattle.checks.specs.declared.Refusal.{Refusal}
use Rattle.checks.specs.Checks.{Checked, accepted}
use Rattle.checks.specs.Refusals.{Possible, refusal_in, refusals_of, numbers_of, lowest}

pub record LowestFirst {A B L : Type 0} (c : Checked A) (expected : List ℕ) (answer : Result B Refusal) (before after : L) : Type 0 where
  -- the numbers of the checks, in their order
  pub numbers : numbers_of (refusals_of c) ≡ expected
  -- the answer carries the first that applies, and none where none applies
  pub first : refusal_in answer ≡ lowest (refusals_of c)
  -- no other that applies is lower
  pub least : (r : Possible) → Memᴰ r (refusals_of c) → r.applies ≡ true → refusal_in answer ≤ r.number
  -- a refused call leaves what was lent as it was
  pub leaves : accepted answer ≡ false → after ≡ before
