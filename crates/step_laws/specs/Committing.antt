-- The kinds of step that can be answered committed.
use Rattle.std.specs.Prelude.{ℕ, ◌≡◌, ◌⊎◌}
use Rattle.state.specs.declared.Step.{Step}
use Rattle.state.specs.declared.Step.TheVariants.{Read, Finish}

pub record IsFinish (st : Step) : Type 0 where
  pub server : ℕ
  pub slot : ℕ
  pub is : st ≡ Finish server slot

pub record IsRead (st : Step) : Type 0 where
  pub server : ℕ
  pub slot : ℕ
  pub drive : ℕ
  pub other : ℕ
  pub is : st ≡ Read server slot drive other

abbrev pub FinishOrRead : Step → Type 0
FinishOrRead st = IsFinish st ⊎ IsRead st
