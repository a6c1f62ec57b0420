-- What makes a Choose, by the kinds of step (SPEC, "The one-value machine").
use Rattle.std.specs.Prelude.{ℕ, true, List, ◌⊎◌, ◌≡◌}
use Rattle.state.specs.declared.Step.{Step}
use Rattle.state.specs.declared.Step.TheVariants.{Read, Finish}
use Rattle.room.specs.Step.{answered}
use Rattle.history.specs.Calls.{Call, Steps}
use Rattle.history.specs.Run.{committed}

-- the call is a step of this kind by server p in slot t, and its answer is committed
pub record Commit (kind : ℕ → ℕ → Step) (t : ℕ) (cells : List ℕ) (c : Call) (p : ℕ) : Type 0 where
  pub call : c ≡ Steps (kind p t)
  pub commits : committed (answered cells (kind p t)) ≡ true

-- the call is a Read by server p in slot t, of some server's block on some drive, and its answer is committed
pub record Learning (t : ℕ) (cells : List ℕ) (c : Call) (p : ℕ) : Type 0 where
  pub drive : ℕ
  pub other : ℕ
  pub by : Commit (λ r s. Read r s drive other) t cells c p

-- a committed Finish, or a learning Read
abbrev pub FinishOrLearn : ℕ → List ℕ → Call → ℕ → Type 0
FinishOrLearn t cells c p = Commit Finish t cells c p ⊎ Learning t cells c p
