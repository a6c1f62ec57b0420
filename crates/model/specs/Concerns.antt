-- Which slots a step may change.
use Rattle.std.specs.Prelude.{ℕ, Bool, true, false, ◌==◌}
use Rattle.state.specs.declared.Step.{Step}
use Rattle.state.specs.View.{View, AtSlot, AtServer, AtDrive, view_of}

-- slot t is the slot it names; every slot for Fail, none for a drive step
abbrev pub concerns_at : ℕ → View → Bool
concerns_at t (AtSlot p s k) = s == t
concerns_at t (AtServer p) = true
concerns_at t (AtDrive d on) = false

unfoldable pub concerns : ℕ → Step → Bool
concerns t st = concerns_at t (view_of st)
