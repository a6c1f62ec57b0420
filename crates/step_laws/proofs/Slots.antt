-- What a step makes of slot t, as the machine of one slot has it.
use Prim.Native.Nat.{ℕ}
use mathlib.Core.Bool.{cond}
use Rattle.state.specs.declared.Sizes.{Sizes}
use Rattle.state.specs.declared.Step.{Step}
use Rattle.synod.specs.Slot.{Slot, config_of}
use Rattle.synod.proofs.Machine.{ruled, after}
use Rattle.model.specs.Concerns.{concerns}

unfoldable pub after_at : Sizes → ℕ → ℕ → Slot → Step → Slot
after_at z off t σ st = cond (concerns t st) (after σ st (ruled (config_of z) off σ st)) σ
