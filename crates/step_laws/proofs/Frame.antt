-- A step leaves every slot that it does not concern as it was: only Fail concerns more than the slot it names.
use Prim.Native.Nat.{ℕ, ◌<◌}
use mathlib.Core.Path.{◌≡◌}
use mathlib.Core.Bool.{false}
use mathlib.Core.List.{List}
use Rattle.checks.specs.Checks.{left_by}
use Rattle.state.specs.declared.Step.{Step}
use Rattle.synod.specs.Slot.{config_of}
use Rattle.synod.proofs.Alike.{Alike, alike_same}
use Rattle.layout.specs.Cells.{sizes_of}
use Rattle.range.proofs.Laws.{range_says}
use Rattle.room.specs.Judge.{seen}
use Rattle.room.specs.Step.{settled, stepped}
use Rattle.room.proofs.Checks.{by_checks}
use Rattle.model.specs.Concerns.{concerns}
use Rattle.step_laws.proofs.Slots.{after_at}
use Rattle.step_laws.proofs.SlotTie.{slot_tie}

pub Slot-kept
    : (cells : List ℕ) (st : Step) (t : ℕ) → t < (sizes_of cells).slots → concerns t st ≡ false
    → Alike (config_of (sizes_of cells)) (seen (sizes_of cells) cells t) (seen (sizes_of cells) (stepped cells st) t)
unfolding stepped settled after_at
Slot-kept cells st t h e =
    let z = sizes_of cells in
    by_checks cells st
    (λ x. Alike (config_of z) (seen z cells t) (seen z (left_by (settled z cells) cells x) t))
    (λ a. alike_same (config_of z) (seen z cells t))
    (λ a b. alike_same (config_of z) (seen z cells t))
    (λ a b c. alike_same (config_of z) (seen z cells t))
    (λ a b c. rw e at (slot_tie z cells (range_says cells a).row st b t h))
