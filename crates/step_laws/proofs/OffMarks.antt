-- Only a drive step changes the off marks.
use Prim.Native.Nat.{ℕ}
use mathlib.Core.Path.{◌≡◌, refl}
use mathlib.Core.List.{List}
use Rattle.state.specs.declared.Step.{Step}
use Rattle.state.specs.View.{View, AtSlot, AtServer, AtDrive, view_of}
use Rattle.synod.specs.Rules.{off_after}
use Rattle.layout.specs.Cells.{off_of}
use Rattle.room.specs.Step.{stepped}
use Rattle.model.specs.Encoding.{cells_of, room_by}
use Rattle.room.proofs.Bridge.{by_step}

-- a step that is no drive step
abbrev pub SwitchesNone : View → Type 0
SwitchesNone (AtSlot p s k) = Unit {0}
SwitchesNone (AtServer p) = Unit {0}
SwitchesNone (AtDrive d on) = ⊥

stays : (off : ℕ) (w : View) → SwitchesNone w → off_after off w ≡ off
stays off (AtSlot p s k) h = refl
stays off (AtServer p) h = refl
stays off (AtDrive d on) h = absurd h

pub off_stays : (r : List ℕ) (st : Step) → SwitchesNone (view_of st) → off_of (stepped r st) ≡ off_of r
unfolding cells_of room_by
off_stays r st h = by_step r st (λ l. off_of l ≡ off_of r) refl (λ a b c v x e. stays (off_of r) (view_of st) h)
