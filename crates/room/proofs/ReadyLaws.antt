-- Every effect that is judged is ready to be stored.
use Prim.Native.Nat.{ℕ}
use mathlib.Core.Path.{◌≡◌, subst}
use mathlib.Core.Bool.{true}
use mathlib.Core.List.{List}
use Rattle.std.specs.Prelude.{Result, Ok, Err}
use Rattle.checks.specs.declared.Refusal.{Refusal}
use Rattle.checks.specs.Checks.{mapped}
use Rattle.state.specs.declared.Answer.{Answer}
use Rattle.state.specs.declared.Server.{Server}
use Rattle.state.specs.declared.Sizes.{Sizes}
use Rattle.state.specs.declared.Step.{Step}
use Rattle.state.specs.View.{Brings, Stores, Alone, View, AtSlot, AtServer, AtDrive, view_of}
use Rattle.synod.specs.Rules.{Ruling, ruling}
use Rattle.synod.specs.Arguments.{places_fit}
use Rattle.layout.specs.Places.{Row}
use Rattle.layout.specs.Cells.{sizes_of}
use Rattle.range.proofs.Laws.{range_says}
use Rattle.room.specs.Judge.{effect_at, effect_by, rule_at, effect_of, judged}
use Rattle.room.specs.declared.effect.Effect.{Effect}
use Rattle.room.specs.declared.effect.Effect.TheVariants as effect
use Rattle.room.specs.Ready.{ReadyAt, Ready}
use Rattle.synod.proofs.Places.{InView, in_view}
use Rattle.room.proofs.Checks.{by_checks}

view_ready
    : (z : Sizes) (r : List ℕ) → Row z r → (w : View) (off : ℕ) (x : Server × Answer) → InView z w
    → ReadyAt z r (effect_at w off x)
view_ready z r row (AtSlot p s (Brings c)) off x a = record { row = row; slot = a.slot; server = a.server }
view_ready z r row (AtSlot p s (Stores d)) off x a = (record { row = row; slot = a.slot; server = a.server }, a.drive)
view_ready z r row (AtSlot p s Alone) off x a = record { row = row; slot = a.slot; server = a.server }
view_ready z r row (AtServer p) off x a = (row, a)
view_ready z r row (AtDrive d on) off x a = row

-- nothing is to be stored for a refusal
abbrev ReadyIf : Sizes → List ℕ → Result Effect Refusal → Type 0
ReadyIf z r (Ok e) = ReadyAt z r e
ReadyIf z r (Err n) = Unit {0}

effect_ready : (z : Sizes) (r : List ℕ) → Row z r → (st : Step) → places_fit z st ≡ true → ReadyIf z r (effect_of z r st)
unfolding effect_of
effect_ready z r row st e = by_ruling (ruling (rule_at z r st))
  where
    by_ruling : (x : Ruling) → ReadyIf z r (mapped (effect_by r st) x)
    by_ruling (Ok x) = view_ready z r row (view_of st) _ x (in_view z st e)
    by_ruling (Err n) = tt

pub judged_ready : (r : List ℕ) (st : Step) (e : Effect) → judged r st ≡ Ok e → Ready r e
judged_ready r st e is =
    subst (ReadyIf (sizes_of r) r) is
    (by_checks r st (ReadyIf (sizes_of r) r) (λ a. tt) (λ a b. tt) (λ a b c. tt)
    (λ a b c. effect_ready (sizes_of r) r (range_says r a).row st b))

-- what is ready to be stored is stored in a room
pub ready_row : (r : List ℕ) (e : Effect) → Ready r e → Row (sizes_of r) r
ready_row r (effect.Record s p v a) h = h.row
ready_row r (effect.Block s d p v) h = h.0.row
ready_row r (effect.Failure p) h = h.0
ready_row r (effect.Off marks) h = h
