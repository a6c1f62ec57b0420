-- A step is accepted where its judgement is no refusal.
use mathlib.Core.Path.{◌≡◌, refl}
use mathlib.Core.List.{List}
use Prim.Native.Nat.{ℕ}
use Rattle.std.specs.Prelude.{Result, Ok, Err}
use Rattle.std.specs.Result.{is_ok}
use Rattle.checks.specs.declared.Refusal.{Refusal}
use Rattle.checks.specs.Checks.{mapped, accepted}
use Rattle.state.specs.declared.Step.{Step}
use Rattle.room.specs.declared.effect.Effect.{Effect}
use Rattle.room.specs.Judge.{judged, answer_of}
use Rattle.room.specs.Step.{answered}

by_judgement : (e : Result Effect Refusal) → is_ok e ≡ accepted (mapped answer_of e)
by_judgement (Ok e) = refl
by_judgement (Err n) = refl

pub accepted_where_judged : (cells : List ℕ) (st : Step) → is_ok (judged cells st) ≡ accepted (answered cells st)
unfolding answered
accepted_where_judged cells st = by_judgement (judged cells st)
