-- The answer of what a step does is the one that its rule gives.
use Prim.Native.Nat.{ℕ}
use mathlib.Core.Path.{◌≡◌, refl, sym, ap}
use Rattle.std.specs.Prelude.{Ok, Err}
use Rattle.checks.specs.Checks.{mapped}
use Rattle.state.specs.Answers.{Answered}
use Rattle.state.specs.View.{Brings, Stores, Alone, View, AtSlot, AtServer, AtDrive}
use Rattle.synod.specs.Rules.{Ruling}
use Rattle.synod.proofs.Rulings.{Plain}
use Rattle.room.specs.Judge.{effect_at, answer_of}

-- the answer that goes with a ruling
abbrev pub answer_by : Ruling → Answered
answer_by x = mapped (λ y. y.1) x

-- it is the answer of the effect
pub effect_answer : (w : View) (off : ℕ) (x : Ruling) → Plain w x → mapped answer_of (mapped (effect_at w off) x) ≡ answer_by x
effect_answer w off (Err n) k = refl
effect_answer (AtSlot p s (Brings c)) off (Ok (v, a)) k = refl
effect_answer (AtSlot p s (Stores d)) off (Ok (v, a)) k = ap Ok (sym k)
effect_answer (AtSlot p s Alone) off (Ok (v, a)) k = refl
effect_answer (AtServer p) off (Ok x) k = sym (ap answer_by k)
effect_answer (AtDrive d on) off (Ok x) k = sym (ap answer_by k)
