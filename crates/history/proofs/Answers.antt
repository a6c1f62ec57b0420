-- The answer of a step on the cells is that of the ruling at the slot that it concerns; at any other slot it makes no
-- move, and a refusal makes none anywhere.
use Prim.Native.Nat.{ℕ}
use mathlib.Core.Path.{◌≡◌, refl, ◌∙◌, sym, ap}
use mathlib.Core.Bool.{Bool, true, false, true≢false, cond}
use mathlib.Core.List.{List}
use lib.Dec.{eqb}
use borrow.Author.Tests.{eqb-true}
use Rattle.std.specs.Prelude.{Err}
use Rattle.checks.specs.declared.Refusal.{Refusal}
use Rattle.checks.specs.Checks.{mapped}
use Rattle.state.specs.Answers.{Answered}
use Rattle.state.specs.declared.Sizes.{Sizes}
use Rattle.state.specs.declared.Step.{Step}
use Rattle.state.specs.View.{Brings, Stores, Alone, View, AtSlot, AtServer, AtDrive, view_of, view_slot}
use Rattle.synod.proofs.Machine.{ruled}
use Rattle.synod.specs.Rules.{Ruling}
use Rattle.synod.specs.Slot.{Slot, config_of}
use Rattle.synod.proofs.Rulings.{Plain, plain}
use Rattle.layout.specs.Cells.{off_of}
use Rattle.room.specs.Judge.{seen, effect_of, answer_of}
use Rattle.model.specs.Concerns.{concerns_at, concerns}
use Rattle.room.proofs.Answering.{answer_by, effect_answer}
use Rattle.history.specs.Run.{Rests, deed_move, move_at, move_of}

rests_anyway : (b : Bool) → cond b Rests Rests ≡ Rests
rests_anyway true = refl
rests_anyway false = refl

refused_view : (t : ℕ) (w : View) (n : Refusal) → move_at t w (Err n) ≡ Rests
refused_view t (AtSlot p s (Brings c)) n = rests_anyway (eqb s t)
refused_view t (AtSlot p s (Stores d)) n = rests_anyway (eqb s t)
refused_view t (AtSlot p s Alone) n = rests_anyway (eqb s t)
refused_view t (AtServer p) n = refl
refused_view t (AtDrive d on) n = refl

pub refused_rests : (t : ℕ) (st : Step) (n : Refusal) → move_of t st (Err n) ≡ Rests
unfolding move_of
refused_rests t st n = refused_view t (view_of st) n

unconcerned_view : (t : ℕ) (w : View) (a : Answered) → concerns_at t w ≡ false → move_at t w a ≡ Rests
unconcerned_view t (AtSlot p s k) a e = ap (λ (b : Bool). cond b (deed_move p k a) Rests) e
unconcerned_view t (AtServer p) a e = absurd (true≢false e)
unconcerned_view t (AtDrive d on) a e = refl

pub unconcerned : (t : ℕ) (st : Step) (a : Answered) → concerns t st ≡ false → move_of t st a ≡ Rests
unfolding move_of concerns
unconcerned t st a e = unconcerned_view t (view_of st) a e

-- the answer of a view with the rule f is that of the rule at the slot t that it concerns
view_answer
    : (z : Sizes) (r : List ℕ) (w : View) (f : Slot → Ruling) (t : ℕ)
    → concerns_at t w ≡ true → ((σ : Slot) → Plain w (f σ)) → answer_by (f (seen z r (view_slot w))) ≡ answer_by (f (seen z r t))
view_answer z r (AtSlot p s k) f t e plainly = ap (λ (u : ℕ). answer_by (f (seen z r u))) (eqb-true s t e)
view_answer z r (AtServer p) f t e plainly = ap answer_by (plainly (seen z r 0) ∙ sym (plainly (seen z r t)))
view_answer z r (AtDrive d on) f t e plainly = absurd (true≢false (sym e))

pub answer_tie
    : (z : Sizes) (r : List ℕ) (st : Step) (t : ℕ) → concerns t st ≡ true
    → mapped answer_of (effect_of z r st) ≡ answer_by (ruled (config_of z) (off_of r) (seen z r t) st)
unfolding effect_of concerns
answer_tie z r st t e =
    let f : Slot → Ruling = λ σ. ruled (config_of z) (off_of r) σ st in
    let plainly : (σ : Slot) → Plain (view_of st) (f σ) = λ σ. plain (config_of z) (off_of r) σ st in
    effect_answer (view_of st) _ (f (seen z r (view_slot (view_of st)))) (plainly (seen z r (view_slot (view_of st))))
    ∙ view_answer z r (view_of st) f t e plainly
