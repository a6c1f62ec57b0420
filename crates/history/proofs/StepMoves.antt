-- Every kind of step, at a slot that it concerns, makes the move that is read off the step and its answer.
use Prim.Native.Nat.{ℕ}
use mathlib.Core.Path.{◌≡◌, refl, ◌∙◌, sym, ap}
use mathlib.Core.Bool.{true, true≢false, cond}
use mathlib.Core.List.{◌∷◌}
use borrow.Author.Tests.{eqb-true}
use Rattle.std.specs.Prelude.{Ok, Err}
use Rattle.state.specs.declared.Answer.{Answer}
use Rattle.state.specs.declared.Sizes.{Sizes}
use Rattle.state.specs.declared.Step.{Step}
use Rattle.state.specs.declared.Step.TheVariants.{Offer, Recall, Rejoin, Bid, Write, Read, Finish, Fail, DriveOff, DriveOn}
use Rattle.state.specs.Answers.{Answered, code_of}
use Rattle.state.specs.View.{Stores, Alone, View, AtSlot, view_of}
use Rattle.synod.specs.Arguments.{places_fit}
use Rattle.synod.proofs.Machine.{ruled, after, Fits}
use Rattle.synod.proofs.Past.{Ghost, heard, ghost_after, noted}
use Rattle.synod.specs.Rules.{Ruling, offer_rule, rule_of}
use Rattle.synod.specs.Slot.{Slot, Config, config_of}
use Rattle.synod.proofs.Invariant.{Invariant}
use Rattle.synod.proofs.Kept.{kept}
use Rattle.synod.proofs.Outputs.{outputs, offers, told, outputs_at, outputs_after, offers_at, offers_after, outputs_told, offers_told, word_of, view_server, none_before}
use Rattle.model.specs.Concerns.{concerns_at, concerns}
use Rattle.room.proofs.Answering.{answer_by}
use Rattle.history.specs.Run.{Move, Offers, Chooses, Fails, Rests, committed, move_at, move_of, output_in}
use Rattle.history.proofs.Firsts.{first_command}
use Rattle.history.proofs.SlotMoves.{Moves, unchosen, rests, listens}

-- the move and the output of a step in slot t with an answer
abbrev pub MovesBy : ℕ → Ghost → Slot → Step → Answered → Ghost → Slot → Type 0
MovesBy t g σ st a h τ = Moves g σ (move_of t st a) (output_in (move_of t st a) a) h τ

-- a view that shows only by a committed answer of its server
record Listener (w : View) : Type 0 where
  notes : (g : Ghost) (σ : Slot) (a : Answer) → ghost_after g σ w a ≡ heard g (σ (view_server w)).own.mbal a
  outs : (f : ℕ → ℕ) (a : Answer) → outputs_at f w a ≡ told f (view_server w) a
  offs : (f : ℕ → ℕ) → offers_at f w ≡ f
  moves : (t : ℕ) (a : Answered) → move_at t w a ≡ cond (concerns_at t w) (cond (committed a) (Chooses (view_server w)) Rests) Rests

alone_listens : (p s : ℕ) → Listener (AtSlot p s Alone)
alone_listens p s = record { notes = λ g σ a. refl; outs = λ f a. refl; offs = λ f. refl; moves = λ t a. refl }

store_listens : (p s d : ℕ) → Listener (AtSlot p s (Stores d))
store_listens p s d = record { notes = λ g σ a. refl; outs = λ f a. refl; offs = λ f. refl; moves = λ t a. refl }

-- the move of such a view, at a slot that it concerns
abbrev chosen_by : View → Answered → Move
chosen_by w a = cond (committed a) (Chooses (view_server w)) Rests

module _ (c : Config) (off : ℕ) (g : Ghost) (σ : Slot) where
  listened
      : (st : Step) → Listener (view_of st) → (x : Ruling) → ruled c off σ st ≡ x → Invariant c (noted g σ st x) (after σ st x)
      → ((q : ℕ) → outputs (after σ st x) q ≡ outputs_after (outputs σ) st x q)
      → ((q : ℕ) → offers (after σ st x) q ≡ offers_after (offers σ) st x q)
      → Moves g σ (chosen_by (view_of st) (answer_by x)) (output_in (chosen_by (view_of st) (answer_by x)) (answer_by x)) (noted g σ st x) (after σ st x)
  unfolding noted after outputs_after offers_after
  listened st l (Err n) e inv outs offs = rests g σ
  listened st l (Ok (v, a)) e inv outs offs =
      let p = view_server (view_of st) in
      rw (l.notes g σ a)
      (listens c g σ (after σ st (Ok (v, a))) p (σ p).own.mbal a
      (rw (l.notes g σ a) at inv)
      (λ k. none_before c off σ st (ap word_of e ∙ eqb-true (code_of (Ok a)) 3 k))
      (λ q. outs q ∙ ap (λ (f : ℕ → ℕ). f q) (l.outs (outputs σ) a))
      (λ q. offs q ∙ ap (λ (f : ℕ → ℕ). f q) (l.offs (offers σ))))

  -- Offer and Fail show by themselves
  offered
      : (p s v : ℕ)
      → Moves g σ (Offers p v) 0 (noted g σ (Offer p s v) (ruled c off σ (Offer p s v))) (after σ (Offer p s v) (ruled c off σ (Offer p s v)))
  unfolding rule_of offer_rule noted heard outputs_after told offers_after
  offered p s v =
      unchosen g _ σ _ (Offers p v) (λ A. tt)
      (λ i.
      record {
        offers = λ q. offers_told c off σ q (Offer p s v) i;
        outputs = λ q. outputs_told c off σ q (Offer p s v) i;
        given = v ∷ g.offered;
        chosen = first_command g.commits;
      })
      refl refl

  failed
      : (p : ℕ) → Moves g σ (Fails p) 0 (noted g σ (Fail p) (ruled c off σ (Fail p))) (after σ (Fail p) (ruled c off σ (Fail p)))
  unfolding rule_of noted heard outputs_after offers_after
  failed p =
      unchosen g _ σ _ (Fails p) (λ A. tt)
      (λ i.
      record {
        offers = λ q. offers_told c off σ q (Fail p) i;
        outputs = λ q. outputs_told c off σ q (Fail p) i;
        given = g.offered;
        chosen = first_command g.commits;
      })
      refl refl

module _ (z : Sizes) (fits : Fits (config_of z)) (off : ℕ) (g : Ghost) (σ : Slot) (inv : Invariant (config_of z) g σ) where
  listener
      : (st : Step) → Listener (view_of st) → places_fit z st ≡ true → (t : ℕ) → concerns t st ≡ true
      → MovesBy t g σ st (answer_by (ruled (config_of z) off σ st)) (noted g σ st (ruled (config_of z) off σ st)) (after σ st (ruled (config_of z) off σ st))
  unfolding concerns move_of
  listener st l h t e =
      let x = ruled (config_of z) off σ st in
      rw (l.moves t (answer_by x))
      (rw e
      (listened (config_of z) off g σ st l x refl (kept z fits off inv st h)
      (λ q. outputs_told (config_of z) off σ q st) (λ q. offers_told (config_of z) off σ q st)))

  pub concerned
      : (st : Step) → places_fit z st ≡ true → (t : ℕ) → concerns t st ≡ true
      → MovesBy t g σ st (answer_by (ruled (config_of z) off σ st)) (noted g σ st (ruled (config_of z) off σ st)) (after σ st (ruled (config_of z) off σ st))
  concerned (Offer p s v) h t e = unfold concerns move_of rule_of offer_rule in rw e (offered (config_of z) off g σ p s v)
  concerned (Recall p s d) h t e = listener (Recall p s d) (alone_listens p s) h t e
  concerned (Rejoin p s b) h t e = listener (Rejoin p s b) (alone_listens p s) h t e
  concerned (Bid p s b) h t e = listener (Bid p s b) (alone_listens p s) h t e
  concerned (Write p s d) h t e = listener (Write p s d) (store_listens p s d) h t e
  concerned (Read p s d q) h t e = listener (Read p s d q) (alone_listens p s) h t e
  concerned (Finish p s) h t e = listener (Finish p s) (alone_listens p s) h t e
  concerned (Fail p) h t e = unfold move_of rule_of in failed (config_of z) off g σ p
  concerned (DriveOff d) h t e = unfold concerns in absurd (true≢false (sym e))
  concerned (DriveOn d) h t e = unfold concerns in absurd (true≢false (sym e))
