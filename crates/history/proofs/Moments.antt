-- A moment of a run: the cells are a room in range, and each slot is seen as one that its past explains. A call leads from
-- a moment to the next, and every slot's machine makes the move that is read off the call and its answer.
use Prim.Native.Nat.{ℕ, ◌<◌}
use mathlib.Core.Path.{◌≡◌, ◌∙◌, sym, ap, subst}
use mathlib.Core.Bool.{true, cond}
use mathlib.Core.List.{List}
use Rattle.lemmas.proofs.Tests.{by_test}
use Rattle.std.specs.Prelude.{Result, Err}
use Rattle.checks.specs.declared.Refusal.{Refusal}
use Rattle.checks.specs.Checks.{mapped, left_by}
use Rattle.state.specs.Answers.{Answered}
use Rattle.state.specs.declared.Sizes.{Sizes}
use Rattle.state.specs.declared.Step.{Step}
use Rattle.state.specs.declared.Step.TheVariants.{Offer}
use Rattle.synod.specs.Rules.{Ruling}
use Rattle.synod.specs.Arguments.{places_fit, command_fits}
use Rattle.synod.proofs.Machine.{ruled, after, Fits}
use Rattle.synod.proofs.Past.{Ghost, noted}
use Rattle.synod.specs.Slot.{Slot, config_of}
use Rattle.synod.proofs.Alike.{Alike, alike_then, ruled_alike, after_alike}
use Rattle.synod.proofs.Invariant.{Invariant}
use Rattle.synod.proofs.Kept.{kept}
use Rattle.synod.proofs.Places.{in_view}
use Rattle.layout.specs.Cells.{limits_of, off_of, sizes_of}
use Rattle.room.specs.declared.effect.Effect.{Effect}
use Rattle.room.specs.Judge.{seen, effect_of, judged, answer_of}
use Rattle.room.specs.Step.{settled, answered, stepped}
use Rattle.free_slots.specs.Put.{put_judged, put_answered, put_cells}
use Rattle.room.proofs.Checks.{by_checks}
use Rattle.free_slots.proofs.PutLaws.{by_put}
use Rattle.model.specs.Concerns.{concerns}
use Rattle.step_laws.proofs.Slots.{after_at}
use Rattle.step_laws.proofs.StepKeeps.{Whole, effect_kept}
use Rattle.step_laws.proofs.SlotTie.{slot_tie}
use Rattle.history.specs.Calls.{Call, Steps, Asks, Puts, Event, event_of, called}
use Rattle.history.specs.Run.{Move, Rests, move_of, move_in, output_in, output_by, WhenChooses}
use Rattle.history.proofs.SlotMoves.{Moves, rests}
use Rattle.room.proofs.Answering.{answer_by}
use Rattle.history.proofs.StepMoves.{MovesBy, concerned}
use Rattle.history.proofs.Answers.{refused_rests, unconcerned, answer_tie}
use Rattle.history.proofs.Choosers.{chooses_map, chooser}

-- cells that a run reaches: each slot's past and the slot that it explains, which is alike the one in the cells
pub record Moment (limits : List ℕ) (z : Sizes) (cells : List ℕ) : Type 0 where
  pub ghosts : ℕ → Ghost
  pub slots : ℕ → Slot
  pub whole : Whole limits z cells
  pub alike : (t : ℕ) → t < z.slots → Alike (config_of z) (slots t) (seen z cells t)
  pub holds : (t : ℕ) → t < z.slots → Invariant (config_of z) (ghosts t) (slots t)

-- the next moment, to which each slot's machine makes a move, with an output
pub record Next (limits : List ℕ) (z : Sizes) (old : List ℕ) (now : Moment limits z old) (move : ℕ → Move) (out : ℕ → ℕ) (cells : List ℕ) : Type 0 where
  pub moment : Moment limits z cells
  pub moves : (t : ℕ) → t < z.slots → Moves (now.ghosts t) (now.slots t) (move t) (out t) (moment.ghosts t) (moment.slots t)
  pub within : (t : ℕ) → WhenChooses (move t) (λ p. p < z.servers)

-- at a slot where nothing shows
resting : (t : ℕ) (g : Ghost) (σ : Slot) (st : Step) (a : Answered) → move_of t st a ≡ Rests → MovesBy t g σ st a g σ
resting t g σ st a e = rw e (rests g σ)

module _ (limits : List ℕ) (z : Sizes) (cells : List ℕ) (now : Moment limits z cells) where
  abbrev g : ℕ → Ghost
  g = now.ghosts

  abbrev σ : ℕ → Slot
  σ = now.slots

  -- the moment after a step with this answer, and after an event
  abbrev AfterStep : Step → Answered → List ℕ → Type 0
  AfterStep st a = Next limits z cells now (λ t. move_of t st a) (λ t. output_in (move_of t st a) a)

  abbrev pub After : Event → List ℕ → Type 0
  After e = Next limits z cells now (λ t. move_in t e) (λ t. output_by t e)

  fits : Fits (config_of z)
  fits = record { servers = now.whole.range.row.fit.servers; drives = now.whole.range.row.fit.drives }

  -- what a judgement leads to, where its effect is stored by the sizes y
  abbrev StoredBy : Sizes → Step → Result Effect Refusal → Type 0
  StoredBy y st e = AfterStep st (mapped answer_of e) (left_by (settled y cells) cells e)

  -- the room stores it by its own sizes
  abbrev Leads : Step → Result Effect Refusal → Type 0
  Leads = StoredBy (sizes_of cells)

  abbrev answer_at : Step → Answered
  answer_at st = mapped answer_of (effect_of z cells st)

  abbrev ghost_after : Step → ℕ → Ghost
  ghost_after st t =
      cond (concerns t st) (noted (g t) (σ t) st (ruled (config_of z) (off_of cells) (σ t) st)) (g t)

  -- the slot after a step whose places are in the room: as it is seen in the cells, explained by its past, and what its machine did
  record SlotAfter (t : ℕ) (st : Step) (h : Ghost) (τ there : Slot) : Type 0 where
    alike : Alike (config_of z) τ there
    holds : Invariant (config_of z) h τ
    moves : MovesBy t (g t) (σ t) st (answer_at st) h τ

  slot_after
      : (st : Step) → places_fit z st ≡ true → (t : ℕ) → t < z.slots
      → SlotAfter t st (ghost_after st t) (after_at z (off_of cells) t (σ t) st) (after_at z (off_of cells) t (seen z cells t) st)
  unfolding after_at
  slot_after st h t l =
      let like = now.alike t l in
      let same = ruled_alike z (off_of cells) like st h in
      let x = ruled (config_of z) (off_of cells) (σ t) st in
      by_test (concerns t st)
      (λ e.
      rw e
      (record {
        alike = subst (λ (y : Ruling). Alike (config_of z) (after (σ t) st x) (after (seen z cells t) st y)) same (after_alike like st x);
        holds = kept z fits (off_of cells) (now.holds t l) st h;
        moves =
            subst (λ (a : Answered). MovesBy t (g t) (σ t) st a (noted (g t) (σ t) st x) (after (σ t) st x))
            (ap answer_by same ∙ sym (answer_tie z cells st t e))
            (concerned z fits (off_of cells) (g t) (σ t) (now.holds t l) st h t e);
      }))
      (λ e. rw e (record { alike = like; holds = now.holds t l; moves = resting t (g t) (σ t) st (answer_at st) (unconcerned t st (answer_at st) e) }))

  effect_next
      : (st : Step) → places_fit z st ≡ true → command_fits limits st ≡ true
      → StoredBy z st (effect_of z cells st)
  effect_next st h k =
      record {
        moment =
            record {
              ghosts = ghost_after st;
              slots = λ t. after_at z (off_of cells) t (σ t) st;
              whole = effect_kept limits z cells now.whole st h k;
              alike =
                  λ t l.
                  alike_then (slot_after st h t l).alike (slot_tie z cells now.whole.range.row st h t l);
              holds = λ t l. (slot_after st h t l).holds;
            };
        moves = λ t l. (slot_after st h t l).moves;
        within = λ t. chooses_map (move_of t st (answer_at st)) _ _ (λ p c. c.within z (in_view z st h)) (chooser t st (answer_at st));
      }

  refused_next : (st : Step) (n : Refusal) → AfterStep st (Err n) cells
  refused_next st n =
      record {
        moment = now;
        moves = λ t l. resting t (g t) (σ t) st (Err n) (refused_rests t st n);
        within = λ t. rw (refused_rests t st n) tt;
      }

  leads_effect
      : (st : Step) → places_fit (sizes_of cells) st ≡ true → command_fits (limits_of cells) st ≡ true
      → Leads st (effect_of (sizes_of cells) cells st)
  leads_effect st b c =
      let same = now.whole.sizes in
      subst (λ (y : Sizes). StoredBy y st (effect_of y cells st)) (sym same)
      (effect_next st (ap (λ (y : Sizes). places_fit y st) (sym same) ∙ b)
      (ap (λ (l : List ℕ). command_fits l st) (sym now.whole.table) ∙ c))

  leads_judged : (st : Step) → Leads st (judged cells st)
  leads_judged st =
      by_checks cells st (Leads st)
      (λ a. refused_next st _)
      (λ a b. refused_next st _)
      (λ a b c. refused_next st _)
      (λ a b c. leads_effect st b c)

  -- a Put that is judged leads where the Offer does
  leads_put : (p s v : ℕ) → Leads (Offer p s v) (put_judged cells p s v)
  leads_put p s v =
      let st = Offer p s v in
      by_put cells p s v (Leads st) (λ n h. refused_next st n) (λ a b c d. unfold places_fit command_fits in leads_effect st b c)

  -- a call leads from a moment to the next
  pub next : (c : Call) → After (event_of cells c) (called cells c)
  unfolding answered stepped put_answered put_cells output_by
  next (Steps st) = leads_judged st
  next (Asks p) =
      record { moment = now; moves = λ t l. rests (g t) (σ t); within = λ t. tt }
  next (Puts p s v) = leads_put p s v
