-- The machine's Choose is read off any committed answer. On every row only a Finish and a Read commit, so it is the machine's
-- own rule: a committed Finish and a learning Read make Choose(p) in their slot, and no other call makes one.
use Prim.Native.Nat.{ℕ}
use mathlib.Core.Path.{◌≡◌, refl, ◌∙◌, sym, ap, ap₂, subst}
use mathlib.Core.Bool.{true, cond}
use mathlib.Core.List.{List}
use mathlib.Core.Logic.{inl, inr}
use lib.Dec.{eqb}
use borrow.Author.Tests.{eqb-true, eq-eqb}
use Rattle.checks.specs.Checks.{accepted}
use Rattle.state.specs.declared.Step.{Step}
use Rattle.state.specs.declared.Step.TheVariants.{Offer, Read, Finish}
use Rattle.state.specs.Answers.{Answered, code_of}
use Rattle.state.specs.View.{Alone, AtSlot, view_of, view_slot}
use Rattle.synod.proofs.Outputs.{view_server}
use Rattle.room.specs.Step.{answered}
use Rattle.step_laws.specs.Committing.{FinishOrRead}
use Rattle.step_laws.proofs.Commits.{who_commits}
use Rattle.history.specs.Calls.{Call, Steps, Asks, Puts, event_of}
use Rattle.history.specs.Run.{Move, Offers, Chooses, Rests, committed, move_of, move_in, WhenChooses}
use Rattle.history.specs.Choosing.{Commit, FinishOrLearn}
use Rattle.history.proofs.Choosers.{Chooser, chooses_map, tested, chooser}

-- a Finish that commits chooses, in its slot
pub finish_chooses
    : (t p : ℕ) (cells : List ℕ) → committed (answered cells (Finish p t)) ≡ true
    → move_in t (event_of cells (Steps (Finish p t))) ≡ Chooses p
unfolding move_of
finish_chooses t p cells e = rw (eq-eqb t t refl, e) refl

-- so does a Read that learns
pub read_chooses
    : (t p d q : ℕ) (cells : List ℕ) → committed (answered cells (Read p t d q)) ≡ true
    → move_in t (event_of cells (Steps (Read p t d q))) ≡ Chooses p
unfolding move_of
read_chooses t p d q cells e = rw (eq-eqb t t refl, e) refl

-- a step of this kind that commits
commit_by
    : (kind : ℕ → ℕ → Step) → ((p s : ℕ) → view_of (kind p s) ≡ AtSlot p s Alone) → (t q p s : ℕ) (cells : List ℕ) (st : Step)
    → st ≡ kind p s → Chooser t (view_of st) (answered cells st) q → Commit kind t cells (Steps st) q
commit_by kind alone t q p s cells st is c =
    let at : view_of st ≡ AtSlot p s Alone = ap view_of is ∙ alone p s in
    let same : st ≡ kind q t = is ∙ ap₂ kind (sym (ap view_server at) ∙ c.server) (sym (ap view_slot at) ∙ c.slot) in
    record { call = ap Steps same; commits = subst (λ (x : Step). committed (answered cells x) ≡ true) same c.by }

step_commits : (t : ℕ) (cells : List ℕ) (st : Step) → WhenChooses (move_of t st (answered cells st)) (FinishOrLearn t cells (Steps st))
step_commits t cells st =
    let a = answered cells st in
    chooses_map (move_of t st a) _ _ (λ q c. by_kind q c (who_commits cells st (eqb-true (code_of a) 3 c.by))) (chooser t st a)
  where
    by_kind : (q : ℕ) → Chooser t (view_of st) (answered cells st) q → FinishOrRead st → FinishOrLearn t cells (Steps st) q
    by_kind q c (inl f) = inl (commit_by Finish (λ p s. refl) t q f.server f.slot cells st f.is c)
    by_kind q c (inr r) =
        inr
        (record {
          drive = r.drive;
          other = r.other;
          by = commit_by (λ p s. Read p s r.drive r.other) (λ p s. refl) t q r.server r.slot cells st r.is c;
        })

-- an Offer makes no Choose, whatever its answer
offers_only : (t p s v : ℕ) (a : Answered) (A : ℕ → Type 0) → WhenChooses (move_of t (Offer p s v) a) A
unfolding move_of
offers_only t p s v a A =
    tested (eqb s t) (cond (accepted a) (Offers p v) Rests) A (λ e. tested (accepted a) (Offers p v) A (λ k. tt))

call_commits : (t : ℕ) (cells : List ℕ) (c : Call) → WhenChooses (move_in t (event_of cells c)) (FinishOrLearn t cells c)
call_commits t cells (Steps st) = step_commits t cells st
call_commits t cells (Asks p) = tt
call_commits t cells (Puts p s v) = offers_only t p s v _ _

-- nothing else chooses
pub choose_is_commit : (t p : ℕ) (cells : List ℕ) (c : Call) → move_in t (event_of cells c) ≡ Chooses p → FinishOrLearn t cells c p
choose_is_commit t p cells c e = subst (λ (m : Move). WhenChooses m (FinishOrLearn t cells c)) e (call_commits t cells c)
