-- The server of a Choose: what its move tells of the answer and of the place.
use Prim.Native.Nat.{ℕ, ◌<◌}
use mathlib.Core.Path.{◌≡◌, refl}
use mathlib.Core.Bool.{Bool, true, false, cond}
use lib.Dec.{eqb}
use borrow.Author.Tests.{eqb-true}
use Rattle.checks.specs.Checks.{accepted}
use Rattle.state.specs.Answers.{Answered}
use Rattle.state.specs.declared.Sizes.{Sizes}
use Rattle.state.specs.declared.Step.{Step}
use Rattle.state.specs.View.{Deed, Brings, Stores, Alone, View, AtSlot, AtServer, AtDrive, view_of, view_slot}
use Rattle.synod.proofs.Outputs.{view_server}
use Rattle.synod.proofs.Places.{InView}
use Rattle.history.specs.Run.{Move, Offers, Chooses, Fails, Rests, committed, deed_move, move_at, move_of, WhenChooses}

-- what is claimed of a committed answer may be joined, and weakened
pub chooses_both
    : (m : Move) (A B C : ℕ → Type 0) → ((p : ℕ) → A p → B p → C p) → WhenChooses m A → WhenChooses m B → WhenChooses m C
chooses_both (Offers p v) A B C f a b = tt
chooses_both (Chooses p) A B C f a b = f p a b
chooses_both (Fails p) A B C f a b = tt
chooses_both Rests A B C f a b = tt

pub chooses_map : (m : Move) (A B : ℕ → Type 0) → ((p : ℕ) → A p → B p) → WhenChooses m A → WhenChooses m B
chooses_map m A B f a = chooses_both m A A B (λ p x y. f p x) a a

-- a test before a move: the claim is needed only where the test holds
pub tested : (b : Bool) (m : Move) (A : ℕ → Type 0) → (b ≡ true → WhenChooses m A) → WhenChooses (cond b m Rests) A
tested true m A a = a refl
tested false m A a = tt

-- the answer is committed, and the view is of server p in slot t; p is in every room that the view fits
pub record Chooser (t : ℕ) (w : View) (a : Answered) (p : ℕ) : Type 0 where
  pub by : committed a ≡ true
  pub server : view_server w ≡ p
  pub slot : view_slot w ≡ t
  pub within : (z : Sizes) → InView z w → p < z.servers

deed_chooser : (t p s : ℕ) (k : Deed) (a : Answered) → s ≡ t → WhenChooses (deed_move p k a) (Chooser t (AtSlot p s k) a)
deed_chooser t p s (Brings c) a h = tested (accepted a) (Offers p c) _ (λ e. tt)
deed_chooser t p s (Stores d) a h =
    tested (committed a) (Chooses p) _ (λ e. record { by = e; server = refl; slot = h; within = λ z i. i.server })
deed_chooser t p s Alone a h =
    tested (committed a) (Chooses p) _ (λ e. record { by = e; server = refl; slot = h; within = λ z i. i.server })

view_chooser : (t : ℕ) (w : View) (a : Answered) → WhenChooses (move_at t w a) (Chooser t w a)
view_chooser t (AtSlot p s k) a = tested (eqb s t) (deed_move p k a) _ (λ e. deed_chooser t p s k a (eqb-true s t e))
view_chooser t (AtServer p) a = tested (accepted a) (Fails p) _ (λ e. tt)
view_chooser t (AtDrive d on) a = tt

pub chooser : (t : ℕ) (st : Step) (a : Answered) → WhenChooses (move_of t st a) (Chooser t (view_of st) a)
unfolding move_of
chooser t st a = view_chooser t (view_of st) a
