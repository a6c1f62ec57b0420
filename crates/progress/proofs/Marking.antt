-- What is marked after a step: what was marked, and what the step marks.
use Prim.Native.Nat.{ℕ, ◌<◌}
use mathlib.Core.Bool.{true, false, not}
use mathlib.Core.Path.{◌≡◌, refl, ◌∙◌, ap}
use lib.Dec.{eqb}
use borrow.Author.Tests.{eq-eqb, ne_eqb, not-true}
use Rattle.lemmas.proofs.Tests.{by_test, clash}
use Rattle.quorum.specs.Marks.{stands}
use Rattle.quorum.proofs.MarkLaws.{stands_marked_same}
use Rattle.state.specs.declared.Block.{Block}
use Rattle.state.specs.declared.Server.{Server}
use Rattle.synod.proofs.Marks.{marked_still}
use Rattle.synod.specs.Changes.{read_bit, meeting, topping, marking, recalling, writing, reading}
use Rattle.synod.specs.Rules.{recalled_on}
use Rattle.progress.proofs.Potential.{is_open}

module _ (v : Server) (b : Block) (p d : ℕ) (small : read_bit d p < 32) where
  pub recall_marks : recalled_on (recalling v b p d) p d ≡ true
  unfolding recalling meeting topping marking
  recall_marks = stands_marked_same v.read (read_bit d p) small

  pub recall_keeps : (e : ℕ) → recalled_on v p e ≡ true → recalled_on (recalling v b p d) p e ≡ true
  unfolding recalling meeting topping marking
  recall_keeps e = marked_still v.read (read_bit d p) (read_bit e p) small

-- a mark that is not there stays away from a mark that was there before
unmarked_before : (m n i : ℕ) → (stands m i ≡ true → stands n i ≡ true) → not (stands n i) ≡ true → not (stands m i) ≡ true
unmarked_before m n i keeps h =
    by_test (stands m i)
    (λ t. clash (stands n i) (keeps t) (not-true (stands n i) h))
    (λ t. ap not t)

-- at p's own number a place is open where the drive is not written
pub own_place : (p : ℕ) (v : Server) (d : ℕ) → is_open p v d p ≡ not (stands v.written d)
unfolding is_open
own_place p v d = rw (eq-eqb p p refl) refl

pub other_place : (p : ℕ) (v : Server) (d q : ℕ) → (q ≡ p → ⊥) → is_open p v d q ≡ not (stands v.read (read_bit d q))
unfolding is_open
other_place p v d q n = rw (ne_eqb q p n) refl

pub open_before
    : (p : ℕ) (v w : Server) → ((i : ℕ) → stands v.written i ≡ true → stands w.written i ≡ true)
    → ((i : ℕ) → stands v.read i ≡ true → stands w.read i ≡ true)
    → (d q : ℕ) → is_open p w d q ≡ true → is_open p v d q ≡ true
unfolding is_open
open_before p v w f g d q =
    by_test (eqb q p)
    (λ t. rw t (unmarked_before v.written w.written d (f d)))
    (λ t. rw t (unmarked_before v.read w.read (read_bit d q) (g (read_bit d q))))

module _ (p : ℕ) (v : Server) (d : ℕ) (small : d < 32) where
  pub write_closes : is_open p (writing v d) d p ≡ false
  unfolding writing
  write_closes = own_place p (writing v d) d ∙ ap not (stands_marked_same v.written d small)

  pub write_opens_none : (e q : ℕ) → is_open p (writing v d) e q ≡ true → is_open p v e q ≡ true
  unfolding writing
  write_opens_none = open_before p v (writing v d) (λ i. marked_still v.written d i small) (λ i h. h)

module _ (p : ℕ) (v : Server) (b : Block) (d q : ℕ) (small : read_bit d q < 32) where
  pub read_closes : (q ≡ p → ⊥) → is_open p (reading v b d q) d q ≡ false
  unfolding reading meeting marking
  read_closes n = other_place p (reading v b d q) d q n ∙ ap not (stands_marked_same v.read (read_bit d q) small)

  pub read_opens_none : (e r : ℕ) → is_open p (reading v b d q) e r ≡ true → is_open p v e r ≡ true
  unfolding reading meeting marking
  read_opens_none = open_before p v (reading v b d q) (λ i h. h) (λ i. marked_still v.read (read_bit d q) i small)
