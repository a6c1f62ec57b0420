-- What is known of a slot's past: which commands were offered, proposed and committed, and how a longer past keeps it.
use Prim.Native.Nat.{ℕ}
use borrow.Author.Tests.{eqb-true, eqb-false}
use mathlib.Core.Bool.{Bool, true, false, cond}
use mathlib.Core.List.Memᴰ
use mathlib.Core.List.{List, [], ◌∷◌, Memᴰ}
use mathlib.Core.Path.{◌≡◌, refl, sym, ◌∙◌, ap}
use mathlib.Core.Logic.{◌⊎◌, inl, inr}
use lib.Dec.{eqb}
use Rattle.state.specs.declared.Server.{Server}
use Rattle.state.specs.Server.{output_of}
use Rattle.synod.proofs.Past.{Tried, Ghost, commit_ballot}

abbrev pub tried : ℕ → ℕ → Tried
tried b v = record { ballot = b; command = v }

-- v was offered in this slot by an accepted Offer
abbrev pub Offered : Ghost → ℕ → Type 0
Offered g v = Memᴰ v g.offered

-- v was chosen in ballot b
abbrev pub Proposed : Ghost → ℕ → ℕ → Type 0
Proposed g b v = Memᴰ (tried b v) g.proposals

-- v was committed in ballot b
abbrev pub Committed : Ghost → ℕ → ℕ → Type 0
Committed g b v = Memᴰ (tried b v) g.commits

-- nothing, or a proposal: what a block and the seen pair can hold
abbrev pub Known : Ghost → ℕ → ℕ → Type 0
Known g b v = ((b ≡ 0) × (v ≡ 0)) ⊎ Proposed g b v

-- some commit has the command v
pub record Settled (l : List Tried) (v : ℕ) : Type 0 where
  pub ballot : ℕ
  pub committed : Memᴰ (tried ballot v) l

-- nothing, or the command of a commit: what done and agreed can hold
abbrev pub Agreed : Ghost → ℕ → Type 0
Agreed g v = (v ≡ 0) ⊎ Settled g.commits v

-- an output is nothing, or what is agreed
pub shown_agreed : (g : Ghost) (v : Server) → Agreed g v.agreed → Agreed g (output_of v)
shown_agreed g v a = by_phase (eqb v.phase 3)
  where
    by_phase : (b : Bool) → Agreed g (cond b v.agreed 0)
    by_phase true = a
    by_phase false = inl refl

-- what holds of the ballot of every commit of v holds of the one that is noted for it, if v is settled or it holds of mbal
pub of_commit_ballot : (P : ℕ → Type 0) (mbal v : ℕ) (l : List Tried) → ((b : ℕ) → Memᴰ (tried b v) l → P b)
    → P mbal ⊎ Settled l v → P (commit_ballot mbal v l)
unfolding commit_ballot
of_commit_ballot P mbal v [] each (inl own) = own
of_commit_ballot P mbal v [] each (inr s) = absurd (Memᴰ.not-nil s.committed)
of_commit_ballot P mbal v (t ∷ l) each some =
    by_test (of_commit_ballot P mbal v l (λ b m. each b (Memᴰ.tail m))) (eqb t.command v) refl some
  where
    later : (eqb t.command v ≡ false) → Settled (t ∷ l) v → Settled l v
    later e s = by_place (Memᴰ.cases_cons s.committed)
      where
        by_place : (tried s.ballot v ≡ t) ⊎ Memᴰ (tried s.ballot v) l → Settled l v
        by_place (inl same) = absurd (eqb-false t.command v e (sym (ap (λ u. u.command) same)))
        by_place (inr m) = record { ballot = s.ballot; committed = m }

    by_test : (P mbal ⊎ Settled l v → P (commit_ballot mbal v l)) → (x : Bool) → eqb t.command v ≡ x
        → P mbal ⊎ Settled (t ∷ l) v → P (cond x t.ballot (commit_ballot mbal v l))
    by_test rest true e k = each t.ballot (Memᴰ.head (ap (tried t.ballot) (sym (eqb-true t.command v e))))
    by_test rest false e (inl own) = rest (inl own)
    by_test rest false e (inr s) = rest (inr (later e s))

-- every member of the list passes the test, or one fails it
pub record Failing (f : Tried → Bool) (l : List Tried) : Type 0 where
  pub one : Tried
  pub member : Memᴰ one l
  pub fails : f one ≡ false

pub sift : (f : Tried → Bool) (l : List Tried) → ((t : Tried) → Memᴰ t l → f t ≡ true) ⊎ Failing f l
sift f [] = inl (λ t m. absurd (Memᴰ.not-nil m))
sift f (x ∷ l) = step f x l (sift f l) (f x) refl
  where
    step : (f : Tried → Bool) (x : Tried) (l : List Tried) → ((t : Tried) → Memᴰ t l → f t ≡ true) ⊎ Failing f l
        → (b : Bool) → f x ≡ b → ((t : Tried) → Memᴰ t (x ∷ l) → f t ≡ true) ⊎ Failing f (x ∷ l)
    step f x l (inr w) b e = inr (record { one = w.one; member = Memᴰ.tail w.member; fails = w.fails })
    step f x l (inl all) false e = inr (record { one = x; member = Memᴰ.head refl; fails = e })
    step f x l (inl all) true e = inl (λ t m. pass t (Memᴰ.cases_cons m))
      where
        pass : (t : Tried) → (t ≡ x) ⊎ Memᴰ t l → f t ≡ true
        pass t (inl q) = ap f q ∙ e
        pass t (inr m) = all t m
