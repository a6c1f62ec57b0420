-- What the steps and answers so far tell of a slot.
use Prim.Native.Nat.{ℕ}
use mathlib.Core.Bool.{cond}
use mathlib.Core.List.{List, [], ◌∷◌}
use lib.Dec.{eqb}
use Rattle.state.specs.declared.Step.{Step}
use Rattle.state.specs.declared.Answer.{Answer}
use Rattle.state.specs.declared.Answer.TheVariants as answer
use Rattle.state.specs.View.{Deed, Brings, Stores, Alone, View, AtSlot, AtServer, AtDrive, view_of}
use Rattle.std.specs.Prelude.{Ok, Err}
use Rattle.synod.specs.Rules.{Ruling}
use Rattle.synod.specs.Slot.{Slot}

-- a command and the ballot in which it was tried
pub record Tried : Type 0 where
  pub ballot : ℕ
  pub command : ℕ

-- The commands offered; each chosen answer as a proposal, with the ballot of the server that gave it; each committed answer
-- as a commit. The latest stands first.
pub record Ghost : Type 0 where
  pub offered : List ℕ
  pub proposals : List Tried
  pub commits : List Tried

abbrev pub no_ghost : Ghost
no_ghost = record { offered = []; proposals = []; commits = [] }

abbrev pub note_offer : ℕ → Ghost → Ghost
note_offer v g = record { offered = v ∷ g.offered; proposals = g.proposals; commits = g.commits }

abbrev pub note_proposal : ℕ → ℕ → Ghost → Ghost
note_proposal b v g =
    record { offered = g.offered; proposals = record { ballot = b; command = v } ∷ g.proposals; commits = g.commits }

abbrev pub note_commit : ℕ → ℕ → Ghost → Ghost
note_commit b v g =
    record { offered = g.offered; proposals = g.proposals; commits = record { ballot = b; command = v } ∷ g.commits }

-- The ballot with which a commit of v is noted, by a server with the ballot mbal. Where v was committed before, it is the
-- ballot of that commit: a server that learned v tried nothing in its own.
unfoldable pub commit_ballot : ℕ → ℕ → List Tried → ℕ
commit_ballot mbal v [] = mbal
commit_ballot mbal v (t ∷ l) = cond (eqb t.command v) t.ballot (commit_ballot mbal v l)

-- what an answer adds, given by a server with the ballot mbal
unfoldable pub heard : Ghost → ℕ → Answer → Ghost
heard g mbal answer.Done = g
heard g mbal (answer.Outbid b) = g
heard g mbal (answer.Chosen c) = note_proposal mbal c g
heard g mbal (answer.Committed c) = note_commit (commit_ballot mbal c g.commits) c g

-- what a deed adds
abbrev pub note_deed : Deed → Ghost → Ghost
note_deed (Brings c) g = note_offer c g
note_deed (Stores d) g = g
note_deed Alone g = g

abbrev pub ghost_after : Ghost → Slot → View → Answer → Ghost
ghost_after g σ (AtSlot p s k) a = note_deed k (heard g (σ p).own.mbal a)
ghost_after g σ (AtServer p) a = heard g (σ p).own.mbal a
ghost_after g σ (AtDrive d on) a = g

-- what the step and its ruling add
unfoldable pub noted : Ghost → Slot → Step → Ruling → Ghost
noted g σ st (Err n) = g
noted g σ st (Ok (v, a)) = ghost_after g σ (view_of st) a
