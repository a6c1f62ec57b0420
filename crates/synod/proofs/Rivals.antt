-- The invariant of a server in phase 2 and all proposals: no proposal at or above its ballot has another command, or a
-- blocker stands: a proposal of another server above it, on a quorum of drives where the server has yet to read.
use Prim.Native.Nat.{ℕ, ◌<◌, ◌≤◌}
use mathlib.Core.Bool.{true}
use mathlib.Core.Path.{◌≡◌}
use mathlib.Core.Logic.{◌⊎◌}
use Rattle.synod.proofs.Past.{Ghost}
use Rattle.synod.specs.Slot.{Node, Slot, Config}
use Rattle.synod.proofs.Ghosts.{Proposed}
use Rattle.synod.proofs.Marks.{saw}
use Rattle.synod.proofs.Proposals.{Owner}
use Rattle.synod.proofs.Quorums.{Quorum}

abbrev pub Unrivalled : Ghost → Node → Type 0
Unrivalled g n = (b v : ℕ) → Proposed g b v → n.own.mbal ≤ b → v ≡ n.own.inp

-- the blocker's block on drive d is at its ballot b or past it, and the server with the record of n has not read it
pub record Blocked (σ : Slot) (n : Node) (q b d : ℕ) : Type 0 where
  pub risen : b ≤ ((σ q).disk d).mbal
  pub unread : saw n.own d q ≡ true → ⊥

pub record Blocker (c : Config) (g : Ghost) (σ : Slot) (p : ℕ) (n : Node) : Type 0 where
  pub ballot : ℕ
  pub command : ℕ
  pub proposed : Proposed g ballot command
  pub above : n.own.mbal < ballot
  pub owner : Owner c ballot
  pub other : owner.server ≡ p → ⊥
  pub blocks : Quorum c.drives (Blocked σ n owner.server ballot)

abbrev pub Rival : Config → Ghost → Slot → ℕ → Node → Type 0
Rival c g σ p n = Unrivalled g n ⊎ Blocker c g σ p n
