-- The invariant of a commit: it binds every proposal at or above its ballot, because on a quorum of drives whoever reads
-- its owner's block has seen it.
use Prim.Native.Nat.{ℕ, ◌<◌, ◌≤◌}
use mathlib.Core.Bool.{true}
use mathlib.Core.Path.{◌≡◌}
use Rattle.synod.proofs.Past.{Ghost}
use Rattle.synod.specs.Slot.{Node, Slot, Config}
use Rattle.synod.proofs.Ghosts.{Proposed}
use Rattle.synod.proofs.Marks.{saw}
use Rattle.synod.proofs.Proposals.{Owner}
use Rattle.synod.proofs.Quorums.{Quorum}

-- the commit's owner, from phase 1 on, has a bal at its ballot b or past it
abbrev pub Upholds : Node → ℕ → Type 0
Upholds n b = 1 ≤ n.own.phase → b ≤ n.own.bal

-- another server q that read the owner's block on drive d, in phase 1 above b, has seen b
abbrev pub HasSeen : ℕ → ℕ → ℕ → ℕ → Node → Type 0
HasSeen p b d q n =
    (q ≡ p → ⊥) → n.own.phase ≡ 1 → b < n.own.mbal → saw n.own d p ≡ true → b ≤ n.own.seenbal

-- drive d of the quorum of server p's commit in ballot b
pub record Held (c : Config) (σ : Slot) (p b d : ℕ) : Type 0 where
  pub block : b ≤ ((σ p).disk d).bal
  pub readers : (q : ℕ) → q < c.servers → HasSeen p b d q (σ q)

pub record Binding (c : Config) (g : Ghost) (σ : Slot) (b v : ℕ) : Type 0 where
  pub owner : Owner c b
  pub proposed : Proposed g b v
  pub only : (e w : ℕ) → Proposed g e w → b ≤ e → w ≡ v
  pub own : Upholds (σ owner.server) b
  pub blocks : Quorum c.drives (Held c σ owner.server b)
