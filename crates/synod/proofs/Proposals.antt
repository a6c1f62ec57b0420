-- The invariant of a proposal: whose it is, that its command was offered, and that its owner stands at or past its ballot,
-- in its record and on a quorum of drives.
use Prim.Native.Nat.{ℕ, ◌<◌, ◌≤◌}
use mathlib.Core.Path.{◌≡◌}
use Rattle.synod.proofs.Past.{Ghost}
use Rattle.synod.specs.Slot.{Node, Config}
use Rattle.synod.proofs.One.{Owns}
use Rattle.synod.proofs.Ghosts.{Offered}
use Rattle.synod.proofs.Quorums.{Quorum}

-- the server to which the ballot b belongs
pub record Owner (c : Config) (b : ℕ) : Type 0 where
  pub server : ℕ
  pub within : server < c.servers
  pub owns : Owns c server b

pub record Fair (c : Config) (g : Ghost) (b v : ℕ) : Type 0 where
  pub owner : Owner c b
  pub command : v ≡ 0 → ⊥
  pub offered : Offered g v

-- the server with this record stands at or past its proposal's ballot b, and past it where it is back in phase 1
pub record Ahead (n : Node) (b : ℕ) : Type 0 where
  pub reached : 1 ≤ n.own.phase → b ≤ n.own.mbal
  pub passed : n.own.phase ≡ 1 → b < n.own.mbal

pub record Spread (c : Config) (n : Node) (b : ℕ) : Type 0 where
  pub ahead : Ahead n b
  pub blocks : Quorum c.drives (λ d. b ≤ (n.disk d).mbal)
