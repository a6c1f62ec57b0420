-- The invariant of one server: what its record and its own blocks say together.
use Prim.Native.Nat.{ℕ, ◌<◌, ◌≤◌}
use mathlib.Core.Bool.{true}
use mathlib.Core.Path.{◌≡◌}
use mathlib.Core.Logic.{◌⊎◌}
use Rattle.ballot.specs.Ballot.{owned}
use Rattle.state.specs.Server.{own_block}
use Rattle.synod.proofs.Past.{Ghost}
use Rattle.synod.specs.Slot.{Node, Config}
use Rattle.synod.proofs.Ghosts.{Offered, Known, Agreed}
use Rattle.synod.proofs.Marks.{wrote, saw}

-- ballot b belongs to server p
abbrev pub Owns : Config → ℕ → ℕ → Type 0
Owns c p b = owned c.servers p b ≡ true

-- the drive's block counts among those recalled: top and seenbal are no less
pub record Recalled (n : Node) (d : ℕ) : Type 0 where
  pub mbal : (n.disk d).mbal ≤ n.own.top
  pub bal : (n.disk d).bal ≤ n.own.seenbal

pub record Sound (c : Config) (g : Ghost) (p : ℕ) (n : Node) : Type 0 where
  -- phase 0: what was recalled bounds the own blocks
  pub recalled : n.own.phase ≡ 0 → (d : ℕ) → saw n.own d p ≡ true → Recalled n d
  -- a ballot is the server's own, from phase 1 on
  pub mine : 1 ≤ n.own.phase → Owns c p n.own.mbal
  -- in phase 2 the command stands in the current ballot
  pub begun : n.own.phase ≡ 2 → n.own.bal ≡ n.own.mbal
  -- the own block is among those seen
  pub seen : n.own.bal ≤ n.own.seenbal
  -- each pair of a ballot and a command is nothing, or a proposal
  pub own_known : Known g n.own.bal n.own.inp
  pub seen_known : Known g n.own.seenbal n.own.seeninp
  pub disk_known : (d : ℕ) → Known g (n.disk d).bal (n.disk d).inp
  -- a drive written in this phase holds the own block; blocks are read only there
  pub written_own : (d : ℕ) → wrote n.own d ≡ true → n.disk d ≡ own_block n.own
  pub read_written : 1 ≤ n.own.phase → (d q : ℕ) → q < c.servers → saw n.own d q ≡ true → wrote n.own d ≡ true
  -- an offer was offered
  pub offer_offered : (n.own.offer ≡ 0) ⊎ Offered g n.own.offer
  -- what is agreed on, in the record or on a drive, is nothing, or a commit's command
  pub own_agreed : Agreed g n.own.agreed
  pub disk_agreed : (d : ℕ) → Agreed g (n.disk d).done
