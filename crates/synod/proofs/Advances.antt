-- A server that does not go back: its proposals and commits stay at or below its own ballots.
use Prim.Native.Nat.{ℕ, ◌<◌, ◌≤◌}
use native.Mathlib.Omega.{arith}
use mathlib.Core.Path.{◌≡◌, subst}
use mathlib.Core.Logic.{◌⊎◌, inl, inr}
use Rattle.synod.proofs.Past.{Ghost}
use Rattle.synod.specs.Slot.{Node, Slot, Config}
use Rattle.synod.proofs.One.{Owns}
use Rattle.ballot.proofs.Laws.{one_owner}
use Rattle.synod.proofs.Ghosts.{Proposed, Committed}
use Rattle.synod.proofs.Quorums.{Quorum}
use Rattle.synod.proofs.Proposals.{Ahead}
use Rattle.synod.proofs.Commits.{Upholds, Held, Binding}
use Rattle.synod.proofs.Invariant.{Invariant}

pub record Advance (n m : Node) : Type 0 where
  pub phase : 1 ≤ m.own.phase → 1 ≤ n.own.phase
  pub mbal : 1 ≤ m.own.phase → n.own.mbal ≤ m.own.mbal
  pub bal : 1 ≤ m.own.phase → n.own.bal ≤ m.own.bal
  pub again : m.own.phase ≡ 1 → (n.own.phase ≡ 1) ⊎ (n.own.mbal < m.own.mbal)

-- what a commit holds of its owner, whatever name the owner has
pub record Bound (c : Config) (σ : Slot) (p b : ℕ) : Type 0 where
  pub own : Upholds (σ p) b
  pub blocks : Quorum c.drives (Held c σ p b)

module _ {c : Config} {g : Ghost} {σ : Slot} (inv : Invariant c g σ) (p : ℕ) where
  pub bound_of : (b v : ℕ) → Committed g b v → Owns c p b → Bound c σ p b
  bound_of b v cm ow =
      let old : Binding c g σ b v = inv.binding b v cm in
      subst (λ (q : ℕ). Bound c σ q b) (one_owner c.servers old.owner.server p b old.owner.owns ow)
      (record { own = old.own; blocks = old.blocks })

  module _ (lp : p < c.servers) (m : Node) (a : Advance (σ p) m) where
    pub advance_ahead : (b v : ℕ) → Proposed g b v → Owns c p b → Ahead m b
    advance_ahead b v pr ow = record { reached = reached; passed = λ ph. passed ph (a.again ph) }
      where
        old : Ahead (σ p) b
        old = (inv.spread p lp b v pr ow).ahead

        reached : 1 ≤ m.own.phase → b ≤ m.own.mbal
        reached ph =
            let x : b ≤ (σ p).own.mbal = old.reached (a.phase ph) in
            let y : (σ p).own.mbal ≤ m.own.mbal = a.mbal ph in
            omega arith

        passed : m.own.phase ≡ 1 → ((σ p).own.phase ≡ 1) ⊎ ((σ p).own.mbal < m.own.mbal) → b < m.own.mbal
        passed ph (inl one) =
            let x : b < (σ p).own.mbal = old.passed one in
            let y : (σ p).own.mbal ≤ m.own.mbal = a.mbal (omega arith) in
            omega arith
        passed ph (inr up) = let x : b ≤ (σ p).own.mbal = old.reached (a.phase (omega arith)) in omega arith

    pub advance_held : (b v : ℕ) → Committed g b v → Owns c p b → Upholds m b
    advance_held b v cm ow ph =
        let x : b ≤ (σ p).own.bal = (bound_of b v cm ow).own (a.phase ph) in
        let y : (σ p).own.bal ≤ m.own.bal = a.bal ph in
        omega arith
