-- The invariant of two servers: of two that read each other's block on one drive, the later has seen the earlier's ballot.
use Prim.Native.Nat.{ℕ, ◌<◌, ◌≤◌}
use mathlib.Core.Bool.{true}
use mathlib.Core.Path.{◌≡◌}
use Rattle.synod.specs.Slot.{Node, Config}
use Rattle.synod.proofs.Marks.{saw}

-- p in phase 2 and another server q in phase 1 at a larger ballot
pub record Later (p : ℕ) (n : Node) (q : ℕ) (m : Node) : Type 0 where
  pub other : q ≡ p → ⊥
  pub second : n.own.phase ≡ 2
  pub first : m.own.phase ≡ 1
  pub above : n.own.mbal < m.own.mbal

abbrev pub Crossed : Config → ℕ → Node → ℕ → Node → Type 0
Crossed c p n q m =
    Later p n q m → (d : ℕ) → d < c.drives → saw n.own d q ≡ true → saw m.own d p ≡ true
    → n.own.mbal ≤ m.own.seenbal
