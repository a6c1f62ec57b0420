-- The marks of a server's record as sets: a step that sets one mark leaves the others, and clear leaves none.
use Prim.Native.Nat.{ℕ, ◌<◌}
use native.Mathlib.Omega.{arith}
use native.Mathlib.Decide.{ℕ_discrete}
use mathlib.Core.Bool.{Bool, true, false}
use mathlib.Core.Path.{◌≡◌, sym, ◌∙◌, subst}
use mathlib.Core.Logic.{◌⊎◌, inl, inr}
use Rattle.quorum.specs.Marks.{stands, marked}
use Rattle.state.specs.declared.Server.{Server}
use Rattle.synod.specs.Changes.{read_bit}
use Rattle.lemmas.proofs.Tests.{clash}
use Rattle.quorum.proofs.MarkLaws.{stands_marked_same, stands_marked_other, stands-zero}

-- drive d was written in this phase
abbrev pub wrote : Server → ℕ → Bool
wrote v d = stands v.written d

-- server q's block on drive d was read in this phase
abbrev pub saw : Server → ℕ → ℕ → Bool
saw v d q = stands v.read (read_bit d q)

pub marked_or : (m i j : ℕ) → stands (marked m i) j ≡ true → (j ≡ i) ⊎ (stands m j ≡ true)
marked_or m i j h = go (ℕ_discrete j i)
  where
    go : Dec (j ≡ i) → (j ≡ i) ⊎ (stands m j ≡ true)
    go (yes e) = inl e
    go (no e) = inr (sym (stands_marked_other m i j e) ∙ h)

pub marked_still : (m i j : ℕ) → i < 32 → stands m j ≡ true → stands (marked m i) j ≡ true
marked_still m i j lt h = go (ℕ_discrete j i)
  where
    go : Dec (j ≡ i) → stands (marked m i) j ≡ true
    go (yes e) = subst (λ (k : ℕ). stands (marked m i) k ≡ true) (sym e) (stands_marked_same m i lt)
    go (no e) = stands_marked_other m i j e ∙ h

pub none_stands : {A : Type 0} (m i : ℕ) → m ≡ 0 → stands m i ≡ true → A
none_stands m i e h = clash (stands m i) h (subst (λ (k : ℕ). stands k i ≡ false) (sym e) (stands-zero i))

-- a read bit tells the drive and the server, since there are four servers at most
pub same_bit : (d q e r : ℕ) → q < 4 → r < 4 → read_bit d q ≡ read_bit e r → (d ≡ e) × (q ≡ r)
same_bit d q e r hq hr h = (omega arith, omega arith)
