-- The steps that clear: a server with no marks owes the others nothing, so only its own ballots and command count.
use Prim.Native.Nat.{ℕ, ◌≤◌}
use native.Mathlib.Nat.{le_of_eq}
use mathlib.Core.Path.{◌≡◌, refl, sym, subst₂}
use mathlib.Core.Logic.{◌⊎◌, inl}
use Rattle.state.specs.declared.Server.{Server}
use Rattle.synod.proofs.Machine.{with_record}
use Rattle.synod.proofs.Past.{Ghost}
use Rattle.synod.specs.Slot.{Node, Slot, Config}
use Rattle.synod.proofs.Ghosts.{Offered, Proposed, Committed, Known, Agreed}
use Rattle.synod.proofs.Marks.{none_stands}
use Rattle.synod.proofs.One.{Owns, Sound}
use Rattle.synod.proofs.Proposals.{Ahead}
use Rattle.synod.proofs.Frame.{Change}

-- what clear leaves; top counts in phase 0 only
pub record Cleared (v : Server) : Type 0 where
  pub written : v.written ≡ 0
  pub read : v.read ≡ 0
  pub seenbal : v.seenbal ≡ v.bal
  pub seeninp : v.seeninp ≡ v.inp

-- what else a cleared record must bring
pub record Fresh (c : Config) (g : Ghost) (p : ℕ) (v : Server) : Type 0 where
  pub mine : 1 ≤ v.phase → Owns c p v.mbal
  pub begun : v.phase ≡ 2 → v.bal ≡ v.mbal
  pub known : Known g v.bal v.inp
  pub offer : (v.offer ≡ 0) ⊎ Offered g v.offer
  pub agreed : Agreed g v.agreed

pub cleared_sound : {c : Config} {g : Ghost} {p : ℕ} (n : Node) (v : Server) → Sound c g p n → Cleared v → Fresh c g p v
    → Sound c g p (with_record n v)
cleared_sound {g = g} n v s e f =
    record {
      recalled = λ h d m. none_stands v.read _ e.read m;
      mine = f.mine;
      begun = f.begun;
      seen = le_of_eq (sym e.seenbal);
      own_known = f.known;
      seen_known = subst₂ (λ (b w : ℕ). Known g b w) (sym e.seenbal) (sym e.seeninp) f.known;
      disk_known = s.disk_known;
      written_own = λ d m. none_stands v.written _ e.written m;
      read_written = λ h d q lt m. none_stands v.read _ e.read m;
      offer_offered = f.offer;
      own_agreed = f.agreed;
      disk_agreed = s.disk_agreed;
    }

pub cleared_change : {c : Config} {g : Ghost} {σ : Slot} (p : ℕ) (v : Server) → Sound c g p (σ p) → Cleared v → Fresh c g p v
    → (v.phase ≡ 2 → ⊥)
    → ((b w : ℕ) → Proposed g b w → Owns c p b → Ahead (with_record (σ p) v) b)
    → ((b w : ℕ) → Committed g b w → Owns c p b → 1 ≤ v.phase → b ≤ v.bal)
    → Change c g σ p (with_record (σ p) v)
cleared_change {σ = σ} p v s e f not-two ahead held =
    record {
      sound = cleared_sound (σ p) v s e f;
      blocks = λ d. inl refl;
      ahead = ahead;
      held = held;
      first = λ h d q lt m. none_stands v.read _ e.read m;
      second = λ h. absurd (not-two h);
      unbid = λ h d q lt m. none_stands v.read _ e.read m;
    }
