-- The invariant of one slot, sorted by how many servers a part names; it holds before the first step.
use Prim.Native.Nat.{ℕ, ◌<◌}
use native.Mathlib.Omega.{arith}
use mathlib.Core.List.Memᴰ
use mathlib.Core.Path.{◌≡◌, refl}
use mathlib.Core.Logic.{inl}
use Rattle.synod.proofs.Machine.{blank_slot, blank_node}
use Rattle.synod.proofs.Past.{Ghost, no_ghost}
use Rattle.synod.specs.Slot.{Slot, Config}
use Rattle.synod.proofs.Ghosts.{Proposed, Committed}
use Rattle.synod.proofs.Marks.{none_stands}
use Rattle.synod.proofs.One.{Owns, Sound}
use Rattle.synod.proofs.Proposals.{Fair, Spread}
use Rattle.synod.proofs.Crossed.{Crossed}
use Rattle.synod.proofs.Rivals.{Rival}
use Rattle.synod.proofs.Commits.{Binding}

pub record Invariant (c : Config) (g : Ghost) (σ : Slot) : Type 0 where
  -- one server
  pub each : (p : ℕ) → p < c.servers → Sound c g p (σ p)
  -- one proposal, by itself and with its owner
  pub fair : (b v : ℕ) → Proposed g b v → Fair c g b v
  pub spread : (p : ℕ) → p < c.servers → (b v : ℕ) → Proposed g b v → Owns c p b → Spread c (σ p) b
  -- two servers that read each other
  pub crossed : (p q : ℕ) → p < c.servers → q < c.servers → Crossed c p (σ p) q (σ q)
  -- a server in phase 2 against all proposals
  pub rival : (p : ℕ) → p < c.servers → (σ p).own.phase ≡ 2 → Rival c g σ p (σ p)
  -- one commit against all proposals and servers
  pub binding : (b v : ℕ) → Committed g b v → Binding c g σ b v

blank_sound : (c : Config) (p : ℕ) → Sound c no_ghost p blank_node
blank_sound c p =
    record {
      recalled = λ h d m. none_stands 0 _ refl m;
      mine = λ h. absurd (omega arith);
      begun = λ h. absurd (omega arith);
      seen = omega arith;
      own_known = inl (refl, refl);
      seen_known = inl (refl, refl);
      disk_known = λ d. inl (refl, refl);
      written_own = λ d m. none_stands 0 _ refl m;
      read_written = λ h d q lt m. none_stands 0 _ refl m;
      offer_offered = inl refl;
      own_agreed = inl refl;
      disk_agreed = λ d. inl refl;
    }

pub begins : (c : Config) → Invariant c no_ghost blank_slot
begins c =
    record {
      each = λ p lt. blank_sound c p;
      fair = λ b v m. absurd (Memᴰ.not-nil m);
      spread = λ p lt b v m. absurd (Memᴰ.not-nil m);
      crossed = λ p q lp lq h. absurd (let e = h.second in omega arith);
      rival = λ p lt h. absurd (omega arith);
      binding = λ b v m. absurd (Memᴰ.not-nil m);
    }
