-- Finish in phase 1, what it starts from: a complete quorum and a command. The command is an earlier proposal's if the
-- server has seen one, else its own offer; the ballot is new.
use Prim.Native.Nat.{ℕ, ◌<◌, ◌≤◌}
use native.Mathlib.Omega.{arith}
use borrow.Author.Tests.{ne_eqb}
use mathlib.Core.Bool.{Bool, true, false, cond}
use mathlib.Core.Path.{◌≡◌, refl, ◌∙◌, ap, subst}
use mathlib.Core.Logic.{◌⊎◌, inl, inr}
use lib.Dec.{eqb}
use Rattle.ballot.proofs.Laws.{one_owner}
use Rattle.synod.specs.Changes.{proposing}
use Rattle.synod.proofs.Machine.{with_record}
use Rattle.synod.proofs.Past.{Ghost, note_proposal}
use Rattle.synod.specs.Rules.{command_of}
use Rattle.synod.specs.Slot.{Node, Slot, Config, updated}
use Rattle.synod.proofs.Ghosts.{Offered, Proposed, Known}
use Rattle.synod.proofs.Update.{everywhere}
use Rattle.synod.proofs.Quorums.{Quorum}
use Rattle.synod.proofs.Completes.{Complete}
use Rattle.synod.proofs.One.{Owns, Sound}
use Rattle.synod.proofs.Invariant.{Invariant}
use Rattle.synod.proofs.Clears.{Cleared}

pub record Choice (c : Config) (g : Ghost) (σ : Slot) (p : ℕ) : Type 0 where
  pub inv : Invariant c g σ
  pub within : p < c.servers
  pub one : (σ p).own.phase ≡ 1
  pub full : Quorum c.drives (Complete c (σ p).own p)
  pub some : command_of (σ p).own ≡ 0 → ⊥

module _ {c : Config} {g : Ghost} {σ : Slot} {p : ℕ} (k : Choice c g σ p) where
  -- the new proposal
  abbrev pub ballot : ℕ
  ballot = (σ p).own.mbal

  abbrev pub command : ℕ
  command = command_of (σ p).own

  -- the past, the server's node and the slot after the step
  abbrev pub past : Ghost
  past = note_proposal ballot command g

  abbrev pub node : Node
  node = with_record (σ p) (proposing (σ p).own command)

  abbrev pub next : Slot
  next = updated σ p node

  -- no mark of phase 1 is kept
  pub chosen_cleared : Cleared node.own
  unfolding proposing
  chosen_cleared = record { written = refl; read = refl; seenbal = refl; seeninp = refl }

  sound : Sound c g p (σ p)
  sound = k.inv.each p k.within

  pub mine : Owns c p ballot
  mine = sound.mine (let e = k.one in omega arith)

  -- no proposal of p's has this ballot yet
  pub below : (b v : ℕ) → Proposed g b v → Owns c p b → b < ballot
  below b v pr ow = (k.inv.spread p k.within b v pr ow).ahead.passed k.one

  -- another server's ballot is another ballot
  pub apart : (q b : ℕ) → (q ≡ p → ⊥) → Owns c q b → b ≡ ballot → ⊥
  apart q b ne ow e = ne (one_owner c.servers q p ballot (subst (λ (x : ℕ). Owns c q x) e ow) mine)

  -- no block changes
  pub same_disk : (q : ℕ) → (next q).disk ≡ (σ q).disk
  same_disk = everywhere (λ q n. n.disk ≡ (σ q).disk) σ p node refl (λ q ne. refl)

  -- a complete drive holds the own block
  pub at_ballot : (d : ℕ) → d < c.drives → Complete c (σ p).own p d → ballot ≤ ((σ p).disk d).mbal
  at_ballot d ld f =
      let e : ((σ p).disk d).mbal ≡ (σ p).own.mbal = ap (λ x. x.mbal) (sound.written_own d f.written) in omega arith

  -- a proposal that p has seen decides the command
  pub decided : (b : ℕ) → 1 ≤ b → b ≤ (σ p).own.seenbal → (v : ℕ) → ((e w : ℕ) → Proposed g e w → b ≤ e → w ≡ v)
      → command ≡ v
  decided b positive low v only = by_case sound.seen_known
    where
      by_case : Known g (σ p).own.seenbal (σ p).own.seeninp → command ≡ v
      by_case (inl zero) = let e = zero.0 in absurd (omega arith)
      by_case (inr pr) =
          ap (λ t. cond t (σ p).own.offer (σ p).own.seeninp)
          (ne_eqb (σ p).own.seeninp 0 (k.inv.fair (σ p).own.seenbal (σ p).own.seeninp pr).command)
          ∙ only (σ p).own.seenbal (σ p).own.seeninp pr low

  pub command_offered : Offered g command
  command_offered = by_test (eqb (σ p).own.seeninp 0) k.some
    where
      of_offer : ((σ p).own.offer ≡ 0) ⊎ Offered g (σ p).own.offer → ((σ p).own.offer ≡ 0 → ⊥) → Offered g (σ p).own.offer
      of_offer (inl e) ne = absurd (ne e)
      of_offer (inr m) ne = m

      of_seen : Known g (σ p).own.seenbal (σ p).own.seeninp → ((σ p).own.seeninp ≡ 0 → ⊥) → Offered g (σ p).own.seeninp
      of_seen (inl zero) ne = absurd (ne zero.1)
      of_seen (inr pr) ne = (k.inv.fair (σ p).own.seenbal (σ p).own.seeninp pr).offered

      by_test : (t : Bool) → (cond t (σ p).own.offer (σ p).own.seeninp ≡ 0 → ⊥)
          → Offered g (cond t (σ p).own.offer (σ p).own.seeninp)
      by_test true ne = of_offer sound.offer_offered ne
      by_test false ne = of_seen sound.seen_known ne
