-- Finish in phase 1, the commits: the complete drives meet the quorum of every commit below, so p has seen it, and the new
-- proposal has its command.
use Prim.Native.Nat.{ℕ, ◌<◌, ◌≤◌}
use native.Mathlib.Omega.{arith}
use native.Mathlib.Decide.{ℕ_discrete}
use mathlib.Core.List.Memᴰ
use mathlib.Core.Path.{◌≡◌, sym, ◌∙◌, ap, subst}
use mathlib.Core.Logic.{◌⊎◌, inl, inr}
use Rattle.ballot.proofs.Laws.{owned_positive}
use Rattle.synod.specs.Changes.{proposing}
use Rattle.synod.proofs.Past.{Ghost}
use Rattle.synod.specs.Slot.{Slot, Config}
use Rattle.synod.proofs.One.{Owns}
use Rattle.synod.proofs.Ghosts.{Proposed, tried}
use Rattle.synod.proofs.Update.{everywhere}
use Rattle.synod.proofs.Quorums.{weaker, meet}
use Rattle.synod.proofs.Commits.{Upholds, HasSeen, Held, Binding}
use Rattle.synod.proofs.Choosing.{Choice, ballot, command, past, node, next, below, apart, same_disk, decided}

module _ {c : Config} {g : Ghost} {σ : Slot} {p : ℕ} (k : Choice c g σ p) (b v : ℕ) (old : Binding c g σ b v) where
  abbrev o : ℕ
  o = old.owner.server

  -- p has seen the commit: it is its own, or p read its owner's block on a drive of the commit's quorum
  seen : b ≤ ballot k → Dec (o ≡ p) → b ≤ (σ p).own.seenbal
  seen le (yes e) =
      let one = k.one in
      let own : b ≤ (σ p).own.bal =
      subst (λ (q : ℕ). Upholds (σ q) b) e old.own (omega arith) in
      let up = (k.inv.each p k.within).seen in
      omega arith
  seen le (no ne) =
      let x = meet k.full old.blocks in
      let other = apart k o b ne old.owner.owns in
      x.second.readers p k.within (λ e. ne (sym e)) k.one (omega arith) (x.first.others o old.owner.within ne)

  only_kept : (e w : ℕ) → Proposed (past k) e w → b ≤ e → w ≡ v
  only_kept e w pr le = by_case (Memᴰ.cases_cons pr)
    where
      by_case : (tried e w ≡ tried (ballot k) (command k)) ⊎ Proposed g e w → w ≡ v
      by_case (inl i) =
          let low : b ≤ ballot k = subst (λ (x : ℕ). b ≤ x) (ap (λ t. t.ballot) i) le in
          ap (λ t. t.command) i
          ∙ decided k b (owned_positive c.servers o b old.owner.owns) (seen low (ℕ_discrete o p)) v old.only
      by_case (inr was) = old.only e w was le

  own_kept : (q : ℕ) → Owns c q b → Upholds (σ q) b → Upholds (next k q) b
  unfolding proposing
  own_kept =
      everywhere (λ q n. Owns c q b → Upholds (σ q) b → Upholds n b) σ p (node k)
      (λ ow was ph. let low = below k b v old.proposed ow in omega arith)
      (λ q ne ow was ph. was ph)

  held_kept : (d : ℕ) → Held c σ o b d → Held c (next k) o b d
  unfolding proposing
  held_kept d i =
      record {
        block = subst (λ x. b ≤ (x d).bal) (sym (same_disk k o)) i.block;
        readers =
            everywhere (λ q n. q < c.servers → HasSeen o b d q n) σ p (node k)
            (λ lq ne ph. absurd (omega arith))
            (λ q ne. i.readers q);
      }

  pub binding_kept : Binding c (past k) (next k) b v
  binding_kept =
      record {
        owner = old.owner;
        proposed = Memᴰ.tail old.proposed;
        only = only_kept;
        own = own_kept o old.owner.owns old.own;
        blocks = weaker (λ d ld i. held_kept d i) old.blocks;
      }
