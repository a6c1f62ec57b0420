-- Finish in phase 1, one server and two: the new proposal is fair, and its owner stands at it on the complete
-- drives. The server has no marks, so nobody has crossed reads with it.
use Prim.Native.Nat.{ℕ, ◌<◌}
use native.Mathlib.Omega.{arith}
use mathlib.Core.List.Memᴰ
use mathlib.Core.Path.{◌≡◌, refl, sym, ap, subst}
use mathlib.Core.Logic.{◌⊎◌, inl, inr}
use Rattle.synod.specs.Changes.{proposing}
use Rattle.synod.proofs.Past.{Ghost, Tried}
use Rattle.synod.specs.Slot.{Slot, Config}
use Rattle.synod.proofs.Ghosts.{Proposed, tried}
use Rattle.synod.proofs.Grows.{Grows, with_proposal, sound_more, fair_more}
use Rattle.synod.proofs.Marks.{none_stands}
use Rattle.synod.proofs.Update.{everywhere}
use Rattle.synod.proofs.Quorums.{weaker}
use Rattle.synod.proofs.One.{Owns, Sound}
use Rattle.synod.proofs.Proposals.{Fair, Spread}
use Rattle.synod.proofs.Crossed.{Crossed}
use Rattle.synod.proofs.Clears.{cleared_sound}
use Rattle.synod.proofs.Choosing.{Choice, ballot, command, past, node, next, chosen_cleared, mine, below, apart, at_ballot, command_offered}

module _ {c : Config} {g : Ghost} {σ : Slot} {p : ℕ} (k : Choice c g σ p) where
  more : Grows g (past k)
  more = with_proposal g (ballot k) (command k)

  chosen : Sound c (past k) p (node k)
  unfolding proposing
  chosen =
      let s = sound_more more (k.inv.each p k.within) in
      cleared_sound (σ p) (proposing (σ p).own (command k)) s (chosen_cleared k)
      (record {
        mine = λ e. mine k;
        begun = λ e. refl;
        known = inr (Memᴰ.head refl);
        offer = s.offer_offered;
        agreed = s.own_agreed;
      })

  pub each_kept : (q : ℕ) → q < c.servers → Sound c (past k) q (next k q)
  each_kept =
      everywhere (λ q n. q < c.servers → Sound c (past k) q n) σ p (node k) (λ lt. chosen)
      (λ q ne lt. sound_more more (k.inv.each q lt))

  pub fair_kept : (b v : ℕ) → Proposed (past k) b v → Fair c (past k) b v
  fair_kept b v pr = by_case (Memᴰ.cases_cons pr)
    where
      by_case : (tried b v ≡ tried (ballot k) (command k)) ⊎ Proposed g b v → Fair c (past k) b v
      by_case (inl e) =
          subst (λ (t : Tried). Fair c (past k) t.ballot t.command) (sym e)
          (record {
            owner = record { server = p; within = k.within; owns = mine k };
            command = k.some;
            offered = command_offered k;
          })
      by_case (inr old) = fair_more more (k.inv.fair b v old)

  -- the new proposal's owner is p
  spread_new : (q : ℕ) → Owns c q (ballot k) → Spread c (next k q) (ballot k)
  unfolding proposing
  spread_new =
      everywhere (λ q n. Owns c q (ballot k) → Spread c n (ballot k)) σ p (node k)
      (λ ow.
      record {
        ahead = record { reached = λ e. omega arith; passed = λ e. absurd (omega arith) };
        blocks = weaker (at_ballot k) k.full;
      })
      (λ q ne ow. absurd (apart k q (ballot k) ne ow refl))

  spread_old : (b v : ℕ) → Proposed g b v → (q : ℕ) → q < c.servers → Owns c q b → Spread c (next k q) b
  unfolding proposing
  spread_old b v old =
      everywhere (λ q n. q < c.servers → Owns c q b → Spread c n b) σ p (node k)
      (λ lq ow.
      let low = below k b v old ow in
      record {
        ahead = record { reached = λ e. omega arith; passed = λ e. absurd (omega arith) };
        blocks = (k.inv.spread p lq b v old ow).blocks;
      })
      (λ q ne lq ow. k.inv.spread q lq b v old ow)

  pub spread_kept : (q : ℕ) → q < c.servers → (b v : ℕ) → Proposed (past k) b v → Owns c q b
      → Spread c (next k q) b
  spread_kept q lq b v pr ow = by_case (Memᴰ.cases_cons pr)
    where
      by_case : (tried b v ≡ tried (ballot k) (command k)) ⊎ Proposed g b v → Spread c (next k q) b
      by_case (inl e) =
          let same : b ≡ ballot k = ap (λ t. t.ballot) e in
          subst (λ (i : ℕ). Spread c (next k q) i) (sym same)
          (spread_new q (subst (λ (i : ℕ). Owns c q i) same ow))
      by_case (inr old) = spread_old b v old q lq ow

  pub crossed_kept : (q r : ℕ) → q < c.servers → r < c.servers → Crossed c q (next k q) r (next k r)
  unfolding proposing
  crossed_kept q r =
      everywhere (λ q n. q < c.servers → r < c.servers → Crossed c q n r (next k r)) σ p (node k)
      (λ lq lr l d ld mark. none_stands (node k).own.read _ (chosen_cleared k).read mark)
      (λ q ne.
      everywhere (λ r n. q < c.servers → r < c.servers → Crossed c q (σ q) r n) σ p (node k)
      (λ lq lr l. absurd (let e = l.first in omega arith))
      (λ r nr lq lr. k.inv.crossed q r lq lr)
      r)
      q
