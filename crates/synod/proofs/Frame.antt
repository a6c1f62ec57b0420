-- The frame: a step of server p that neither proposes nor commits keeps the invariant, if the new node of p meets a few
-- conditions. What the other servers rely on follows from these once for all such steps.
use Prim.Native.Nat.{ℕ, ◌<◌, ◌≤◌}
use native.Mathlib.Omega.{arith}
use mathlib.Core.Bool.{true}
use mathlib.Core.Path.{◌≡◌, refl, sym, ◌∙◌, ap, subst}
use mathlib.Core.Logic.{◌⊎◌, inl, inr}
use Rattle.state.specs.Server.{own_block}
use Rattle.synod.proofs.Past.{Ghost}
use Rattle.synod.specs.Slot.{Node, Slot, Config, updated}
use Rattle.synod.proofs.Ghosts.{Proposed, Committed}
use Rattle.synod.proofs.Marks.{saw}
use Rattle.synod.proofs.Update.{everywhere}
use Rattle.synod.proofs.Quorums.{weaker}
use Rattle.synod.proofs.One.{Owns, Sound}
use Rattle.synod.proofs.Proposals.{Owner, Ahead, Spread}
use Rattle.synod.proofs.Crossed.{Crossed}
use Rattle.synod.proofs.Rivals.{Blocked, Blocker, Rival}
use Rattle.synod.proofs.Commits.{Upholds, HasSeen, Held, Binding}
use Rattle.synod.proofs.Invariant.{Invariant}

-- a read mark of phase 1 that stood before
pub record Again (n m : Node) (d q : ℕ) : Type 0 where
  pub phase : n.own.phase ≡ 1
  pub mark : saw n.own d q ≡ true
  pub mbal : m.own.mbal ≤ n.own.mbal
  pub seenbal : n.own.seenbal ≤ m.own.seenbal

-- phase 2 goes on
pub record Onward (n m : Node) : Type 0 where
  pub phase : n.own.phase ≡ 2
  pub mbal : m.own.mbal ≡ n.own.mbal
  pub inp : m.own.inp ≡ n.own.inp

-- the block on drive d is as it was, or was written with the own block
abbrev pub Rewritten : Node → Node → ℕ → Type 0
Rewritten n m d = (m.disk d ≡ n.disk d) ⊎ ((1 ≤ n.own.phase) × (m.disk d ≡ own_block n.own))

pub record Change (c : Config) (g : Ghost) (σ : Slot) (p : ℕ) (m : Node) : Type 0 where
  pub sound : Sound c g p m
  pub blocks : (d : ℕ) → Rewritten (σ p) m d
  pub ahead : (b v : ℕ) → Proposed g b v → Owns c p b → Ahead m b
  pub held : (b v : ℕ) → Committed g b v → Owns c p b → Upholds m b
  pub first : m.own.phase ≡ 1 → (d q : ℕ) → q < c.servers → saw m.own d q ≡ true
      → Again (σ p) m d q ⊎ (((σ q).disk d).bal ≤ m.own.seenbal)
  pub second : m.own.phase ≡ 2 → Onward (σ p) m
  pub unbid : m.own.phase ≡ 2 → (d q : ℕ) → q < c.servers → saw m.own d q ≡ true
      → (saw (σ p).own d q ≡ true) ⊎ (((σ q).disk d).mbal < m.own.mbal)

-- a block that was rewritten has no smaller ballots than a bound that it and the own block meet
mbal_kept : (n m : Node) (d b : ℕ) → (1 ≤ n.own.phase → b ≤ n.own.mbal) → Rewritten n m d
    → b ≤ (n.disk d).mbal → b ≤ (m.disk d).mbal
mbal_kept n m d b own (inl e) h = subst (λ x. b ≤ x.mbal) (sym e) h
mbal_kept n m d b own (inr w) h = subst (λ x. b ≤ x.mbal) (sym w.1) (own w.0)

bal_kept : (n m : Node) (d b : ℕ) → Upholds n b → Rewritten n m d
    → b ≤ (n.disk d).bal → b ≤ (m.disk d).bal
bal_kept n m d b own (inl e) h = subst (λ x. b ≤ x.bal) (sym e) h
bal_kept n m d b own (inr w) h = subst (λ x. b ≤ x.bal) (sym w.1) (own w.0)

-- a server that read on drive d in phase 1 or later has its own block there
pub own_there : {c : Config} {g : Ghost} {p : ℕ} {n : Node} → Sound c g p n → 1 ≤ n.own.phase → (d q : ℕ)
    → q < c.servers → saw n.own d q ≡ true → n.disk d ≡ own_block n.own
own_there s ph d q lt h = s.written_own d (s.read_written ph d q lt h)

module _ {c : Config} {g : Ghost} {σ : Slot} (inv : Invariant c g σ) (p : ℕ) (lp : p < c.servers) (m : Node) (ch : Change c g σ p m) where
  spread_kept : (q : ℕ) → q < c.servers → (b v : ℕ) → Proposed g b v → Owns c q b
      → Spread c (updated σ p m q) b
  spread_kept =
      everywhere
      (λ q n. q < c.servers → (b v : ℕ) → Proposed g b v → Owns c q b → Spread c n b)
      σ p m
      (λ lt b v pr ow.
      let old : Spread c (σ p) b = inv.spread p lt b v pr ow in
      record {
        ahead = ch.ahead b v pr ow;
        blocks = weaker (λ d ld h. mbal_kept (σ p) m d b old.ahead.reached (ch.blocks d) h) old.blocks;
      })
      (λ q ne. inv.spread q)

  -- no proposal's bound on its owner's blocks falls
  risen : (b v : ℕ) → Proposed g b v → (d q : ℕ) → q < c.servers → Owns c q b
      → b ≤ ((σ q).disk d).mbal → b ≤ ((updated σ p m q).disk d).mbal
  risen b v pr d =
      everywhere (λ q n. q < c.servers → Owns c q b → b ≤ ((σ q).disk d).mbal → b ≤ (n.disk d).mbal)
      σ p m
      (λ lt ow h. mbal_kept (σ p) m d b (inv.spread p lt b v pr ow).ahead.reached (ch.blocks d) h)
      (λ q ne lt ow h. h)

  -- p in phase 2, the other reader in phase 1
  crossed_second : (q : ℕ) → q < c.servers → Crossed c p m q (σ q)
  crossed_second q lq l d ld mine theirs = by_mark (ch.unbid l.second d q lq mine)
    where
      on : Onward (σ p) m
      on = ch.second l.second

      by_mark : (saw (σ p).own d q ≡ true) ⊎ (((σ q).disk d).mbal < m.own.mbal) → m.own.mbal ≤ (σ q).own.seenbal
      by_mark (inl old) =
          subst (λ (b : ℕ). b ≤ (σ q).own.seenbal) (sym on.mbal)
          (inv.crossed p q lp lq
          (record {
            other = l.other;
            second = on.phase;
            first = l.first;
            above = subst (λ (b : ℕ). b < (σ q).own.mbal) on.mbal l.above;
          })
          d ld old theirs)
      by_mark (inr low) =
          let phase : 1 ≤ (σ q).own.phase = let f = l.first in omega arith in
          let at : ((σ q).disk d).mbal ≡ (σ q).own.mbal = ap (λ x. x.mbal) (own_there (inv.each q lq) phase d p lp theirs) in
          let up : m.own.mbal < (σ q).own.mbal = l.above in
          absurd (omega arith)

  -- p in phase 1, the other reader in phase 2
  crossed_first : (q : ℕ) → q < c.servers → Crossed c q (σ q) p m
  crossed_first q lq l d ld theirs mine = by_mark (ch.first l.first d q lq mine)
    where
      by_mark : Again (σ p) m d q ⊎ (((σ q).disk d).bal ≤ m.own.seenbal) → (σ q).own.mbal ≤ m.own.seenbal
      by_mark (inl old) =
          let up : (σ q).own.mbal < m.own.mbal = l.above in
          let lower : m.own.mbal ≤ (σ p).own.mbal = old.mbal in
          let seen : (σ p).own.seenbal ≤ m.own.seenbal = old.seenbal in
          let before : (σ q).own.mbal ≤ (σ p).own.seenbal =
          inv.crossed q p lq lp
          (record { other = l.other; second = l.second; first = old.phase; above = omega arith })
          d ld theirs old.mark in
          omega arith
      by_mark (inr met) =
          let phase : 1 ≤ (σ q).own.phase = let f = l.second in omega arith in
          let at : ((σ q).disk d).bal ≡ (σ q).own.bal = ap (λ x. x.bal) (own_there (inv.each q lq) phase d p lp theirs) in
          let same : (σ q).own.bal ≡ (σ q).own.mbal = (inv.each q lq).begun l.second in
          omega arith

  crossed_kept : (q r : ℕ) → q < c.servers → r < c.servers → Crossed c q (updated σ p m q) r (updated σ p m r)
  crossed_kept q r =
      everywhere (λ q n. q < c.servers → r < c.servers → Crossed c q n r (updated σ p m r)) σ p m
      (everywhere (λ r n. p < c.servers → r < c.servers → Crossed c p m r n) σ p m
      (λ lq lr l. absurd (l.other refl))
      (λ r ne lq lr. crossed_second r lr)
      r)
      (λ q ne.
      everywhere (λ r n. q < c.servers → r < c.servers → Crossed c q (σ q) r n) σ p m
      (λ lq lr. crossed_first q lq)
      (λ r ne lq lr. inv.crossed q r lq lr)
      r)
      q

  -- a blocker of a server still blocks it, if that server reads no block past its own ballot
  still_blocked : (q : ℕ) (n k : Node) → n.own.mbal ≡ k.own.mbal
      → ((d r : ℕ) → r < c.servers → saw k.own d r ≡ true → (saw n.own d r ≡ true) ⊎ (((σ r).disk d).mbal < k.own.mbal))
      → Blocker c g σ q n → Blocker c g (updated σ p m) q k
  still_blocked q n k same reads w =
      record {
        ballot = w.ballot;
        command = w.command;
        proposed = w.proposed;
        above = subst (λ (b : ℕ). b < w.ballot) same w.above;
        owner = w.owner;
        other = w.other;
        blocks = weaker blocked w.blocks;
      }
    where
      o : ℕ
      o = w.owner.server

      blocked : (d : ℕ) → d < c.drives → Blocked σ n o w.ballot d → Blocked (updated σ p m) k o w.ballot d
      blocked d ld b =
          record {
            risen = risen w.ballot w.command w.proposed d o w.owner.within w.owner.owns b.risen;
            unread = λ h. refuted (reads d o w.owner.within h);
          }
        where
          refuted : (saw n.own d o ≡ true) ⊎ (((σ o).disk d).mbal < k.own.mbal) → ⊥
          refuted (inl h) = b.unread h
          refuted (inr low) =
              let up : n.own.mbal < w.ballot = w.above in
              let at : w.ballot ≤ ((σ o).disk d).mbal = b.risen in
              omega arith

  rival_kept : (q : ℕ) → q < c.servers → (updated σ p m q).own.phase ≡ 2 → Rival c g (updated σ p m) q (updated σ p m q)
  rival_kept =
      everywhere (λ q n. q < c.servers → n.own.phase ≡ 2 → Rival c g (updated σ p m) q n) σ p m
      (λ lt ph. here ph (ch.second ph) (inv.rival p lt (ch.second ph).phase))
      (λ q ne lt ph. there q (inv.rival q lt ph))
    where
      here : m.own.phase ≡ 2 → Onward (σ p) m → Rival c g σ p (σ p) → Rival c g (updated σ p m) p m
      here ph on (inl u) =
          inl (λ b v pr le. u b v pr (subst (λ (x : ℕ). x ≤ b) on.mbal le) ∙ sym on.inp)
      here ph on (inr w) = inr (still_blocked p (σ p) m (sym on.mbal) (ch.unbid ph) w)

      there : (q : ℕ) → Rival c g σ q (σ q) → Rival c g (updated σ p m) q (σ q)
      there q (inl u) = inl u
      there q (inr w) = inr (still_blocked q (σ q) (σ q) refl (λ d r lt h. inl h) w)

  module _ (b v : ℕ) (cm : Committed g b v) (old : Binding c g σ b v) where
    own_kept : (q : ℕ) → Owns c q b → Upholds (σ q) b → Upholds (updated σ p m q) b
    own_kept =
        everywhere (λ q n. Owns c q b → Upholds (σ q) b → Upholds n b) σ p m
        (λ ow was ph. ch.held b v cm ow ph)
        (λ q ne ow was ph. was ph)

    block_kept : (d q : ℕ) → Upholds (σ q) b → b ≤ ((σ q).disk d).bal → b ≤ ((updated σ p m q).disk d).bal
    block_kept d =
        everywhere (λ q n. Upholds (σ q) b → b ≤ ((σ q).disk d).bal → b ≤ (n.disk d).bal) σ p m
        (λ was h. bal_kept (σ p) m d b was (ch.blocks d) h)
        (λ q ne was h. h)

    readers_kept : (d o : ℕ) → o < c.servers → Held c σ o b d → (q : ℕ) → q < c.servers
        → HasSeen o b d q (updated σ p m q)
    readers_kept d o lo h =
        everywhere (λ q n. q < c.servers → HasSeen o b d q n) σ p m
        (λ lq ne ph up s. by_mark lq ne up (ch.first ph d o lo s))
        (λ q ne. h.readers q)
      where
        by_mark : p < c.servers → (p ≡ o → ⊥) → b < m.own.mbal → Again (σ p) m d o ⊎ (((σ o).disk d).bal ≤ m.own.seenbal)
            → b ≤ m.own.seenbal
        by_mark lq ne up (inl again) =
            let lower : m.own.mbal ≤ (σ p).own.mbal = again.mbal in
            let seen : (σ p).own.seenbal ≤ m.own.seenbal = again.seenbal in
            let before : b ≤ (σ p).own.seenbal = h.readers p lq ne again.phase (omega arith) again.mark in
            omega arith
        by_mark lq ne up (inr met) = let at : b ≤ ((σ o).disk d).bal = h.block in omega arith

    binding_kept : Binding c g (updated σ p m) b v
    binding_kept =
        let o : Owner c b = old.owner in
        record {
          owner = o;
          proposed = old.proposed;
          only = old.only;
          own = own_kept o.server o.owns old.own;
          blocks =
              weaker
              (λ d ld h.
              record {
                block = block_kept d o.server old.own h.block;
                readers = readers_kept d o.server o.within h;
              })
              old.blocks;
        }

  pub frame : Invariant c g (updated σ p m)
  frame =
      record {
        each =
            everywhere (λ q n. q < c.servers → Sound c g q n) σ p m (λ lt. ch.sound) (λ q ne lt. inv.each q lt);
        fair = inv.fair;
        spread = spread_kept;
        crossed = crossed_kept;
        rival = rival_kept;
        binding = λ b v cm. binding_kept b v cm (inv.binding b v cm);
      }
