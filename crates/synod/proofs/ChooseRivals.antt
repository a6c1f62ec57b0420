-- Finish in phase 1, the proposals against each other: a server in phase 2 below with another command has the new proposal
-- for a blocker, unless p has seen its proposal; and p has a blocker in any proposal above with another command.
use Prim.Native.Nat.{ℕ, ◌<◌, ◌≤◌}
use native.Mathlib.Omega.{arith}
use native.Mathlib.Decide.{dec_le}
use borrow.Author.Tests.{leb-true, le-leb, eqb-true, not-true, not-false}
use mathlib.Core.Bool.{Bool, true, not, ◌&&◌, ◌||◌}
use mathlib.Core.List.Memᴰ
use mathlib.Core.List.{Memᴰ}
use mathlib.Core.Path.{◌≡◌, refl, sym, ◌∙◌, ap, subst}
use mathlib.Core.Logic.{◌⊎◌, inl, inr}
use lib.Dec.{eqb, leb}
use Rattle.ballot.proofs.Laws.{owned_positive}
use Rattle.lemmas.proofs.Tests.{and_left, and_right, and_intro, clash, or_either, neither_left}
use Rattle.synod.specs.Changes.{proposing}
use Rattle.synod.proofs.Past.{Ghost, Tried}
use Rattle.synod.specs.Slot.{Node, Slot, Config}
use Rattle.synod.proofs.One.{Owns}
use Rattle.synod.proofs.Ghosts.{Proposed, tried, Failing, sift}
use Rattle.synod.proofs.Marks.{saw, none_stands}
use Rattle.synod.proofs.Update.{everywhere}
use Rattle.synod.proofs.Quorums.{weaker, Found, find}
use Rattle.synod.proofs.Proposals.{Fair}
use Rattle.synod.proofs.Rivals.{Unrivalled, Blocked, Blocker, Rival}
use Rattle.synod.proofs.Choosing.{Choice, ballot, command, past, node, next, chosen_cleared, mine, below, apart, same_disk, at_ballot, decided}

module _ {c : Config} {g : Ghost} {σ : Slot} {p : ℕ} (k : Choice c g σ p) where
  blocked_kept : (n : Node) (o b d : ℕ) → Blocked σ n o b d → Blocked (next k) n o b d
  blocked_kept n o b d w =
      record { risen = subst (λ x. b ≤ (x d).mbal) (sym (same_disk k o)) w.risen; unread = w.unread }

  -- another server q in phase 2
  module _ (q : ℕ) (lq : q < c.servers) (ne : q ≡ p → ⊥) (two : (σ q).own.phase ≡ 2) where
    theirs : Owns c q (σ q).own.mbal
    theirs = (k.inv.each q lq).mine (omega arith)

    -- q read p's block on a complete drive, where p read q's: p has seen q's proposal
    seen : Unrivalled g (σ q) → (σ q).own.mbal < ballot k → (d : ℕ) → d < c.drives
        → (k.full.set d && saw (σ q).own d p) ≡ true → command k ≡ (σ q).own.inp
    seen u above d ld both =
        let f = k.full.each d ld (and_left (k.full.set d) (saw (σ q).own d p) both) in
        let low =
        k.inv.crossed q p lq k.within
        (record { other = λ e. ne (sym e); second = two; first = k.one; above = above })
        d ld (and_right (k.full.set d) (saw (σ q).own d p) both) (f.others q lq ne) in
        decided k (σ q).own.mbal (owned_positive c.servers q (σ q).own.mbal theirs) low (σ q).own.inp u

    -- q read p's block on no complete drive: the new proposal blocks q
    blocks : (σ q).own.mbal < ballot k → ((d : ℕ) → d < c.drives → (k.full.set d && saw (σ q).own d p) ≡ true → ⊥)
        → Blocker c (past k) (next k) q (σ q)
    blocks above none =
        record {
          ballot = ballot k;
          command = command k;
          proposed = Memᴰ.head refl;
          above = above;
          owner = record { server = p; within = k.within; owns = mine k };
          other = λ e. ne (sym e);
          blocks =
              record {
                set = k.full.set;
                counts = k.full.counts;
                each =
                    λ d ld i.
                    blocked_kept (σ q) p (ballot k) d
                    (record {
                      risen = at_ballot k d ld (k.full.each d ld i);
                      unread = λ s. none d ld (and_intro (k.full.set d) (saw (σ q).own d p) i s);
                    });
              };
        }

    still : Unrivalled g (σ q) → ((σ q).own.mbal ≤ ballot k → command k ≡ (σ q).own.inp) → Unrivalled (past k) (σ q)
    still u same b v pr le = by_case (Memᴰ.cases_cons pr)
      where
        by_case : (tried b v ≡ tried (ballot k) (command k)) ⊎ Proposed g b v → v ≡ (σ q).own.inp
        by_case (inl e) =
            ap (λ t. t.command) e ∙ same (subst (λ (i : ℕ). (σ q).own.mbal ≤ i) (ap (λ t. t.ballot) e) le)
        by_case (inr old) = u b v old le

    against : Unrivalled g (σ q) → (σ q).own.mbal < ballot k → Rival c (past k) (next k) q (σ q)
    against u above = by_search (find c.drives (λ d. k.full.set d && saw (σ q).own d p))
      where
        by_search : Found c.drives (λ d. k.full.set d && saw (σ q).own d p)
            ⊎ ((d : ℕ) → d < c.drives → (k.full.set d && saw (σ q).own d p) ≡ true → ⊥)
            → Rival c (past k) (next k) q (σ q)
        by_search (inl w) = inl (still u (λ le. seen u above w.drive w.within w.holds))
        by_search (inr none) = inr (blocks above none)

    there : Rival c g σ q (σ q) → Rival c (past k) (next k) q (σ q)
    there (inr w) =
        inr
        (record {
          ballot = w.ballot;
          command = w.command;
          proposed = Memᴰ.tail w.proposed;
          above = w.above;
          owner = w.owner;
          other = w.other;
          blocks = weaker (λ d ld b. blocked_kept (σ q) w.owner.server w.ballot d b) w.blocks;
        })
    there (inl u) = by_order (dec_le (σ q).own.mbal (ballot k))
      where
        by_order : Dec ((σ q).own.mbal ≤ ballot k) → Rival c (past k) (next k) q (σ q)
        by_order (yes le) = against u (let x = apart k q (σ q).own.mbal ne theirs in omega arith)
        by_order (no gt) = inl (still u (λ le. absurd (gt le)))

  -- the proposal t is below the new one, or has its command
  agrees : Tried → Bool
  agrees t = not (leb (ballot k) t.ballot) || eqb t.command (command k)

  passes : (b v : ℕ) → agrees (tried b v) ≡ true → ballot k ≤ b → v ≡ command k
  unfolding agrees
  passes b v t le = by_case (or_either (not (leb (ballot k) b)) (eqb v (command k)) t)
    where
      by_case : (not (leb (ballot k) b) ≡ true) ⊎ (eqb v (command k) ≡ true) → v ≡ command k
      by_case (inl low) = clash (leb (ballot k) b) (le-leb (ballot k) b le) (not-true (leb (ballot k) b) low)
      by_case (inr e) = eqb-true v (command k) e

  -- a proposal above with another command is another server's, whose block p has not read since it cleared
  blocked : Failing agrees g.proposals → Blocker c (past k) (next k) p (node k)
  unfolding agrees proposing
  blocked w =
      record {
        ballot = w.one.ballot;
        command = w.one.command;
        proposed = Memᴰ.tail w.member;
        above = let x = apart k o w.one.ballot ne f.owner.owns in let l = le in omega arith;
        owner = f.owner;
        other = ne;
        blocks =
            weaker
            (λ d ld i. blocked_kept (node k) o w.one.ballot d (record { risen = i; unread = λ s. none_stands (node k).own.read _ (chosen_cleared k).read s }))
            (k.inv.spread o f.owner.within w.one.ballot w.one.command w.member f.owner.owns).blocks;
      }
    where
      f : Fair c g w.one.ballot w.one.command
      f = k.inv.fair w.one.ballot w.one.command w.member

      o : ℕ
      o = f.owner.server

      le : ballot k ≤ w.one.ballot
      le =
          leb-true (ballot k) w.one.ballot
          (not-false (leb (ballot k) w.one.ballot)
          (neither_left (not (leb (ballot k) w.one.ballot)) (eqb w.one.command (command k)) w.fails))

      ne : o ≡ p → ⊥
      ne e =
          let low =
          below k w.one.ballot w.one.command w.member
          (subst (λ (q : ℕ). Owns c q w.one.ballot) e f.owner.owns) in
          let l = le in
          omega arith

  here : Rival c (past k) (next k) p (node k)
  unfolding proposing
  here = by_sift (sift agrees g.proposals)
    where
      by_sift : ((t : Tried) → Memᴰ t g.proposals → agrees t ≡ true) ⊎ Failing agrees g.proposals
          → Rival c (past k) (next k) p (node k)
      by_sift (inl all) = inl (λ b v pr le. by_case b v le (Memᴰ.cases_cons pr))
        where
          by_case : (b v : ℕ) → ballot k ≤ b → (tried b v ≡ tried (ballot k) (command k)) ⊎ Proposed g b v → v ≡ command k
          by_case b v le (inl e) = ap (λ t. t.command) e
          by_case b v le (inr old) = passes b v (all (tried b v) old) le
      by_sift (inr w) = inr (blocked w)

  pub rival_kept : (q : ℕ) → q < c.servers → (next k q).own.phase ≡ 2 → Rival c (past k) (next k) q (next k q)
  rival_kept =
      everywhere (λ q n. q < c.servers → n.own.phase ≡ 2 → Rival c (past k) (next k) q n) σ p (node k)
      (λ lq ph. here)
      (λ q ne lq ph. there q lq ne ph (k.inv.rival q lq ph))
