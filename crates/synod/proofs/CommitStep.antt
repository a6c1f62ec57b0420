-- Finish in phase 2: the complete drives meet the quorum of any blocker where the server has read, so there is none, and
-- the commit binds.
use Prim.Native.Nat.{ℕ, ◌<◌}
use native.Mathlib.Omega.{arith}
use mathlib.Core.Path.{◌≡◌, ap, subst}
use mathlib.Core.Logic.{inl, inr}
use Rattle.synod.specs.Changes.{agreeing}
use Rattle.synod.proofs.Machine.{with_record}
use Rattle.synod.proofs.Past.{Ghost, note_commit, commit_ballot}
use Rattle.synod.specs.Slot.{Slot, Config, updated}
use Rattle.ballot.proofs.Laws.{owned_positive}
use Rattle.synod.proofs.Ghosts.{Proposed, Known}
use Rattle.synod.proofs.Quorums.{Quorum, weaker, meet}
use Rattle.synod.proofs.Completes.{Complete}
use Rattle.synod.proofs.One.{Owns}
use Rattle.synod.proofs.Rivals.{Unrivalled, Rival}
use Rattle.synod.proofs.Commits.{Held, Binding}
use Rattle.synod.proofs.Invariant.{Invariant}
use Rattle.synod.proofs.AgreeStep.{agree_kept}

module _ {c : Config} {g : Ghost} {σ : Slot} (inv : Invariant c g σ) (p : ℕ) (lp : p < c.servers) (two : (σ p).own.phase ≡ 2) (full : Quorum c.drives (Complete c (σ p).own p)) where
  unrivalled : Rival c g σ p (σ p) → Unrivalled g (σ p)
  unrivalled (inl u) = u
  unrivalled (inr w) =
      let x = meet full w.blocks in
      absurd (x.second.unread (x.first.others w.owner.server w.owner.within w.other))

  mine : Owns c p (σ p).own.mbal
  mine = (inv.each p lp).mine (omega arith)

  same : (σ p).own.bal ≡ (σ p).own.mbal
  same = (inv.each p lp).begun two

  proposed : Proposed g (σ p).own.mbal (σ p).own.inp
  proposed = by_case (inv.each p lp).own_known
    where
      by_case : Known g (σ p).own.bal (σ p).own.inp → Proposed g (σ p).own.mbal (σ p).own.inp
      by_case (inl zero) =
          let e = zero.0 in
          let l = owned_positive c.servers p (σ p).own.mbal mine in
          let m = same in
          absurd (omega arith)
      by_case (inr pr) = subst (λ (b : ℕ). Proposed g b (σ p).own.inp) same pr

  -- on a complete drive the own block stands, and whoever read it there has seen the ballot
  held : (d : ℕ) → d < c.drives → Complete c (σ p).own p d → Held c σ p (σ p).own.mbal d
  held d ld f =
      record {
        block =
            let e : ((σ p).disk d).bal ≡ (σ p).own.bal = ap (λ x. x.bal) ((inv.each p lp).written_own d f.written) in
            let m = same in
            omega arith;
        readers =
            λ q lq ne one up mark.
            inv.crossed p q lp lq (record { other = ne; second = two; first = one; above = up }) d ld (f.others q lq ne) mark;
      }

  binds : Binding c g σ (σ p).own.mbal (σ p).own.inp
  binds =
      record {
        owner = record { server = p; within = lp; owns = mine };
        proposed = proposed;
        only = unrivalled (inv.rival p lp two);
        own = λ h. let m = same in omega arith;
        blocks = weaker held full;
      }

  -- 7 Finish, phase 2
  pub commit_kept
      : Invariant c (note_commit (commit_ballot (σ p).own.mbal (σ p).own.inp g.commits) (σ p).own.inp g)
      (updated σ p (with_record (σ p) (agreeing (σ p).own (σ p).own.inp)))
  commit_kept = agree_kept inv p lp (omega arith) (σ p).own.inp (inl binds)
