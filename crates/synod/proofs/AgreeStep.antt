-- Phase 3 comes by a commit of the server's own, or by the done of a block that it reads. Either way a commit that binds
-- joins the others; the server's own change is then a step like those that neither propose nor commit.
use Prim.Native.Nat.{ℕ, ◌<◌, ◌≤◌}
use native.Mathlib.Omega.{arith}
use native.Mathlib.Nat.{le_refl}
use mathlib.Core.List.Memᴰ
use mathlib.Core.Path.{◌≡◌, refl, sym, subst}
use mathlib.Core.Logic.{◌⊎◌, inl, inr}
use Rattle.synod.specs.Changes.{agreeing}
use Rattle.synod.specs.Slot.{Slot, Config, updated}
use Rattle.synod.proofs.Machine.{with_record}
use Rattle.synod.proofs.Past.{Ghost, Tried, note_commit, commit_ballot}
use Rattle.synod.proofs.Ghosts.{Committed, Settled, Agreed, tried, of_commit_ballot}
use Rattle.synod.proofs.Grows.{Grows, with_commit, sound_more, fair_more, blocker_more}
use Rattle.synod.proofs.One.{Sound}
use Rattle.synod.proofs.Rivals.{Rival}
use Rattle.synod.proofs.Commits.{Binding}
use Rattle.synod.proofs.Invariant.{Invariant}
use Rattle.synod.proofs.Frame.{Change, frame}
use Rattle.synod.proofs.Advances.{Advance, advance_ahead, advance_held}
use Rattle.synod.proofs.Clears.{cleared_change}

-- a commit that binds joins the others
committed_more : {c : Config} {g : Ghost} {σ : Slot} (b v : ℕ) → Invariant c g σ → Binding c g σ b v
    → Invariant c (note_commit b v g) σ
committed_more {c} {g} {σ} b v inv new =
    record {
      each = λ p lt. sound_more more (inv.each p lt);
      fair = λ e w pr. fair_more more (inv.fair e w pr);
      spread = inv.spread;
      crossed = inv.crossed;
      rival = λ p lt ph. rival p (inv.rival p lt ph);
      binding = λ e w cm. binding e w (Memᴰ.cases_cons cm);
    }
  where
    more : Grows g (note_commit b v g)
    more = with_commit g b v

    rival : (p : ℕ) → Rival c g σ p (σ p) → Rival c (note_commit b v g) σ p (σ p)
    rival p (inl u) = inl u
    rival p (inr x) = inr (blocker_more more x)

    same : (e w : ℕ) → Binding c g σ e w → Binding c (note_commit b v g) σ e w
    same e w x = record { owner = x.owner; proposed = x.proposed; only = x.only; own = x.own; blocks = x.blocks }

    binding : (e w : ℕ) → (tried e w ≡ tried b v) ⊎ Committed g e w → Binding c (note_commit b v g) σ e w
    binding e w (inl eq) =
        subst (λ (t : Tried). Binding c (note_commit b v g) σ t.ballot t.command) (sym eq) (same b v new)
    binding e w (inr cm) = same e w (inv.binding e w cm)

module _ {c : Config} {g : Ghost} {σ : Slot} (inv : Invariant c g σ) (p : ℕ) (lp : p < c.servers) (ph : 1 ≤ (σ p).own.phase) where
  -- the server's own change: phase 3 with a command that is a commit's; its own block stays
  agree_change : (v : ℕ) → Agreed g v → Change c g σ p (with_record (σ p) (agreeing (σ p).own v))
  unfolding agreeing
  agree_change v known =
      cleared_change p (agreeing (σ p).own v) s (record { written = refl; read = refl; seenbal = refl; seeninp = refl })
      (record {
        mine = λ h. s.mine ph;
        begun = λ h. absurd (omega arith);
        known = s.own_known;
        offer = s.offer_offered;
        agreed = known;
      })
      (λ h. omega arith)
      (advance_ahead inv p lp _ advance)
      (advance_held inv p lp _ advance)
    where
      s : Sound c g p (σ p)
      s = inv.each p lp

      advance : Advance (σ p) (with_record (σ p) (agreeing (σ p).own v))
      advance =
          record { phase = λ h. ph; mbal = λ h. le_refl _; bal = λ h. le_refl _; again = λ h. absurd (omega arith) }

module _ {c : Config} {g : Ghost} {σ : Slot} (inv : Invariant c g σ) (p : ℕ) (lp : p < c.servers) (ph : 1 ≤ (σ p).own.phase) where
  -- what the answer committed with v makes of the past and of the server
  abbrev AgreesOn : ℕ → Type 0
  AgreesOn v =
      Invariant c (note_commit (commit_ballot (σ p).own.mbal v g.commits) v g)
      (updated σ p (with_record (σ p) (agreeing (σ p).own v)))

  pub agree_kept : (v : ℕ) → Binding c g σ (σ p).own.mbal v ⊎ Settled g.commits v → AgreesOn v
  agree_kept v some =
      let b = commit_ballot (σ p).own.mbal v g.commits in
      let binds = of_commit_ballot (λ e. Binding c g σ e v) (σ p).own.mbal v g.commits (λ e m. inv.binding e v m) some in
      let now = committed_more b v inv binds in
      frame now p lp _ (agree_change now p lp ph v (inr (record { ballot = b; committed = Memᴰ.head refl })))

  -- 6 Read of server q's block on drive d, whose done is a commit's
  pub learn_kept : (q d : ℕ) → q < c.servers → (((σ q).disk d).done ≡ 0 → ⊥) → AgreesOn ((σ q).disk d).done
  learn_kept q d lq some = by_case ((inv.each q lq).disk_agreed d)
    where
      by_case : Agreed g ((σ q).disk d).done → AgreesOn ((σ q).disk d).done
      by_case (inl none) = absurd (some none)
      by_case (inr s) = agree_kept ((σ q).disk d).done (inr s)
