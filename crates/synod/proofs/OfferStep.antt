-- Offer: the command joins those offered, and the record keeps all but its offer.
use Prim.Native.Nat.{ℕ, ◌<◌}
use native.Mathlib.Nat.{le_refl}
use mathlib.Core.Path.{refl}
use mathlib.Core.Logic.{inl, inr}
use Rattle.state.specs.Server.{with_offer}
use Rattle.synod.proofs.Machine.{with_record}
use Rattle.synod.proofs.Past.{Ghost, note_offer}
use Rattle.synod.specs.Slot.{Slot, Config}
use Rattle.synod.proofs.Ghosts.{Offered}
use Rattle.synod.proofs.One.{Sound}
use Rattle.synod.proofs.Grows.{Grows, with_offer_lem, sound_more, fair_more, blocker_more}
use Rattle.synod.proofs.Rivals.{Rival}
use Rattle.synod.proofs.Commits.{Binding}
use Rattle.synod.proofs.Invariant.{Invariant}
use Rattle.synod.proofs.Frame.{Change}
use Rattle.synod.proofs.Advances.{Advance, advance_ahead, advance_held}

-- a longer list of offers takes nothing away
pub offered_more : {c : Config} {g : Ghost} {σ : Slot} (w : ℕ) → Invariant c g σ → Invariant c (note_offer w g) σ
offered_more {c} {g} {σ} w inv =
    record {
      each = λ p lt. sound_more more (inv.each p lt);
      fair = λ b v pr. fair_more more (inv.fair b v pr);
      spread = inv.spread;
      crossed = inv.crossed;
      rival = λ p lt ph. rival p (inv.rival p lt ph);
      binding =
          λ b v cm.
          let x : Binding c g σ b v = inv.binding b v cm in
          record { owner = x.owner; proposed = x.proposed; only = x.only; own = x.own; blocks = x.blocks };
    }
  where
    more : Grows g (note_offer w g)
    more = with_offer_lem g w

    rival : (p : ℕ) → Rival c g σ p (σ p) → Rival c (note_offer w g) σ p (σ p)
    rival p (inl u) = inl u
    rival p (inr x) = inr (blocker_more more x)

-- 1 Offer, of a command that was offered
pub offer_change : {c : Config} {g : Ghost} {σ : Slot} → Invariant c g σ → (p : ℕ) → p < c.servers → (w : ℕ) → Offered g w
    → Change c g σ p (with_record (σ p) (with_offer (σ p).own w))
offer_change {c} {g} {σ} inv p lp w mem =
    record {
      sound =
          record {
            recalled = λ h d m. let x = s.recalled h d m in record { mbal = x.mbal; bal = x.bal };
            mine = s.mine;
            begun = s.begun;
            seen = s.seen;
            own_known = s.own_known;
            seen_known = s.seen_known;
            disk_known = s.disk_known;
            written_own = s.written_own;
            read_written = s.read_written;
            offer_offered = inr mem;
            own_agreed = s.own_agreed;
            disk_agreed = s.disk_agreed;
          };
      blocks = λ d. inl refl;
      ahead = advance_ahead inv p lp _ steady;
      held = advance_held inv p lp _ steady;
      first = λ h d q lt m. inl (record { phase = h; mark = m; mbal = le_refl _; seenbal = le_refl _ });
      second = λ h. record { phase = h; mbal = refl; inp = refl };
      unbid = λ h d q lt m. inl m;
    }
  where
    s : Sound c g p (σ p)
    s = inv.each p lp

    steady : Advance (σ p) (with_record (σ p) (with_offer (σ p).own w))
    steady = record { phase = λ h. h; mbal = λ h. le_refl _; bal = λ h. le_refl _; again = λ h. inl h }
