-- Write: the drive holds the own block, which is at or past each of the server's proposals and commits.
use Prim.Native.Nat.{ℕ, ◌<◌, ◌≤◌}
use native.Mathlib.Omega.{arith}
use native.Mathlib.Nat.{le_refl}
use mathlib.Core.Bool.{true}
use mathlib.Core.Path.{◌≡◌, refl}
use mathlib.Core.Logic.{◌⊎◌, inl, inr}
use Rattle.state.specs.Server.{own_block}
use Rattle.synod.specs.Changes.{writing}
use Rattle.synod.proofs.Machine.{with_block}
use Rattle.synod.proofs.Past.{Ghost}
use Rattle.synod.specs.Slot.{Slot, Config, updated}
use Rattle.synod.proofs.Ghosts.{Known, Agreed, shown_agreed}
use Rattle.synod.proofs.Marks.{wrote, marked_or, marked_still}
use Rattle.synod.proofs.Update.{everywhere}
use Rattle.synod.proofs.One.{Sound}
use Rattle.synod.proofs.Invariant.{Invariant}
use Rattle.synod.proofs.Frame.{Change}
use Rattle.synod.proofs.Advances.{Advance, advance_ahead, advance_held}

-- 5 Write
module _ {c : Config} {g : Ghost} {σ : Slot} (inv : Invariant c g σ) (p : ℕ) (lp : p < c.servers) (d : ℕ) (ld : d < 32) where
  -- a drive marked written holds the own block: the one just written does, and no other block changed
  written : (e : ℕ) → wrote (writing (σ p).own d) e ≡ true → updated (σ p).disk d (own_block (σ p).own) e ≡ own_block (σ p).own
  unfolding writing
  written =
      everywhere (λ e x. wrote (writing (σ p).own d) e ≡ true → x ≡ own_block (σ p).own) (σ p).disk d (own_block (σ p).own)
      (λ h. refl)
      (λ e ne h. before e ne (marked_or (σ p).own.written d e h))
    where
      before : (e : ℕ) → (e ≡ d → ⊥) → (e ≡ d) ⊎ (wrote (σ p).own e ≡ true) → (σ p).disk e ≡ own_block (σ p).own
      before e ne (inl same) = absurd (ne same)
      before e ne (inr old) = (inv.each p lp).written_own e old

  pub write_change : 1 ≤ (σ p).own.phase → Change c g σ p (with_block (σ p) d (writing (σ p).own d))
  unfolding writing
  write_change low =
      record {
        sound =
            record {
              recalled = λ h. absurd (omega arith);
              mine = s.mine;
              begun = s.begun;
              seen = s.seen;
              own_known = s.own_known;
              seen_known = s.seen_known;
              disk_known =
                  everywhere (λ e x. Known g x.bal x.inp) (σ p).disk d (own_block (σ p).own) s.own_known
                  (λ e ne. s.disk_known e);
              written_own = written;
              read_written = λ h e q lt k. marked_still (σ p).own.written d e ld (s.read_written h e q lt k);
              offer_offered = s.offer_offered;
              own_agreed = s.own_agreed;
              disk_agreed =
                  everywhere (λ e x. Agreed g x.done) (σ p).disk d (own_block (σ p).own)
                  (shown_agreed g (σ p).own s.own_agreed)
                  (λ e ne. s.disk_agreed e);
            };
        blocks =
            everywhere (λ e x. (x ≡ (σ p).disk e) ⊎ ((1 ≤ (σ p).own.phase) × (x ≡ own_block (σ p).own))) (σ p).disk d
            (own_block (σ p).own)
            (inr (low, refl))
            (λ e ne. inl refl);
        ahead = advance_ahead inv p lp _ steady;
        held = advance_held inv p lp _ steady;
        first = λ h e q lt k. inl (record { phase = h; mark = k; mbal = le_refl _; seenbal = le_refl _ });
        second = λ h. record { phase = h; mbal = refl; inp = refl };
        unbid = λ h e q lt k. inl k;
      }
    where
      s : Sound c g p (σ p)
      s = inv.each p lp

      steady : Advance (σ p) (with_block (σ p) d (writing (σ p).own d))
      steady = record { phase = λ h. h; mbal = λ h. le_refl _; bal = λ h. le_refl _; again = λ h. inl h }
