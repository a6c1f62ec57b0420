-- Read, not outbid: the block read has a smaller mbal, and its bal is at most the new seenbal.
use Prim.Native.Nat.{ℕ, ◌<◌, ◌≤◌}
use native.Mathlib.Omega.{arith}
use native.Mathlib.Nat.{le_refl}
use mathlib.Core.Bool.{true}
use mathlib.Core.Path.{◌≡◌, refl, sym, subst, subst₂}
use mathlib.Core.Logic.{◌⊎◌, inl, inr}
use Rattle.synod.specs.Changes.{read_bit, meeting, marking, reading}
use Rattle.synod.proofs.Machine.{with_record, Fits}
use Rattle.synod.proofs.Past.{Ghost}
use Rattle.synod.specs.Slot.{Node, Slot, Config}
use Rattle.synod.proofs.Marks.{wrote, saw, marked_or, same_bit}
use Rattle.synod.proofs.Meetings.{Met, meets}
use Rattle.synod.proofs.One.{Sound}
use Rattle.synod.proofs.Invariant.{Invariant}
use Rattle.synod.proofs.Frame.{Change, Again}
use Rattle.synod.proofs.Advances.{Advance, advance_ahead, advance_held}

-- 6 Read of server q's block on drive d
module _ {c : Config} {g : Ghost} {σ : Slot} (fits : Fits c) (inv : Invariant c g σ) (p : ℕ) (lp : p < c.servers) (d q : ℕ) (lq : q < c.servers) where
  -- a mark that stands after the step is the new one, or stood before
  new_or_old : (e r : ℕ) → r < c.servers → saw (marking (σ p).own d q) e r ≡ true
      → ((d ≡ e) × (q ≡ r)) ⊎ (saw (σ p).own e r ≡ true)
  unfolding marking
  new_or_old e r lr m = by_bit (marked_or (σ p).own.read (read_bit d q) (read_bit e r) m)
    where
      by_bit : (read_bit e r ≡ read_bit d q) ⊎ (saw (σ p).own e r ≡ true)
          → ((d ≡ e) × (q ≡ r)) ⊎ (saw (σ p).own e r ≡ true)
      by_bit (inl same) =
          let few = fits.servers in
          let lower : q < 4 = omega arith in
          let upper : r < 4 = omega arith in
          inl (same_bit d q e r lower upper (sym same))
      by_bit (inr old) = inr old

  pub read_change : 1 ≤ (σ p).own.phase → (σ p).own.phase ≤ 2 → wrote (σ p).own d ≡ true
      → ((σ q).disk d).mbal < (σ p).own.mbal → Change c g σ p (with_record (σ p) (reading (σ p).own ((σ q).disk d) d q))
  unfolding reading meeting marking
  read_change least most here low =
      record {
        sound =
            record {
              recalled = λ h. absurd (omega arith);
              mine = s.mine;
              begun = s.begun;
              seen = let x = s.seen in let y = met.before in omega arith;
              own_known = s.own_known;
              seen_known = met.known s.seen_known ((inv.each q lq).disk_known d);
              disk_known = s.disk_known;
              written_own = s.written_own;
              read_written = λ h e r lr k. written h e r lr (new_or_old e r lr k);
              offer_offered = s.offer_offered;
              own_agreed = s.own_agreed;
              disk_agreed = s.disk_agreed;
            };
        blocks = λ e. inl refl;
        ahead = advance_ahead inv p lp _ steady;
        held = advance_held inv p lp _ steady;
        first = λ h e r lr k. first h e r (new_or_old e r lr k);
        second = λ h. record { phase = h; mbal = refl; inp = refl };
        unbid = λ h e r lr k. unbid e r (new_or_old e r lr k);
      }
    where
      s : Sound c g p (σ p)
      s = inv.each p lp

      m : Node
      m = with_record (σ p) (meeting (marking (σ p).own d q) ((σ q).disk d))

      met : Met g (marking (σ p).own d q) ((σ q).disk d) m.own
      met = meets g (marking (σ p).own d q) ((σ q).disk d)

      steady : Advance (σ p) m
      steady = record { phase = λ h. h; mbal = λ h. le_refl _; bal = λ h. le_refl _; again = λ h. inl h }

      written : 1 ≤ (σ p).own.phase → (e r : ℕ) → r < c.servers → ((d ≡ e) × (q ≡ r)) ⊎ (saw (σ p).own e r ≡ true)
          → wrote (σ p).own e ≡ true
      written h e r lr (inl same) = subst (λ (k : ℕ). wrote (σ p).own k ≡ true) same.0 here
      written h e r lr (inr old) = s.read_written h e r lr old

      first : (σ p).own.phase ≡ 1 → (e r : ℕ) → ((d ≡ e) × (q ≡ r)) ⊎ (saw (σ p).own e r ≡ true)
          → Again (σ p) m e r ⊎ (((σ r).disk e).bal ≤ m.own.seenbal)
      first h e r (inl same) =
          inr (subst₂ (λ (x y : ℕ). ((σ y).disk x).bal ≤ m.own.seenbal) same.0 same.1 met.block)
      first h e r (inr old) = inl (record { phase = h; mark = old; mbal = le_refl _; seenbal = met.before })

      unbid : (e r : ℕ) → ((d ≡ e) × (q ≡ r)) ⊎ (saw (σ p).own e r ≡ true)
          → (saw (σ p).own e r ≡ true) ⊎ (((σ r).disk e).mbal < (σ p).own.mbal)
      unbid e r (inl same) = inr (subst₂ (λ (x y : ℕ). ((σ y).disk x).mbal < (σ p).own.mbal) same.0 same.1 low)
      unbid e r (inr old) = inl old
