-- Bid, a Read that is outbid, and Fail: the server clears, at a larger ballot of its own or with nothing left.
use Prim.Native.Nat.{ℕ, ◌<◌, ◌≤◌}
use native.Mathlib.Omega.{arith}
use native.Mathlib.Nat.{le_refl}
use mathlib.Core.Path.{refl}
use mathlib.Core.Logic.{inl, inr}
use Rattle.state.specs.Server.{failed}
use Rattle.synod.specs.Changes.{bidding}
use Rattle.synod.proofs.Machine.{with_record}
use Rattle.synod.proofs.Past.{Ghost}
use Rattle.synod.specs.Slot.{Slot, Config}
use Rattle.synod.proofs.One.{Owns, Sound}
use Rattle.synod.proofs.Invariant.{Invariant}
use Rattle.synod.proofs.Frame.{Change}
use Rattle.synod.proofs.Advances.{Advance, advance_ahead, advance_held}
use Rattle.synod.proofs.Clears.{cleared_change}

module _ {c : Config} {g : Ghost} {σ : Slot} (inv : Invariant c g σ) (p : ℕ) (lp : p < c.servers) where
  -- 8 Fail: nothing is left of the record, and the blocks stay
  pub fail_change : Change c g σ p (with_record (σ p) failed)
  fail_change =
      cleared_change p failed (inv.each p lp) (record { written = refl; read = refl; seenbal = refl; seeninp = refl })
      (record {
        mine = λ h. absurd (omega arith);
        begun = λ h. absurd (omega arith);
        known = inl (refl, refl);
        offer = inl refl;
        agreed = inl refl;
      })
      (λ h. omega arith)
      (λ b v pr ow. record { reached = λ h. absurd (omega arith); passed = λ h. absurd (omega arith) })
      (λ b v cm ow h. absurd (omega arith))

  -- 4 Bid, and 6 Read outbid: a larger own ballot, in phase 1
  pub bid_change : (b : ℕ) → Owns c p b → 1 ≤ (σ p).own.phase → (σ p).own.mbal < b
      → Change c g σ p (with_record (σ p) (bidding (σ p).own b))
  unfolding bidding
  bid_change b ow ph up =
      let s : Sound c g p (σ p) = inv.each p lp in
      cleared_change p (bidding (σ p).own b) s (record { written = refl; read = refl; seenbal = refl; seeninp = refl })
      (record {
        mine = λ h. ow;
        begun = λ h. absurd (omega arith);
        known = s.own_known;
        offer = s.offer_offered;
        agreed = s.own_agreed;
      })
      (λ h. omega arith)
      (advance_ahead inv p lp _ advance)
      (advance_held inv p lp _ advance)
    where
      advance : Advance (σ p) (with_record (σ p) (bidding (σ p).own b))
      advance = record { phase = λ h. ph; mbal = λ h. omega arith; bal = λ h. le_refl _; again = λ h. inr up }
