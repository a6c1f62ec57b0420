-- Recall and Rejoin: the recalled drives meet the quorum of each of the server's proposals and commits, so it comes back
-- past all of them.
use Prim.Native.Nat.{ℕ, ◌<◌, ◌≤◌}
use native.Mathlib.Omega.{arith}
use mathlib.Core.Bool.{true}
use mathlib.Core.Path.{◌≡◌, refl, subst}
use mathlib.Core.Logic.{◌⊎◌, inl, inr}
use Rattle.quorum.specs.Sets.{majority}
use Rattle.state.specs.declared.Server.{Server}
use Rattle.synod.specs.Changes.{read_bit, meeting, marking, topping, recalling, rejoining}
use Rattle.synod.proofs.Machine.{with_record}
use Rattle.synod.proofs.Past.{Ghost}
use Rattle.synod.specs.Rules.{recalled_on}
use Rattle.synod.specs.Slot.{Node, Slot, Config}
use Rattle.synod.proofs.Ghosts.{Proposed, Committed}
use Rattle.synod.proofs.Marks.{saw, marked_or}
use Rattle.synod.proofs.Quorums.{Quorum, meet}
use Rattle.synod.proofs.Meetings.{Met, meets}
use Rattle.synod.proofs.One.{Owns, Sound, Recalled}
use Rattle.synod.proofs.Invariant.{Invariant}
use Rattle.synod.proofs.Frame.{Change}
use Rattle.synod.proofs.Advances.{bound_of}
use Rattle.synod.proofs.Clears.{cleared_change}

module _ {c : Config} {g : Ghost} {σ : Slot} (inv : Invariant c g σ) (p : ℕ) (lp : p < c.servers) where
  -- 3 Rejoin
  pub rejoin_change : (b : ℕ) → Owns c p b → (σ p).own.phase ≡ 0
      → majority c.drives (recalled_on (σ p).own p) ≡ true → (σ p).own.top < b
      → Change c g σ p (with_record (σ p) (rejoining (σ p).own b))
  unfolding rejoining
  rejoin_change b ow ph most up =
      cleared_change p (rejoining (σ p).own b) s (record { written = refl; read = refl; seenbal = refl; seeninp = refl })
      (record {
        mine = λ h. ow;
        begun = λ h. absurd (omega arith);
        known = s.seen_known;
        offer = s.offer_offered;
        agreed = s.own_agreed;
      })
      (λ h. omega arith)
      (λ e v pr mine.
      let low : e < b = above e v pr mine in record { reached = λ h. omega arith; passed = λ h. low })
      held
    where
      s : Sound c g p (σ p)
      s = inv.each p lp

      recalled : Quorum c.drives (Recalled (σ p))
      recalled = record { set = recalled_on (σ p).own p; counts = most; each = λ d ld h. s.recalled ph d h }

      above : (e v : ℕ) → Proposed g e v → Owns c p e → e < b
      above e v pr mine =
          let x = meet recalled (inv.spread p lp e v pr mine).blocks in
          let top : ((σ p).disk x.drive).mbal ≤ (σ p).own.top = x.first.mbal in
          let low : e ≤ ((σ p).disk x.drive).mbal = x.second in
          omega arith

      held : (e v : ℕ) → Committed g e v → Owns c p e → 1 ≤ 1 → e ≤ (σ p).own.seenbal
      held e v cm mine h =
          let x = meet recalled (bound_of inv p e v cm mine).blocks in
          let top : ((σ p).disk x.drive).bal ≤ (σ p).own.seenbal = x.first.bal in
          let low : e ≤ ((σ p).disk x.drive).bal = x.second.block in
          omega arith

  -- 2 Recall
  pub recall_change : (d : ℕ) → (σ p).own.phase ≡ 0
      → Change c g σ p (with_record (σ p) (recalling (σ p).own ((σ p).disk d) p d))
  unfolding recalling meeting topping marking
  recall_change d ph =
      record {
        sound =
            record {
              recalled = λ h e m. recalled e (marked_or (σ p).own.read (read_bit d p) (read_bit e p) m);
              mine = λ h. absurd (omega arith);
              begun = λ h. absurd (omega arith);
              seen = let x = s.seen in let y = met.before in omega arith;
              own_known = s.own_known;
              seen_known = met.known s.seen_known (s.disk_known d);
              disk_known = s.disk_known;
              written_own = s.written_own;
              read_written = λ h. absurd (omega arith);
              offer_offered = s.offer_offered;
              own_agreed = s.own_agreed;
              disk_agreed = s.disk_agreed;
            };
        blocks = λ e. inl refl;
        ahead = λ b v pr ow. record { reached = λ h. absurd (omega arith); passed = λ h. absurd (omega arith) };
        held = λ b v cm ow h. absurd (omega arith);
        first = λ h. absurd (omega arith);
        second = λ h. absurd (omega arith);
        unbid = λ h. absurd (omega arith);
      }
    where
      s : Sound c g p (σ p)
      s = inv.each p lp

      marked_one : Server
      marked_one = topping (marking (σ p).own d p) ((σ p).disk d).mbal

      m : Node
      m = with_record (σ p) (meeting marked_one ((σ p).disk d))

      met : Met g marked_one ((σ p).disk d) m.own
      met = meets g marked_one ((σ p).disk d)

      recalled : (e : ℕ) → (read_bit e p ≡ read_bit d p) ⊎ (saw (σ p).own e p ≡ true) → Recalled m e
      recalled e (inl same) =
          let eq : d ≡ e = omega arith in
          let y = met.block in
          subst (λ (k : ℕ). Recalled m k) eq (record { mbal = omega arith; bal = y })
      recalled e (inr old) =
          let x : Recalled (σ p) e = s.recalled ph e old in
          let low = x.mbal in
          let least = x.bal in
          let y = met.before in
          record { mbal = omega arith; bal = omega arith }
