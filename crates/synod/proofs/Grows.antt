-- A longer past takes nothing away from what it knew.
use Prim.Native.Nat.{ℕ}
use mathlib.Core.List.Memᴰ
use mathlib.Core.Path.{◌≡◌}
use mathlib.Core.Logic.{◌⊎◌, inl, inr}
use Rattle.state.specs.declared.Step.{Step}
use Rattle.state.specs.View.{Deed, Brings, Stores, Alone, View, AtSlot, AtServer, AtDrive, view_of}
use Rattle.state.specs.declared.Answer.{Answer}
use Rattle.state.specs.declared.Answer.TheVariants as answer
use Rattle.std.specs.Prelude.{Ok, Err}
use Rattle.synod.proofs.Past.{Ghost, note_offer, note_proposal, note_commit, commit_ballot, heard, note_deed, ghost_after, noted}
use Rattle.synod.specs.Rules.{Ruling}
use Rattle.synod.specs.Slot.{Node, Slot, Config}
use Rattle.synod.proofs.Ghosts.{Offered, Proposed, Committed, Known, Agreed}
use Rattle.synod.proofs.One.{Sound}
use Rattle.synod.proofs.Proposals.{Fair}
use Rattle.synod.proofs.Rivals.{Blocker}

pub record Grows (g h : Ghost) : Type 0 where
  pub offered : (v : ℕ) → Offered g v → Offered h v
  pub proposed : (b v : ℕ) → Proposed g b v → Proposed h b v
  pub committed : (b v : ℕ) → Committed g b v → Committed h b v

same : (g : Ghost) → Grows g g
same g = record { offered = λ v m. m; proposed = λ b v m. m; committed = λ b v m. m }

pub with_offer_lem : (g : Ghost) (w : ℕ) → Grows g (note_offer w g)
with_offer_lem g w = record { offered = λ v m. Memᴰ.tail m; proposed = λ b v m. m; committed = λ b v m. m }

pub with_proposal : (g : Ghost) (e w : ℕ) → Grows g (note_proposal e w g)
with_proposal g e w = record { offered = λ v m. m; proposed = λ b v m. Memᴰ.tail m; committed = λ b v m. m }

pub with_commit : (g : Ghost) (e w : ℕ) → Grows g (note_commit e w g)
with_commit g e w = record { offered = λ v m. m; proposed = λ b v m. m; committed = λ b v m. Memᴰ.tail m }

module _ {g h : Ghost} (more : Grows g h) where
  known_more : {b v : ℕ} → Known g b v → Known h b v
  known_more (inl e) = inl e
  known_more {b} {v} (inr m) = inr (more.proposed b v m)

  offer_more : {v : ℕ} → (v ≡ 0) ⊎ Offered g v → (v ≡ 0) ⊎ Offered h v
  offer_more (inl e) = inl e
  offer_more {v} (inr m) = inr (more.offered v m)

  agreed_more : {v : ℕ} → Agreed g v → Agreed h v
  agreed_more (inl e) = inl e
  agreed_more {v} (inr s) = inr (record { ballot = s.ballot; committed = more.committed s.ballot v s.committed })

  pub sound_more : {c : Config} {p : ℕ} {n : Node} → Sound c g p n → Sound c h p n
  sound_more s =
      record {
        recalled = s.recalled;
        mine = s.mine;
        begun = s.begun;
        seen = s.seen;
        own_known = known_more s.own_known;
        seen_known = known_more s.seen_known;
        disk_known = λ d. known_more (s.disk_known d);
        written_own = s.written_own;
        read_written = s.read_written;
        offer_offered = offer_more s.offer_offered;
        own_agreed = agreed_more s.own_agreed;
        disk_agreed = λ d. agreed_more (s.disk_agreed d);
      }

  pub fair_more : {c : Config} {b v : ℕ} → Fair c g b v → Fair c h b v
  fair_more {v = v} f = record { owner = f.owner; command = f.command; offered = more.offered v f.offered }

  pub blocker_more : {c : Config} {σ : Slot} {p : ℕ} {n : Node} → Blocker c g σ p n → Blocker c h σ p n
  blocker_more w =
      record {
        ballot = w.ballot;
        command = w.command;
        proposed = more.proposed w.ballot w.command w.proposed;
        above = w.above;
        owner = w.owner;
        other = w.other;
        blocks = w.blocks;
      }

heard_grows : (g : Ghost) (mbal : ℕ) (a : Answer) → Grows g (heard g mbal a)
unfolding heard
heard_grows g mbal answer.Done = same g
heard_grows g mbal (answer.Outbid b) = same g
heard_grows g mbal (answer.Chosen c) = with_proposal g mbal c
heard_grows g mbal (answer.Committed c) = with_commit g (commit_ballot mbal c g.commits) c

deed_grows : {g h : Ghost} (k : Deed) → Grows g h → Grows g (note_deed k h)
deed_grows (Brings c) x =
    record { offered = λ w m. Memᴰ.tail (x.offered w m); proposed = x.proposed; committed = x.committed }
deed_grows (Stores d) x = x
deed_grows Alone x = x

view_grows : (g : Ghost) (σ : Slot) (w : View) (a : Answer) → Grows g (ghost_after g σ w a)
view_grows g σ (AtSlot p s k) a = deed_grows k (heard_grows g (σ p).own.mbal a)
view_grows g σ (AtServer p) a = heard_grows g (σ p).own.mbal a
view_grows g σ (AtDrive d on) a = same g

-- what a step adds takes nothing away
pub noted_grows : (g : Ghost) (σ : Slot) (st : Step) (r : Ruling) → Grows g (noted g σ st r)
unfolding noted
noted_grows g σ st (Err n) = same g
noted_grows g σ st (Ok (v, a)) = view_grows g σ (view_of st) a
