-- An accepted step on what has the shape of a room: every slot of the room that it makes is the slot that the machine of one slot
-- makes, and that room has the shape of one. Where the room is in range, so is the room that it makes, whatever test of a value
-- it is by that 0 passes.
use Prim.Native.Nat.{ℕ, ◌<◌}
use mathlib.Core.Path.{◌≡◌, refl, ◌∙◌, sym, ap}
use mathlib.Core.Bool.{Bool, true, false, cond}
use mathlib.Core.List.{List}
use borrow.Author.Tests.{eq-eqb, ne_eqb}
use native.Mathlib.Omega.{arith}
use Rattle.std.specs.Prelude.{Ok}
use Rattle.quorum.specs.Marks.{marked, unmarked}
use Rattle.quorum.proofs.MaskLaws.{within_marked, within_unmarked}
use Rattle.state.specs.Server.{failed, own_block}
use Rattle.state.specs.declared.Server.{Server}
use Rattle.state.specs.declared.Answer.{Answer}
use Rattle.state.specs.declared.Answer.TheVariants.{Done}
use Rattle.state.specs.declared.Step.{Step}
use Rattle.state.specs.declared.Step.TheVariants.{Offer, Recall, Rejoin, Bid, Write, Read, Finish, Fail, DriveOff, DriveOn}
use Rattle.state.specs.View.{Deed, Brings, Stores, Alone, View, AtSlot, AtServer, AtDrive, view_of, view_slot}
use Rattle.synod.specs.Arguments.{places_fit, deed_fits, command_fits}
use Rattle.synod.specs.Rules.{rule_of}
use Rattle.synod.specs.Slot.{Node, Slot, config_of, updated}
use Rattle.synod.proofs.Machine.{ruled, with_record, with_block, node_after, slot_after}
use Rattle.synod.proofs.Places.{placed, InView}
use Rattle.synod.proofs.Rulings.{Plain}
use Rattle.synod.proofs.Update.{everywhere, updated_at, updated_off}
use Rattle.range.specs.Range.{legal_drives, masks_of, value_fits}
use Rattle.range.proofs.RecordLaws.{ServerIn, zero_fits, command_fits_lem, drive_legal}
use Rattle.model.specs.Concerns.{concerns_at}
use Rattle.model.specs.Room.{SlotState, Room, no_slot, slot, seen_of, seen_at, record_on, block_on, with_slot}
use Rattle.model.proofs.RulesKeep.{Keeps, failed_in, own_in, offer_keeps, recall_keeps, rejoin_keeps, bid_keeps, write_keeps, read_keeps, finish_keeps}
use Rattle.model.proofs.Shapes.{Shape, SlotIn, RoomIn, seen_record, seen_block, record_shape, block_shape, record_held, block_held, slot_shape, failure_slot, failure_shape, off_shape, slot_held, failure_held, off_held}
use Rattle.model.proofs.Tables.{got_set}
use Rattle.model.proofs.Views.{stored_in}

-- the command that a step brings; 0 where it brings none
abbrev pub brought : View → ℕ
brought (AtSlot p s (Brings c)) = c
brought (AtSlot p s (Stores d)) = 0
brought (AtSlot p s Alone) = 0
brought (AtServer p) = 0
brought (AtDrive d on) = 0

-- where the step's command fits, it is a value by the room's limits
deed_brings : (limits : List ℕ) (w : View) → deed_fits limits w ≡ true → value_fits limits (brought w) ≡ true
deed_brings limits (AtSlot p s (Brings c)) e = command_fits_lem limits c e
deed_brings limits (AtSlot p s (Stores d)) e = zero_fits limits
deed_brings limits (AtSlot p s Alone) e = zero_fits limits
deed_brings limits (AtServer p) e = zero_fits limits
deed_brings limits (AtDrive d on) e = zero_fits limits

pub brought_fits : (limits : List ℕ) (st : Step) → command_fits limits st ≡ true → value_fits limits (brought (view_of st)) ≡ true
unfolding command_fits
brought_fits limits st e = deed_brings limits (view_of st) e

updated_twice : {A : Type 0} (f : ℕ → A) (p : ℕ) (a b : A) (q : ℕ) → updated (updated f p a) p b q ≡ updated f p b q
updated_twice f p a b q =
    everywhere (λ j x. x ≡ updated f p b j) (updated f p a) p b (sym (updated_at f p b)) (λ j n. updated_off f p a j n ∙ sym (updated_off f p b j n)) q

module _ (r : Room) (i : Shape r) where
  -- the slot s changed to v
  changed
      : (s : ℕ) (v : SlotState) → s < r.sizes.slots → (p : ℕ) (k : Deed) (w : Server)
      → seen_of v ≡ updated (seen_at r s) p (node_after (seen_at r s p) k w)
      → (t : ℕ) → seen_at (with_slot r s v) t ≡ cond (concerns_at t (AtSlot p s k)) (slot_after (seen_at r t) (AtSlot p s k) w) (seen_at r t)
  changed s v h p k w is t =
      let e = i.long in
      ap seen_of (got_set r.slots s v no_slot (omega arith) t)
      ∙ everywhere (λ t x. seen_of x ≡ cond (concerns_at t (AtSlot p s k)) (slot_after (seen_at r t) (AtSlot p s k) w) (seen_at r t)) (slot r) s v
      (rw (eq-eqb s s refl) is)
      (λ t n. rw (ne_eqb s t (λ same. n (sym same))) refl) t

  -- the record in a slot, and the block too
  record_seen : (s p : ℕ) (w : Server) → s < r.sizes.slots → p < r.sizes.servers
      → seen_of (record_on (slot r s) p w) ≡ updated (seen_at r s) p (with_record (seen_at r s p) w)
  record_seen s p w h l = let e = (i.slots s h).servers in seen_record (slot r s) p w (omega arith)

  block_seen : (s d p : ℕ) (w : Server) → s < r.sizes.slots → d < r.sizes.drives → p < r.sizes.servers
      → seen_of (block_on (record_on (slot r s) p w) d p (own_block w)) ≡ updated (seen_at r s) p (with_block (seen_at r s p) d w)
  block_seen s d p w h k l =
      let e = (i.slots s h).drives in
      let f = (i.slots s h).rows d k in
      let τ : Slot = seen_of (record_on (slot r s) p w) in
      let with : Node → Node = λ n. record { own = n.own; disk = updated n.disk d (own_block w) } in
      seen_block (record_on (slot r s) p w) d p (own_block w) (omega arith) (omega arith)
      ∙ ap (λ (σ : Slot). updated σ p (with (σ p))) (record_seen s p w h l)
      ∙ (λ j q. twice q j)
    where
      twice : (q : ℕ) → updated (updated (seen_at r s) p (with_record (seen_at r s p) w)) p (record { own = (updated (seen_at r s) p (with_record (seen_at r s p) w) p).own; disk = updated (updated (seen_at r s) p (with_record (seen_at r s p) w) p).disk d (own_block w) }) q ≡ updated (seen_at r s) p (with_block (seen_at r s p) d w) q
      twice q =
          updated_twice (seen_at r s) p (with_record (seen_at r s p) w) _ q
          ∙ ap (λ (n : Node). updated (seen_at r s) p (record { own = n.own; disk = updated n.disk d (own_block w) }) q) (updated_at (seen_at r s) p (with_record (seen_at r s p) w))

  -- every slot of the room that is stored
  pub stored_seen
      : (w : View) (v : Server) (b : Answer) → InView r.sizes w → Plain w (Ok (v, b)) → (t : ℕ) → t < r.sizes.slots
      → seen_at (stored_in r w v) t ≡ cond (concerns_at t w) (slot_after (seen_at r t) w v) (seen_at r t)
  stored_seen (AtSlot p s (Brings c)) v b a e t h = changed s _ a.slot p (Brings c) v (record_seen s p v a.slot a.server) t
  stored_seen (AtSlot p s (Stores d)) v b a e t h = changed s _ a.slot p (Stores d) v (block_seen s d p v a.slot a.drive a.server) t
  stored_seen (AtSlot p s Alone) v b a e t h = changed s _ a.slot p Alone v (record_seen s p v a.slot a.server) t
  stored_seen (AtServer p) v b a e t h =
      let both : (v, b) ≡ (failed, Done) = cc in
      let is : failed ≡ v = sym (ap (λ (y : Server × Answer). y.0) both) in
      ap seen_of (failure_slot r i p t)
      ∙ record_seen t p failed h a
      ∙ ap (λ (x : Server). updated (seen_at r t) p (with_record (seen_at r t p) x)) is
  stored_seen (AtDrive d on) v b a e t h = refl

  -- and its shape
  pub stored_shape : (w : View) (v : Server) → InView r.sizes w → Shape (stored_in r w v)
  stored_shape (AtSlot p s (Brings c)) v a = slot_shape r i s _ a.slot (record_shape r.sizes (slot r s) (i.slots s a.slot) p v)
  stored_shape (AtSlot p s (Stores d)) v a =
      slot_shape r i s _ a.slot
      (block_shape r.sizes _ (record_shape r.sizes (slot r s) (i.slots s a.slot) p v) d p (own_block v) a.drive)
  stored_shape (AtSlot p s Alone) v a = slot_shape r i s _ a.slot (record_shape r.sizes (slot r s) (i.slots s a.slot) p v)
  stored_shape (AtServer p) v a = failure_shape r i p
  stored_shape (AtDrive d on) v a = off_shape r i _

  module _ (value : ℕ → Bool) (nought : value 0 ≡ true) (k : RoomIn value r) where
    -- the slot with the record v of server p
    record_kept : (s p : ℕ) (v : Server) → s < r.sizes.slots → p < r.sizes.servers → ServerIn value (masks_of r.sizes) v → SlotIn value r.sizes (record_on (slot r s) p v)
    record_kept s p v h l = record_held r.sizes (slot r s) (i.slots s h) value (k.slots s h) p v l

    -- what is stored is in range where the record is
    pub stored_held : (w : View) (v : Server) → InView r.sizes w → ServerIn value (masks_of r.sizes) v → RoomIn value (stored_in r w v)
    stored_held (AtSlot p s (Brings c)) v a e = slot_held r i value k s _ a.slot (record_kept s p v a.slot a.server e)
    stored_held (AtSlot p s (Stores d)) v a e =
        slot_held r i value k s _ a.slot
        (block_held r.sizes _ (record_shape r.sizes (slot r s) (i.slots s a.slot) p v) value (record_kept s p v a.slot a.server e) d p (own_block v)
        a.drive a.server (own_in value nought r.sizes v e))
    stored_held (AtSlot p s Alone) v a e = slot_held r i value k s _ a.slot (record_kept s p v a.slot a.server e)
    stored_held (AtServer p) v a e = failure_held r i value k p a (failed_in value nought r.sizes)
    stored_held (AtDrive d true) v a e = off_held r i value k (unmarked r.off d) (within_unmarked r.off (legal_drives r.sizes) d k.off)
    stored_held (AtDrive d false) v a e =
        off_held r i value k (marked r.off d) (within_marked r.off (legal_drives r.sizes) d k.off (drive_legal r.sizes i.fit d a))

    record_at : (s p : ℕ) → s < r.sizes.slots → p < r.sizes.servers → ServerIn value (masks_of r.sizes) (seen_at r s p).own
    record_at s p h l = (k.slots s h).records p l

    -- and each kind's rule keeps its record in range
    pub rule_held : (st : Step) → places_fit r.sizes st ≡ true → value (brought (view_of st)) ≡ true
        → Keeps value r.sizes (ruled (config_of r.sizes) r.off (seen_at r (view_slot (view_of st))) st)
    unfolding rule_of
    rule_held (Offer p s c) e f =
        let a = placed r.sizes (Offer p s c) e in
        offer_keeps value nought r.sizes i.fit _ (record_at s p a.slot a.server) c f
    rule_held (Recall p s d) e f =
        let a = placed r.sizes (Recall p s d) e in
        recall_keeps value nought r.sizes i.fit _ (record_at s p a.slot a.server) r.off _ p d
        ((k.slots s a.slot).blocks d p a.drive a.server) a.drive a.server
    rule_held (Rejoin p s b) e f =
        let a = placed r.sizes (Rejoin p s b) e in
        rejoin_keeps value nought r.sizes i.fit _ (record_at s p a.slot a.server) r.sizes.servers r.sizes.drives p b
    rule_held (Bid p s b) e f =
        let a = placed r.sizes (Bid p s b) e in
        bid_keeps value nought r.sizes i.fit _ (record_at s p a.slot a.server) r.sizes.servers p b
    rule_held (Write p s d) e f =
        let a = placed r.sizes (Write p s d) e in
        write_keeps value nought r.sizes i.fit _ (record_at s p a.slot a.server) r.off d a.drive
    rule_held (Read p s d q) e f =
        let a = placed r.sizes (Read p s d q) e in
        read_keeps value nought r.sizes i.fit _ (record_at s p a.slot a.server) r.sizes.servers r.off _ p d q
        ((k.slots s a.slot).blocks d q a.drive a.other) a.drive a.other
    rule_held (Finish p s) e f =
        let a = placed r.sizes (Finish p s) e in
        finish_keeps value nought r.sizes i.fit _ (record_at s p a.slot a.server) r.sizes.servers r.sizes.drives p
    rule_held (Fail p) e f = failed_in value nought r.sizes
    rule_held (DriveOff d) e f = failed_in value nought r.sizes
    rule_held (DriveOn d) e f = failed_in value nought r.sizes
