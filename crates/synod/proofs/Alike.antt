-- Two slots that are alike at every server and drive of the room: the rules say the same of both, and they stay alike.
-- So a slot read off the cells, where places beyond the room mean nothing, can follow one that is carried along.
use Prim.Native.Nat.{ℕ, ◌<◌}
use mathlib.Core.Bool.{true}
use mathlib.Core.Path.{◌≡◌, refl, ◌∙◌, ap, ap₂}
use Rattle.state.specs.declared.Server.{Server}
use Rattle.state.specs.declared.Sizes.{Sizes}
use Rattle.state.specs.declared.Step.{Step}
use Rattle.state.specs.declared.Step.TheVariants.{Offer, Recall, Rejoin, Bid, Write, Read, Finish, Fail, DriveOff, DriveOn}
use Rattle.state.specs.Server.{own_block}
use Rattle.state.specs.View.{Brings, Stores, Alone, View, AtSlot, AtServer, AtDrive, view_of}
use Rattle.std.specs.Prelude.{Ok, Err}
use Rattle.synod.specs.Arguments.{places_fit}
use Rattle.synod.proofs.Machine.{with_record, with_block, slot_after, ruled, after}
use Rattle.synod.specs.Rules.{Ruling, ruling, offer_rule, recall_rule, rejoin_rule, bid_rule, write_rule, read_rule, finish_rule, rule_of}
use Rattle.synod.specs.Slot.{Node, Slot, Config, config_of, updated}
use Rattle.synod.proofs.Places.{at_server, at_drive, at_other}
use Rattle.synod.proofs.Update.{both_everywhere}

-- one server's node, seen from both
pub record Same (c : Config) (n m : Node) : Type 0 where
  pub own : n.own ≡ m.own
  pub disk : (d : ℕ) → d < c.drives → n.disk d ≡ m.disk d

abbrev pub Alike : Config → Slot → Slot → Type 0
Alike c σ τ = (p : ℕ) → p < c.servers → Same c (σ p) (τ p)

pub alike_same : (c : Config) (σ : Slot) → Alike c σ σ
alike_same c σ p l = record { own = refl; disk = λ d k. refl }

pub alike_then : {c : Config} {σ τ υ : Slot} → Alike c σ τ → Alike c τ υ → Alike c σ υ
alike_then a b p l = record { own = (a p l).own ∙ (b p l).own; disk = λ d k. (a p l).disk d k ∙ (b p l).disk d k }

module _ {c : Config} {σ τ : Slot} (like : Alike c σ τ) where
  updated_alike : (p : ℕ) (n m : Node) → (p < c.servers → Same c n m) → Alike c (updated σ p n) (updated τ p m)
  updated_alike p n m h =
      both_everywhere (λ q x y. q < c.servers → Same c x y) σ τ p n m h (λ q ne. like q)

  record_alike : (p : ℕ) (v : Server) → Alike c (updated σ p (with_record (σ p) v)) (updated τ p (with_record (τ p) v))
  record_alike p v =
      updated_alike p (with_record (σ p) v) (with_record (τ p) v) (λ lp. record { own = refl; disk = (like p lp).disk })

  block_alike : (p d : ℕ) (v : Server) → Alike c (updated σ p (with_block (σ p) d v)) (updated τ p (with_block (τ p) d v))
  block_alike p d v =
      updated_alike p (with_block (σ p) d v) (with_block (τ p) d v)
      (λ lp.
      record {
        own = refl;
        disk =
            both_everywhere (λ e x y. e < c.drives → x ≡ y) (σ p).disk (τ p).disk d (own_block v) (own_block v)
            (λ le. refl)
            (λ e ne. (like p lp).disk e);
      })

  view_alike : (w : View) (v : Server) → Alike c (slot_after σ w v) (slot_after τ w v)
  view_alike (AtSlot p s (Brings n)) v = record_alike p v
  view_alike (AtSlot p s (Stores d)) v = block_alike p d v
  view_alike (AtSlot p s Alone) v = record_alike p v
  view_alike (AtServer p) v = record_alike p v
  view_alike (AtDrive d on) v = like

  pub after_alike : (st : Step) (r : Ruling) → Alike c (after σ st r) (after τ st r)
  unfolding after
  after_alike st (Err n) = like
  after_alike st (Ok (v, a)) = view_alike (view_of st) v

module _ (z : Sizes) (off : ℕ) {σ τ : Slot} (like : Alike (config_of z) σ τ) where
  own : (p : ℕ) → p < z.servers → (σ p).own ≡ (τ p).own
  own p lp = (like p lp).own

  pub ruled_alike : (st : Step) → places_fit z st ≡ true → ruled (config_of z) off σ st ≡ ruled (config_of z) off τ st
  unfolding places_fit rule_of
  ruled_alike (Offer p s v) h = ap (λ x. ruling (offer_rule x v)) (own p (at_server z p s h).server)
  ruled_alike (Recall p s d) h =
      let at = at_drive z p s d h in
      ap₂ (λ x b. ruling (recall_rule off x b p d)) (own p at.server) ((like p at.server).disk d at.drive)
  ruled_alike (Rejoin p s b) h = ap (λ x. ruling (rejoin_rule z.servers z.drives x p b)) (own p (at_server z p s h).server)
  ruled_alike (Bid p s b) h = ap (λ x. ruling (bid_rule z.servers x p b)) (own p (at_server z p s h).server)
  ruled_alike (Write p s d) h = ap (λ x. ruling (write_rule off x d)) (own p (at_drive z p s d h).server)
  ruled_alike (Read p s d q) h =
      let at = at_other z p s d q h in
      ap₂ (λ x b. ruling (read_rule z.servers off x b p d q)) (own p at.server) ((like q at.other).disk d at.drive)
  ruled_alike (Finish p s) h = ap (λ x. ruling (finish_rule z.servers z.drives x p)) (own p (at_server z p s h).server)
  ruled_alike (Fail p) h = refl
  ruled_alike (DriveOff d) h = refl
  ruled_alike (DriveOn d) h = refl
