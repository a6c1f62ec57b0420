-- A step whose places fit names servers, slots and drives of the room: what refusal 4 leaves.
use Prim.Native.Nat.{ℕ, ◌<◌}
use mathlib.Core.Path.{◌≡◌}
use mathlib.Core.Bool.{true, not, ◌&&◌}
use lib.Dec.{eqb, ltb}
use borrow.Author.Tests.{ltb-true, eqb-false, not-true}
use Rattle.lemmas.proofs.Tests.{and_left, and_right}
use Rattle.state.specs.declared.Sizes.{Sizes}
use Rattle.state.specs.declared.Step.{Step}
use Rattle.state.specs.declared.Step.TheVariants.{Offer, Recall, Rejoin, Bid, Write, Read, Finish, Fail, DriveOff, DriveOn}
use Rattle.state.specs.View as view
use Rattle.state.specs.View.{View, view_of}
use Rattle.state.specs.Sizes.{in_room, drive_fits}
use Rattle.synod.specs.Arguments.{places_fit}

pub record AtServer (z : Sizes) (s p : ℕ) : Type 0 where
  pub slot : s < z.slots
  pub server : p < z.servers

pub record AtDrive (z : Sizes) (s p d : ℕ) : Type 0 where
  pub slot : s < z.slots
  pub server : p < z.servers
  pub drive : d < z.drives

pub record AtOther (z : Sizes) (s p d q : ℕ) : Type 0 where
  pub slot : s < z.slots
  pub server : p < z.servers
  pub drive : d < z.drives
  pub other : q < z.servers
  pub apart : q ≡ p → ⊥

abbrev pub Placed : Sizes → Step → Type 0
Placed z (Offer p s v) = AtServer z s p
Placed z (Recall p s d) = AtDrive z s p d
Placed z (Rejoin p s b) = AtServer z s p
Placed z (Bid p s b) = AtServer z s p
Placed z (Write p s d) = AtDrive z s p d
Placed z (Read p s d q) = AtOther z s p d q
Placed z (Finish p s) = AtServer z s p
Placed z (Fail p) = p < z.servers
Placed z (DriveOff d) = d < z.drives
Placed z (DriveOn d) = d < z.drives

pub at_server : (z : Sizes) (p s : ℕ) → in_room z p s ≡ true → AtServer z s p
at_server z p s e =
    record {
      slot = ltb-true s z.slots (and_right (ltb p z.servers) (ltb s z.slots) e);
      server = ltb-true p z.servers (and_left (ltb p z.servers) (ltb s z.slots) e);
    }

pub at_drive : (z : Sizes) (p s d : ℕ) → (in_room z p s && drive_fits z d) ≡ true → AtDrive z s p d
at_drive z p s d e =
    let a = at_server z p s (and_left (in_room z p s) (drive_fits z d) e) in
    record {
      slot = a.slot;
      server = a.server;
      drive = ltb-true d z.drives (and_right (in_room z p s) (drive_fits z d) e);
    }

pub at_other
    : (z : Sizes) (p s d q : ℕ) → (in_room z p s && drive_fits z d && ltb q z.servers && not (eqb q p)) ≡ true
    → AtOther z s p d q
at_other z p s d q e =
    let two = in_room z p s && drive_fits z d in
    let three = and_left (two && ltb q z.servers) (not (eqb q p)) e in
    let a = at_drive z p s d (and_left two (ltb q z.servers) three) in
    record {
      slot = a.slot;
      server = a.server;
      drive = a.drive;
      other = ltb-true q z.servers (and_right two (ltb q z.servers) three);
      apart = eqb-false q p (not-true (eqb q p) (and_right (two && ltb q z.servers) (not (eqb q p)) e));
    }

pub placed : (z : Sizes) (st : Step) → places_fit z st ≡ true → Placed z st
unfolding places_fit
placed z (Offer p s v) e = at_server z p s e
placed z (Recall p s d) e = at_drive z p s d e
placed z (Rejoin p s b) e = at_server z p s e
placed z (Bid p s b) e = at_server z p s e
placed z (Write p s d) e = at_drive z p s d e
placed z (Read p s d q) e = at_other z p s d q e
placed z (Finish p s) e = at_server z p s e
placed z (Fail p) e = ltb-true p z.servers e
placed z (DriveOff d) e = ltb-true d z.drives e
placed z (DriveOn d) e = ltb-true d z.drives e

-- the same of the view alone
abbrev pub InView : Sizes → View → Type 0
InView z (view.AtSlot p s (view.Brings c)) = AtServer z s p
InView z (view.AtSlot p s (view.Stores d)) = AtDrive z s p d
InView z (view.AtSlot p s view.Alone) = AtServer z s p
InView z (view.AtServer p) = p < z.servers
InView z (view.AtDrive d on) = d < z.drives

without_drive : {z : Sizes} {s p d : ℕ} → AtDrive z s p d → AtServer z s p
without_drive a = record { slot = a.slot; server = a.server }

pub in_view : (z : Sizes) (st : Step) → places_fit z st ≡ true → InView z (view_of st)
unfolding places_fit
in_view z (Offer p s v) e = at_server z p s e
in_view z (Recall p s d) e = without_drive (at_drive z p s d e)
in_view z (Rejoin p s b) e = at_server z p s e
in_view z (Bid p s b) e = at_server z p s e
in_view z (Write p s d) e = at_drive z p s d e
in_view z (Read p s d q) e =
    let a = at_other z p s d q e in
    record { slot = a.slot; server = a.server }
in_view z (Finish p s) e = at_server z p s e
in_view z (Fail p) e = ltb-true p z.servers e
in_view z (DriveOff d) e = ltb-true d z.drives e
in_view z (DriveOn d) e = ltb-true d z.drives e
