-- Where a step acts, and what it does there besides changing its server's record: all that most definitions ask of a
-- step's kind.
use Rattle.std.specs.Prelude.{ℕ, Bool, true, false}
use Rattle.state.specs.declared.Step.{Step}
use Rattle.state.specs.declared.Step.TheVariants.{Offer, Recall, Rejoin, Bid, Write, Read, Finish, Fail, DriveOff, DriveOn}

-- Offer brings a command; Write stores the own block on a drive; the others change the record alone
pub data Deed : Type 0 where
  Brings : ℕ → Deed
  Stores : ℕ → Deed
  Alone : Deed

-- at server p in slot s; at server p in every slot; at drive d, which goes on or off
pub data View : Type 0 where
  AtSlot : ℕ → ℕ → Deed → View
  AtServer : ℕ → View
  AtDrive : ℕ → Bool → View

abbrev pub view_of : Step → View
view_of (Offer p s c) = AtSlot p s (Brings c)
view_of (Recall p s d) = AtSlot p s Alone
view_of (Rejoin p s b) = AtSlot p s Alone
view_of (Bid p s b) = AtSlot p s Alone
view_of (Write p s d) = AtSlot p s (Stores d)
view_of (Read p s d q) = AtSlot p s Alone
view_of (Finish p s) = AtSlot p s Alone
view_of (Fail p) = AtServer p
view_of (DriveOff d) = AtDrive d false
view_of (DriveOn d) = AtDrive d true

-- the slot that it names; 0 where there is none
abbrev pub view_slot : View → ℕ
view_slot (AtSlot p s k) = s
view_slot (AtServer p) = 0
view_slot (AtDrive d on) = 0
