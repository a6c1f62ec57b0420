-- The ten steps on a room (SPEC, "The ten steps", "A room is a value"): the checks in the order of their numbers, and then what
-- becomes of the room and what is answered. This is Next of appendix A.2 of Disk Paxos.
use Rattle.checks.specs.declared.Refusal.TheVariants.{BeyondRoom, NoCommand}
use Rattle.checks.specs.Checks.{Checked, Must, Either, Gives, ◌>>◌}
use Rattle.quorum.specs.Marks.{marked, unmarked}
use Rattle.state.specs.declared.Answer.{Answer}
use Rattle.state.specs.declared.Answer.TheVariants.{Done}
use Rattle.state.specs.declared.Server.{Server}
use Rattle.state.specs.declared.Step.{Step}
use Rattle.state.specs.declared.Step.TheVariants.{Offer, Recall, Rejoin, Bid, Write, Read, Finish, Fail, DriveOff, DriveOn}
use Rattle.synod.specs.Arguments.{places_fit, command_fits}
use Rattle.synod.specs.Rules.{Rule, offer_rule, recall_rule, rejoin_rule, bid_rule, write_rule, read_rule, finish_rule}
use Rattle.model.specs.Room.{Room, own, disk, with_server, with_write, with_failure, with_off}

-- the room as it becomes, with the answer, or a refusal
abbrev pub RoomRule : Type 0
RoomRule = Checked (Room × Answer)

-- a rule, whose record goes into the room by f
abbrev pub makes : (Server → Room) → Rule → RoomRule
makes f (Must b refusal rest) = Must b refusal (makes f rest)
makes f (Either b x y) = Either b (makes f x) (makes f y)
makes f (Gives x) = Gives (f x.0, x.1)

-- what a step does, whose places are in the room and whose command is one
unfoldable pub acts : Room → Step → RoomRule
acts r (Offer p s v) = makes (with_server r s p) (offer_rule (own r s p) v)
acts r (Recall p s d) = makes (with_server r s p) (recall_rule r.off (own r s p) (disk r s d p) p d)
acts r (Rejoin p s b) = makes (with_server r s p) (rejoin_rule r.sizes.servers r.sizes.drives (own r s p) p b)
acts r (Bid p s b) = makes (with_server r s p) (bid_rule r.sizes.servers (own r s p) p b)
acts r (Write p s d) = makes (with_write r s p d) (write_rule r.off (own r s p) d)
acts r (Read p s d q) = makes (with_server r s p) (read_rule r.sizes.servers r.off (own r s p) (disk r s d q) p d q)
acts r (Finish p s) = makes (with_server r s p) (finish_rule r.sizes.servers r.sizes.drives (own r s p) p)
acts r (Fail p) = Gives (with_failure r p, Done)
acts r (DriveOff d) = Gives (with_off r (marked r.off d), Done)
acts r (DriveOn d) = Gives (with_off r (unmarked r.off d), Done)

-- a step: its places 4, its command 5, then the checks of its kind
unfoldable pub next : Room → Step → RoomRule
next r st = do
  Must (places_fit r.sizes st) BeyondRoom
  Must (command_fits r.limits st) NoCommand
  acts r st
