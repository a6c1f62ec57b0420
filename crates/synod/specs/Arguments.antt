-- What a step needs of its numbers (SPEC, "Who can bring which number"): its places are in the room, or it is refused with
-- 4; what it brings is a command, or it is refused with 5.
use Rattle.std.specs.Prelude.{ℕ, Bool, true, not, ◌&&◌, List, eqb, ltb}
use Rattle.command.specs.Command.{is_command}
use Rattle.state.specs.declared.Sizes.{Sizes}
use Rattle.state.specs.Sizes.{in_room, drive_fits}
use Rattle.state.specs.declared.Step.{Step}
use Rattle.state.specs.declared.Step.TheVariants.{Offer, Recall, Rejoin, Bid, Write, Read, Finish, Fail, DriveOff, DriveOn}
use Rattle.state.specs.View.{Brings, Stores, Alone, View, AtSlot, AtServer, AtDrive, view_of}

-- every place that the step names is in the room
unfoldable pub places_fit : Sizes → Step → Bool
places_fit z (Offer p s v) = in_room z p s
places_fit z (Recall p s d) = in_room z p s && drive_fits z d
places_fit z (Rejoin p s b) = in_room z p s
places_fit z (Bid p s b) = in_room z p s
places_fit z (Write p s d) = in_room z p s && drive_fits z d
places_fit z (Read p s d q) = in_room z p s && drive_fits z d && ltb q z.servers && not (eqb q p)
places_fit z (Finish p s) = in_room z p s
places_fit z (Fail p) = ltb p z.servers
places_fit z (DriveOff d) = drive_fits z d
places_fit z (DriveOn d) = drive_fits z d

-- the command that the step brings, if it brings one, is a command
abbrev pub deed_fits : List ℕ → View → Bool
deed_fits limits (AtSlot p s (Brings c)) = is_command limits c
deed_fits limits (AtSlot p s (Stores d)) = true
deed_fits limits (AtSlot p s Alone) = true
deed_fits limits (AtServer p) = true
deed_fits limits (AtDrive d on) = true

unfoldable pub command_fits : List ℕ → Step → Bool
command_fits limits st = deed_fits limits (view_of st)
