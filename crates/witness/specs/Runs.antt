-- Six runs of two servers: a command that survives its server, two rivals, a slot beyond an empty one, half of the drives,
-- lines that are asked for and filled, and a settled command that is learned. Three of one server: a strike, a struck
-- number that is used again in vain, and a command that only the room's own limits allow. All are in rooms with limits of
-- their own.
use Rattle.std.specs.Prelude.{ℕ, List, [], ◌∷◌, ◌++◌, set, replicate, Ok, Err}
use Rattle.checks.specs.declared.Refusal.TheVariants.{NoCommand, DriveIsOff, NoMajority, SlotNotFree, NoSlotFree}
use Rattle.state.specs.declared.Answer.TheVariants.{Done, Outbid, Chosen, Committed}
use Rattle.state.specs.declared.Step.TheVariants.{Offer, Recall, Rejoin, Write, Read, Finish, Fail, DriveOff, DriveOn}
use Rattle.catalogue.specs.Entry.{struck}
use Rattle.catalogue.specs.Fold.{pieces}
use Rattle.state.specs.Sizes.{sizes}
use Rattle.history.specs.Calls.{Event, Took, Asked, Put}
use Rattle.witness.specs.Example.{Example}

-- a museum's own limits, of cabinets 0 to 7
abbrev pub museum_limits : List ℕ
museum_limits = 12 ∷ 1 ∷ 255 ∷ 30 ∷ 120 ∷ 80 ∷ 60 ∷ 255 ∷ []

-- enter piece 5 in hoard 9; enter piece 7 in hoard 3; move piece 5 to hoard 12; strike piece 5
abbrev pub enter5 : ℕ
enter5 = 66825

abbrev pub enter7 : ℕ
enter7 = 67331

abbrev pub move5 : ℕ
move5 = 132364

abbrev pub strike5 : ℕ
strike5 = 197888

-- the cells of a catalogue with one piece
abbrev pub only : ℕ → ℕ → List ℕ
only piece cell = set (replicate pieces 0) piece cell

-- on drive 0 alone, in a room of one drive or two, server p goes from phase 0 to 3 in slot s, undisturbed by q, and commits v
abbrev pub settles : ℕ → ℕ → ℕ → ℕ → ℕ → List Event
settles p q s ballot v =
    Took (Recall p s 0) (Ok Done)
    ∷ Took (Rejoin p s ballot) (Ok Done)
    ∷ Took (Write p s 0) (Ok Done)
    ∷ Took (Read p s 0 q) (Ok Done)
    ∷ Took (Finish p s) (Ok (Chosen v))
    ∷ Took (Write p s 0) (Ok Done)
    ∷ Took (Read p s 0 q) (Ok Done)
    ∷ Took (Finish p s) (Ok (Committed v))
    ∷ []

-- Server 0 commits its offer and fails. Server 1, with another offer, commits the same command, and then its own in
-- slot 1. Server 0 comes back and commits, with no offer, the command that it had lost.
unfoldable pub survivor : Example
survivor =
    record {
      sizes = sizes 2 1 2;
      limits = museum_limits;
      run =
          (Took (Offer 0 0 enter5) (Ok Done) ∷ settles 0 1 0 1 enter5)
          ++ (Took (Fail 0) (Ok Done) ∷ Took (Offer 1 0 enter7) (Ok Done) ∷ settles 1 0 0 2 enter5)
          ++ (Took (Offer 1 1 move5) (Ok Done) ∷ settles 1 0 1 2 move5)
          ++ settles 0 1 0 3 enter5;
      chosen = enter5 ∷ enter5 ∷ move5 ∷ enter5 ∷ [];
      committed = enter5 ∷ enter5 ∷ move5 ∷ enter5 ∷ [];
      commands = enter5 ∷ move5 ∷ [];
      taken = 1 ∷ 2 ∷ [];
      skipped = 0 ∷ 0 ∷ [];
      left = only 5 9 ∷ only 5 12 ∷ [];
    }

-- in a room of two drives and one slot server p joins with an offer and a ballot
abbrev pub joins : ℕ → ℕ → ℕ → List Event
joins p v ballot = Took (Offer p 0 v) (Ok Done) ∷ Took (Recall p 0 0) (Ok Done) ∷ Took (Recall p 0 1) (Ok Done) ∷ Took (Rejoin p 0 ballot) (Ok Done) ∷ []

-- it writes both drives and reads q's block on both
abbrev pub round : ℕ → ℕ → List Event
round p q = Took (Write p 0 0) (Ok Done) ∷ Took (Write p 0 1) (Ok Done) ∷ Took (Read p 0 0 q) (Ok Done) ∷ Took (Read p 0 1 q) (Ok Done) ∷ []

-- Server 0 chooses its offer and has not written it when server 1, with a larger ballot, chooses another command and
-- commits it. Server 0 then writes its own, is outbid, finds the other and commits that.
unfoldable pub rivals : Example
rivals =
    record {
      sizes = sizes 2 2 1;
      limits = museum_limits;
      run =
          (joins 0 enter5 1 ++ round 0 1 ++ (Took (Finish 0 0) (Ok (Chosen enter5)) ∷ []))
          ++ (joins 1 enter7 2 ++ round 1 0 ++ (Took (Finish 1 0) (Ok (Chosen enter7)) ∷ []))
          ++ (round 1 0 ++ (Took (Finish 1 0) (Ok (Committed enter7)) ∷ []))
          ++ (Took (Write 0 0 0) (Ok Done) ∷ Took (Write 0 0 1) (Ok Done) ∷ Took (Read 0 0 0 1) (Ok (Outbid 2)) ∷ [])
          ++ (round 0 1 ++ (Took (Finish 0 0) (Ok (Chosen enter7)) ∷ []))
          ++ (round 0 1 ++ (Took (Finish 0 0) (Ok (Committed enter7)) ∷ []));
      chosen = enter5 ∷ enter7 ∷ enter7 ∷ [];
      committed = enter7 ∷ enter7 ∷ [];
      commands = enter7 ∷ [];
      taken = 1 ∷ 1 ∷ [];
      skipped = 0 ∷ 0 ∷ [];
      left = only 7 3 ∷ only 7 3 ∷ [];
    }

-- Server 0 commits in slot 1 and nothing is settled in slot 0: the run has no commands, and no catalogue takes any.
unfoldable pub gap : Example
gap =
    record {
      sizes = sizes 2 1 2;
      limits = museum_limits;
      run = Took (Offer 0 1 enter5) (Ok Done) ∷ settles 0 1 1 1 enter5;
      chosen = enter5 ∷ [];
      committed = enter5 ∷ [];
      commands = [];
      taken = 0 ∷ 0 ∷ [];
      skipped = 0 ∷ 0 ∷ [];
      left = replicate pieces 0 ∷ replicate pieces 0 ∷ [];
    }

-- with drive 0 off, server p recalls drive 1 and cannot rejoin
abbrev pub shut_out : ℕ → ℕ → List Event
shut_out p ballot =
    Took (Fail p) (Ok Done) ∷ Took (Recall p 0 1) (Ok Done) ∷ Took (Rejoin p 0 ballot) (Err NoMajority) ∷ Took (Recall p 0 0) (Err DriveIsOff) ∷ []

-- Drive 1 of two is off from the start, and server 0 settles its offer on drive 0 alone. Server 1 begins with another, drive
-- 1 comes on and drive 0 goes off: on drive 1 alone it cannot finish, nor can anyone begin. With drive 0 on again both commit
-- what was settled.
unfoldable pub halves : Example
halves =
    record {
      sizes = sizes 2 2 1;
      limits = museum_limits;
      run =
          (Took (DriveOff 1) (Ok Done) ∷ Took (Offer 0 0 enter5) (Ok Done) ∷ settles 0 1 0 1 enter5)
          ++ (Took (Offer 1 0 enter7) (Ok Done) ∷ Took (Recall 1 0 0) (Ok Done) ∷ Took (Rejoin 1 0 2) (Ok Done) ∷ [])
          ++ (Took (DriveOn 1) (Ok Done) ∷ Took (DriveOff 0) (Ok Done) ∷ [])
          ++ (Took (Write 1 0 1) (Ok Done) ∷ Took (Read 1 0 1 0) (Ok Done) ∷ Took (Finish 1 0) (Err NoMajority) ∷ [])
          ++ (shut_out 1 4 ++ shut_out 0 3)
          ++ (Took (DriveOn 0) (Ok Done) ∷ Took (Offer 1 0 enter7) (Ok Done) ∷ settles 1 0 0 4 enter5)
          ++ settles 0 1 0 5 enter5;
      chosen = enter5 ∷ enter5 ∷ enter5 ∷ [];
      committed = enter5 ∷ enter5 ∷ enter5 ∷ [];
      commands = enter5 ∷ [];
      taken = 1 ∷ 1 ∷ [];
      skipped = 0 ∷ 0 ∷ [];
      left = only 5 9 ∷ only 5 9 ∷ [];
    }

-- Both servers ask, are named slot 0 and put a command there; a second Put is refused. Server 0 settles its own, and server
-- 1 commits that. Each slot that a server knows to be settled is no longer free for it, with an offer of its own or without
-- one; after its failure it is.
unfoldable pub asks : Example
asks =
    record {
      sizes = sizes 2 1 2;
      limits = museum_limits;
      run =
          (Asked 0 (Ok 0) ∷ Put 0 0 enter5 (Ok Done) ∷ Put 0 0 enter7 (Err SlotNotFree) ∷ Asked 0 (Ok 1) ∷ [])
          ++ (Asked 1 (Ok 0) ∷ Put 1 0 enter7 (Ok Done) ∷ [])
          ++ (settles 0 1 0 1 enter5 ++ settles 1 0 0 2 enter5)
          ++ (Asked 1 (Ok 1) ∷ Put 1 1 move5 (Ok Done) ∷ settles 1 0 1 2 move5)
          ++ settles 0 1 1 3 move5
          ++ (Asked 0 (Err NoSlotFree) ∷ Put 0 1 enter7 (Err SlotNotFree) ∷ [])
          ++ (Took (Fail 1) (Ok Done) ∷ Asked 1 (Ok 0) ∷ []);
      chosen = enter5 ∷ enter5 ∷ move5 ∷ move5 ∷ [];
      committed = enter5 ∷ enter5 ∷ move5 ∷ move5 ∷ [];
      commands = enter5 ∷ move5 ∷ [];
      taken = 2 ∷ 0 ∷ [];
      skipped = 0 ∷ 0 ∷ [];
      left = only 5 12 ∷ replicate pieces 0 ∷ [];
    }

-- in slot 0 server p recalls drive 0, joins, writes drive d, and learns v from q's block there
abbrev pub learns : ℕ → ℕ → ℕ → ℕ → ℕ → List Event
learns p q d ballot v =
    Took (Recall p 0 0) (Ok Done) ∷ Took (Rejoin p 0 ballot) (Ok Done) ∷ Took (Write p 0 d) (Ok Done) ∷ Took (Read p 0 d q) (Ok (Committed v)) ∷ []

-- Server 0 settles its offer on drive 0 and writes both drives once more. Server 1, with another offer, joins late and learns
-- from drive 1, without a Finish. It writes drive 0; server 0 fails, joins again and learns from that.
unfoldable pub learners : Example
learners =
    record {
      sizes = sizes 2 2 1;
      limits = museum_limits;
      run =
          (Took (Offer 0 0 enter5) (Ok Done) ∷ settles 0 1 0 1 enter5)
          ++ (Took (Write 0 0 0) (Ok Done) ∷ Took (Write 0 0 1) (Ok Done) ∷ [])
          ++ (Took (Offer 1 0 enter7) (Ok Done) ∷ learns 1 0 1 2 enter5)
          ++ (Took (Write 1 0 0) (Ok Done) ∷ Took (Fail 0) (Ok Done) ∷ learns 0 1 0 3 enter5);
      chosen = enter5 ∷ [];
      committed = enter5 ∷ enter5 ∷ enter5 ∷ [];
      commands = enter5 ∷ [];
      taken = 1 ∷ 1 ∷ [];
      skipped = 0 ∷ 0 ∷ [];
      left = only 5 9 ∷ only 5 9 ∷ [];
    }

-- in a room of one server and one drive the server offers v in slot s and commits it
abbrev pub alone : ℕ → ℕ → List Event
alone s v =
    Took (Offer 0 s v) (Ok Done)
    ∷ Took (Recall 0 s 0) (Ok Done)
    ∷ Took (Rejoin 0 s 1) (Ok Done)
    ∷ Took (Write 0 s 0) (Ok Done)
    ∷ Took (Finish 0 s) (Ok (Chosen v))
    ∷ Took (Write 0 s 0) (Ok Done)
    ∷ Took (Finish 0 s) (Ok (Committed v))
    ∷ []

-- A piece is entered and struck.
unfoldable pub strikes : Example
strikes =
    record {
      sizes = sizes 1 1 2;
      limits = museum_limits;
      run = alone 0 enter5 ++ alone 1 strike5;
      chosen = enter5 ∷ strike5 ∷ [];
      committed = enter5 ∷ strike5 ∷ [];
      commands = enter5 ∷ strike5 ∷ [];
      taken = 2 ∷ [];
      skipped = 0 ∷ [];
      left = only 5 struck ∷ [];
    }

-- Then its number is entered, moved and struck once more: the three are skipped, and it stays struck.
unfoldable pub reuses : Example
reuses =
    record {
      sizes = sizes 1 1 5;
      limits = museum_limits;
      run = alone 0 enter5 ++ alone 1 strike5 ++ alone 2 enter5 ++ alone 3 move5 ++ alone 4 strike5;
      chosen = enter5 ∷ strike5 ∷ enter5 ∷ move5 ∷ strike5 ∷ [];
      committed = enter5 ∷ strike5 ∷ enter5 ∷ move5 ∷ strike5 ∷ [];
      commands = enter5 ∷ strike5 ∷ enter5 ∷ move5 ∷ strike5 ∷ [];
      taken = 5 ∷ [];
      skipped = 3 ∷ [];
      left = only 5 struck ∷ [];
    }

-- by the museum's limits piece 5 in hoard 13 is no command and piece 63 in hoard 255 is one; by 01's it is the other way
abbrev pub enter5_high : ℕ
enter5_high = 66829

abbrev pub enter63 : ℕ
enter63 = 81919

-- The first is refused, and the second is settled.
unfoldable pub own_limits : Example
own_limits =
    record {
      sizes = sizes 1 1 1;
      limits = museum_limits;
      run = Took (Offer 0 0 enter5_high) (Err NoCommand) ∷ alone 0 enter63;
      chosen = enter63 ∷ [];
      committed = enter63 ∷ [];
      commands = enter63 ∷ [];
      taken = 1 ∷ [];
      skipped = 0 ∷ [];
      left = only 63 255 ∷ [];
    }
