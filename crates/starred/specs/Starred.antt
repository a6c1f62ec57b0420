-- The values that are to be proved (SPEC, "Edge values") as one table.
use Rattle.std.specs.Prelude.{ℕ, List, [], ◌∷◌, ◌++◌, Ok, Err}
use Rattle.checks.specs.declared.Refusal.TheVariants.{NotOwnBallot}
use Rattle.command.specs.Command.{enter, strike}
use Rattle.state.specs.declared.Answer.TheVariants.{Done, Outbid, Chosen}
use Rattle.state.specs.declared.Step.TheVariants.{Offer, Recall, Rejoin, Bid, Write, Read, Finish, Fail}
use Rattle.state.specs.Block.{block}
use Rattle.starred.specs.Runs.{Line, ◌↝◌, Own, OnDrive}
use Rattle.starred.specs.Cases.{Case, Length, Unopened, Command, NoCommand, Owned, Majority, Run, at_least, one_of}

-- 1,000,001 is no ballot, in a run where every other check passes. By its remainder it would be server 0's.
abbrev pub past_the_limit : List Line
past_the_limit =
    Recall 0 0 0 ↝ Ok Done
    ∷ Rejoin 0 0 1000001 ↝ Err NotOwnBallot
    ∷ Rejoin 0 0 1000000 ↝ Err NotOwnBallot
    ∷ Rejoin 0 0 1 ↝ Ok Done
    ∷ Bid 0 0 1000001 ↝ Err NotOwnBallot
    ∷ Own 0 (block 1 0 0)
    ∷ Recall 1 0 0 ↝ Ok Done
    ∷ Rejoin 1 0 1000001 ↝ Err NotOwnBallot
    ∷ Rejoin 1 0 1000000 ↝ Ok Done
    ∷ Bid 1 0 1000001 ↝ Err NotOwnBallot
    ∷ Own 1 (block 1000000 0 0)
    ∷ []

-- server 2 at 7 and server 1 at 2, both written on drive 0
abbrev pub met : List Line
met =
    Recall 2 0 0 ↝ Ok Done
    ∷ Rejoin 2 0 7 ↝ Ok Done
    ∷ Write 2 0 0 ↝ Ok Done
    ∷ Recall 1 0 0 ↝ Ok Done
    ∷ Rejoin 1 0 2 ↝ Ok Done
    ∷ Write 1 0 0 ↝ Ok Done
    ∷ OnDrive 0 2 (block 7 0 0)
    ∷ Own 1 (block 2 0 0)
    ∷ []

-- server 1 at 2 finds 7 and is outbid: now it is at 10
abbrev pub outbid : List Line
outbid = met ++ (Read 1 0 0 2 ↝ Ok (Outbid 7) ∷ Own 1 (block 10 0 0) ∷ [])

-- server 0 proposes 66,825 with ballot 1, writes it on drive 0 alone, and fails
abbrev pub proposed : List Line
proposed =
    Offer 0 0 66825 ↝ Ok Done
    ∷ Recall 0 0 0 ↝ Ok Done
    ∷ Recall 0 0 1 ↝ Ok Done
    ∷ Rejoin 0 0 1 ↝ Ok Done
    ∷ Write 0 0 0 ↝ Ok Done
    ∷ Write 0 0 1 ↝ Ok Done
    ∷ Read 0 0 0 1 ↝ Ok Done
    ∷ Read 0 0 1 1 ↝ Ok Done
    ∷ Finish 0 0 ↝ Ok (Chosen 66825)
    ∷ Write 0 0 0 ↝ Ok Done
    ∷ Fail 0 ↝ Ok Done
    ∷ OnDrive 0 0 (block 1 1 66825)
    ∷ OnDrive 1 0 (block 1 0 0)
    ∷ []

-- it recalls its blocks on the two drives in this order, and rejoins
abbrev pub recalled : ℕ → ℕ → List Line
recalled first second = Recall 0 0 first ↝ Ok Done ∷ Recall 0 0 second ↝ Ok Done ∷ Rejoin 0 0 3 ↝ Ok Done ∷ []

-- Rejoin 3 then makes the own block (3, 1, 66,825)
abbrev pub rejoined : ℕ → ℕ → List Line
rejoined first second = proposed ++ recalled first second ++ (Own 0 (block 3 1 66825) ∷ [])

-- two sets of two drives, as mark cells
abbrev pub drive0 : ℕ
drive0 = 1

abbrev pub both_drives : ℕ
both_drives = 3

-- in the order of the list that was given
unfoldable pub starred : List Case
starred =
    -- lengths of rooms; no room has no server
    Length 1 1 1 27
    ∷ Length 4 7 16 2508
    ∷ Unopened 0 1
    -- commands, and numbers that are none
    ∷ Command 81724 enter 63 60
    ∷ NoCommand 81725 5
    ∷ Command 196608 strike 0 0
    ∷ NoCommand 196609 5
    -- the last ballot, and one past it
    ∷ Owned 2 1000000 1
    ∷ Run 2 1 past_the_limit
    -- majorities: of two drives, drive 0 alone or both; of seven, any four or more
    ∷ Majority 2 (one_of (drive0 ∷ both_drives ∷ []))
    ∷ Majority 7 (at_least 4)
    -- outbid among four servers
    ∷ Run 4 1 outbid
    -- the same block whichever drive was recalled first
    ∷ Run 2 2 (rejoined 0 1)
    ∷ Run 2 2 (rejoined 1 0)
    ∷ []
