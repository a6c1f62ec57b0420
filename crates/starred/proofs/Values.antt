-- Some starred values in plain words, each read off the table by its law.
use Prim.Native.Nat.{ℕ, ◌^◌, ◌<◌}
use mathlib.Core.Path.{◌≡◌}
use mathlib.Core.Bool.{true, false}
use mathlib.Core.List.{List, [], ◌∷◌, ◌++◌}
use native.Mathlib.Omega.{arith}
use lib.Count.{ones}
use lib.Dec.{leb}
use Rattle.std.specs.Prelude.{Ok, Err}
use Rattle.checks.specs.declared.Refusal.{Refusal}
use Rattle.checks.specs.declared.Refusal.TheVariants.{NoCommand}
use Rattle.checks.specs.Refusals.{refusal_in, refusal_number}
use Rattle.checks.proofs.NumberLaws.{refused_is}
use Rattle.quorum.specs.Marks.{stands}
use Rattle.quorum.specs.Sets.{majority}
use Rattle.state.specs.declared.Answer.TheVariants.{Done, Outbid, Chosen, Committed}
use Rattle.state.specs.Answers.{Answered, code_of, number_of}
use Rattle.state.specs.declared.Block.{Block}
use Rattle.state.specs.declared.Step.TheVariants.{Read}
use Rattle.layout.specs.Places.{room_length}
use Rattle.room.specs.Open.{opening}
use Rattle.room.specs.Step.{answered, stepped}
use Rattle.state.specs.Sizes.{sizes}
use Rattle.state.specs.Block.{block}
use Rattle.starred.specs.Runs.{◌↝◌, Own, own, Replays, last_cells}
use Rattle.starred.specs.Cases.{small_room, offered}
use Rattle.starred.specs.Starred.{met, proposed, recalled, starred}
use Rattle.starred.proofs.RunLaws.{later}
use Rattle.starred.proofs.Table.{starred_says}

pub largest_length : room_length (sizes 4 7 16) ≡ 2508
unfolding starred
largest_length = (starred_says 1).1

-- whatever the drives, the slots, the limits and the row
pub no_servers : (d s : ℕ) (limits row : List ℕ) → refusal_in (opening (sizes 0 d s) limits row) ≡ 1
unfolding starred
no_servers d s limits row = (starred_says 2 d s limits row).refused

-- what is refused with a number is told by the number
refused_told : (a : Answered) (r : Refusal) → code_of a ≡ 4 → number_of a ≡ refusal_number r → refusal_in a ≡ refusal_number r
refused_told (Ok Done) r word told = absurd (omega (arith, word))
refused_told (Ok (Outbid b)) r word told = absurd (omega (arith, word))
refused_told (Ok (Chosen v)) r word told = absurd (omega (arith, word))
refused_told (Ok (Committed v)) r word told = absurd (omega (arith, word))
refused_told (Err refusal) r word told = told

pub above_the_limit : offered 81725 ≡ Err NoCommand
unfolding starred
above_the_limit =
    let says = starred_says 4 in
    refused_is (offered 81725) NoCommand (refused_told (offered 81725) NoCommand says.1 says.2)

-- drive 0 alone of two drives, and not drive 1 alone
pub drive_0_of_2 : majority 2 (stands 1) ≡ true
unfolding starred
drive_0_of_2 = starred_says 9 1 (omega arith)

pub drive_1_of_2 : majority 2 (stands 2) ≡ false
unfolding starred
drive_1_of_2 = starred_says 9 2 (omega arith)

-- any four of seven drives, and no three
pub majority_of_7 : (m : ℕ) → m < 2 ^ 7 → majority 7 (stands m) ≡ leb 4 (ones m)
unfolding starred
majority_of_7 = starred_says 10

-- server 1 at 2 reads server 2's block on drive 0: what follows
finds_7 : Replays (last_cells (small_room 4 1) met) (Read 1 0 0 2 ↝ Ok (Outbid 7) ∷ Own 1 (block 10 0 0) ∷ [])
unfolding starred
finds_7 = later (small_room 4 1) met (Read 1 0 0 2 ↝ Ok (Outbid 7) ∷ Own 1 (block 10 0 0) ∷ []) (starred_says 11)

pub outbid_by_7 : answered (last_cells (small_room 4 1) met) (Read 1 0 0 2) ≡ Ok (Outbid 7)
unfolding Replays
outbid_by_7 = finds_7.0

pub now_10 : own (stepped (last_cells (small_room 4 1) met) (Read 1 0 0 2)) 1 ≡ block 10 0 0
unfolding Replays
now_10 = finds_7.1.0

-- server 0's own block after the two recalls and Rejoin 3
abbrev pub rejoined_by : ℕ → ℕ → Block
rejoined_by first second = own (last_cells (small_room 2 2) (proposed ++ recalled first second)) 0

pub inp_on_the_first : rejoined_by 0 1 ≡ block 3 1 66825
unfolding starred Replays
inp_on_the_first =
    (later (small_room 2 2) (proposed ++ recalled 0 1) (Own 0 (block 3 1 66825) ∷ []) (starred_says 12)).0

pub inp_on_the_second : rejoined_by 1 0 ≡ block 3 1 66825
unfolding starred Replays
inp_on_the_second =
    (later (small_room 2 2) (proposed ++ recalled 1 0) (Own 0 (block 3 1 66825) ∷ []) (starred_says 13)).0
