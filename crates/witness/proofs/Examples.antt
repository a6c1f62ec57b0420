-- The examples, by computing every answer and the last catalogues.
use Prim.Native.Nat.{zero, suc}
use mathlib.Core.Path.{refl}
use native.Mathlib.Omega.{arith}
use lib.Count.{ones_in, ones}
use Rattle.command.specs.Command.{limits_fit, limit_of, hoard_fits, is_command}
use Rattle.ballot.specs.Ballot.{owned, least_above, next_own}
use Rattle.quorum.specs.Marks.{stands, marked, unmarked}
use Rattle.quorum.specs.Sets.{all_below, size, gathered, majority, within}
use Rattle.synod.specs.Arguments.{places_fit, command_fits}
use Rattle.synod.specs.Changes.{meeting, marking, topping, recalling, rejoining, bidding, writing, reading, proposing, agreeing}
use Rattle.checks.specs.Checks.{must}
use Rattle.synod.specs.Rules.{rule_of, finish_rule, offer_rule, outbid_rule, read_rule, recall_rule, rejoin_rule, write_rule}
use Rattle.layout.specs.Places.{slot_length, room_length, slot_at, server_at, nth_block_at, block_at, sizes_fit}
use Rattle.layout.specs.Cells.{is_row, server_of, put_server, block_of, put_block}
use Rattle.range.specs.Range.{legal_drives, legal_reads, value_fits, numbers_fit, server_fits, block_fits, servers_fit, blocks_fit, slot_fits, room_fits, in_range}
use Rattle.room.specs.Open.{open_checks, opened_cells, opening, opened}
use Rattle.room.specs.Judge.{effect_of, step_rule, judged}
use Rattle.room.specs.Step.{failed_below, settled, answered, stepped}
use Rattle.free_slots.specs.Ask.{free_at, first_from, lowest_free, ask_checks, asked}
use Rattle.free_slots.specs.Put.{put_rule, put_judged, put_answered, put_cells}
use Rattle.progress.specs.Used.{is_used}
use Rattle.progress.specs.Next.{unrecalled, unread, recalls_left, rejoin, reads_left, left_on, rounds_left, wished, next_of, next_checks, next_answered}
use Rattle.progress.specs.Follow.{commits_within}
use Rattle.progress.specs.Promise.{Low}
use Rattle.catalogue.specs.Call.{entries_of, catalogue_checks, catalogue_of, catalogue_cells}
use Rattle.catalogue.specs.Entry.{applies, entry}
use Rattle.catalogue.specs.Fold.{cells_after, skipped_by, folded}
use Rattle.catalogue.specs.Outputs.{output_at, leading, outputs_of}
use Rattle.starred.specs.Runs.{new_room}
use Rattle.history.specs.Run.{ran, history, move_of, output_by, first_output}
use Rattle.register.specs.OneHistory.{commands_of}
use Rattle.witness.specs.Example.{calls_of, said, Worked}
use Rattle.witness.specs.Runs.{survivor, rivals, gap, halves, asks, learners, strikes, reuses, own_limits}
use Rattle.witness.specs.Tight.{one_server, two_servers, Exactly}
use Rattle.witness.proofs.Reading.{Computed, holds}

-- the lines name all that the definitions of open, step, ask, put, next and catalogue are made of
computed : Computed survivor × Computed rivals × Computed gap × Computed halves × Computed asks × Computed learners × Computed strikes × Computed reuses × Computed own_limits × Exactly 6 one_server × Exactly 10 two_servers
unfolding survivor rivals gap halves asks learners strikes reuses own_limits one_server two_servers new_room calls_of ran history ones_in ones
    limits_fit limit_of hoard_fits is_command owned least_above next_own stands marked unmarked all_below size gathered majority within
    places_fit command_fits
    meeting marking topping recalling rejoining bidding writing reading proposing agreeing
    must offer_rule recall_rule rejoin_rule write_rule outbid_rule read_rule finish_rule
    slot_length room_length slot_at server_at nth_block_at block_at sizes_fit is_row server_of put_server block_of put_block
    legal_drives legal_reads value_fits numbers_fit server_fits block_fits servers_fit blocks_fit slot_fits room_fits in_range
    opened_cells open_checks opening opened step_rule effect_of rule_of judged failed_below settled answered stepped
    free_at first_from lowest_free ask_checks asked put_rule put_judged put_answered put_cells
    is_used unrecalled unread recalls_left rejoin reads_left left_on rounds_left wished next_of next_checks next_answered commits_within
    applies entry cells_after skipped_by folded output_at leading outputs_of entries_of catalogue_checks catalogue_of catalogue_cells
    said commands_of first_output output_by move_of
computed = (
  refl,
  refl,
  refl,
  refl,
  refl,
  refl,
  refl,
  refl,
  refl,
  record { range = refl; command = refl; most = refl; low = low_1; bound = refl; commits = refl; not_before = refl },
  record { range = refl; command = refl; most = refl; low = low_2; bound = refl; commits = refl; not_before = refl },
)
  where
    low_1 : Low one_server 0
    low_1 zero zero h l = omega arith
    low_1 zero (suc q) h l = absurd (omega arith)
    low_1 (suc d) q h l = absurd (omega arith)

    low_2 : Low two_servers 0
    low_2 zero zero h l = omega arith
    low_2 zero (suc zero) h l = omega arith
    low_2 zero (suc (suc q)) h l = absurd (omega arith)
    low_2 (suc d) q h l = absurd (omega arith)

-- one server commits and fails, and the other, with another offer, commits the same command
pub survivor_holds : Worked survivor
survivor_holds = holds survivor computed.0

-- two servers answer different chosen commands, and both commit the same
pub rivals_hold : Worked rivals
rivals_hold = holds rivals computed.1

-- a commit beyond an empty slot is in no list and in no catalogue
pub gap_holds : Worked gap
gap_holds = holds gap computed.2

-- drive 0 alone of two settles a command, and drive 1 alone no other
pub halves_hold : Worked halves
halves_hold = holds halves computed.3

-- a command that was put is settled as one that was offered
pub asks_holds : Worked asks
asks_holds = holds asks computed.4

-- a late server, and one that has failed, learn the command without a Finish
pub learners_hold : Worked learners
learners_hold = holds learners computed.5

-- a strike of an entered piece is not skipped
pub strikes_holds : Worked strikes
strikes_holds = holds strikes computed.6

-- an enter, a move and a strike of its number after that are skipped
pub reuses_holds : Worked reuses
reuses_holds = holds reuses computed.7

-- a command is judged by the room's own limits
pub own_limits_hold : Worked own_limits
own_limits_hold = holds own_limits computed.8

-- one server on one drive needs as many steps as the bound allows
pub one_server_exactly : Exactly 6 one_server
one_server_exactly = computed.9

-- and so do two servers on one drive, where the block of the other outbids the first ballot
pub two_servers_exactly : Exactly 10 two_servers
two_servers_exactly = computed.10
