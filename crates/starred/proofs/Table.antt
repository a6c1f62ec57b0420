-- The starred table: one proof that every test in it holds, and one law that turns it into each case.
use Prim.Native.Nat.{ℕ, zero, suc}
use mathlib.Core.Path.{◌≡◌, refl}
use mathlib.Core.Bool.{true}
use mathlib.Core.List.{List, [], ◌∷◌}
use lib.Count.{ones_in, ones}
use Rattle.command.specs.Command.{limits_fit, limit_of, hoard_fits, is_command}
use Rattle.ballot.specs.Ballot.{owned, least_above, next_own}
use Rattle.quorum.specs.Marks.{stands, marked}
use Rattle.quorum.specs.Sets.{all_below, size, gathered, majority, within}
use Rattle.synod.specs.Arguments.{places_fit, command_fits}
use Rattle.synod.specs.Changes.{meeting, marking, topping, recalling, rejoining, bidding, writing, reading, proposing}
use Rattle.checks.specs.Checks.{must}
use Rattle.synod.specs.Rules.{rule_of, bid_rule, finish_rule, offer_rule, outbid_rule, read_rule, recall_rule, rejoin_rule, write_rule}
use Rattle.layout.specs.Places.{slot_length, room_length, slot_at, server_at, nth_block_at, block_at, sizes_fit}
use Rattle.layout.specs.Cells.{is_row, server_of, put_server, block_of, put_block}
use Rattle.range.specs.Range.{legal_drives, legal_reads, value_fits, numbers_fit, server_fits, block_fits, servers_fit, blocks_fit, slot_fits, room_fits, in_range}
use Rattle.room.specs.Open.{open_checks, opened_cells, opening, opened}
use Rattle.room.specs.Judge.{effect_of, step_rule, judged}
use Rattle.room.specs.Step.{failed_below, settled, answered, stepped}
use Rattle.state.specs.Block.{same_block}
use Rattle.starred.specs.Runs.{new_room, own, on_drive, same_answer, replays}
use Rattle.starred.specs.Cases.{Case, Run, Says, holds, all_hold, case_at}
use Rattle.starred.specs.Starred.{starred}
use Rattle.starred.proofs.RunLaws.{both}
use Rattle.starred.proofs.CaseLaws.{case_says}

-- by computing every test: the line names all that the definitions of open and step are made of
pub starred_hold : all_hold starred ≡ true
unfolding all_hold starred holds new_room own on_drive same_answer same_block replays ones_in ones
    limits_fit limit_of hoard_fits is_command owned least_above next_own stands marked all_below size gathered majority within
    places_fit command_fits
    meeting marking topping recalling rejoining bidding writing reading proposing
    must offer_rule recall_rule rejoin_rule bid_rule write_rule outbid_rule read_rule finish_rule
    slot_length room_length slot_at server_at nth_block_at block_at sizes_fit is_row server_of put_server block_of put_block
    legal_drives legal_reads value_fits numbers_fit server_fits block_fits servers_fit blocks_fit slot_fits room_fits in_range
    opened_cells open_checks opening opened step_rule effect_of rule_of judged failed_below settled answered stepped
starred_hold = refl

each : (cases : List Case) → all_hold cases ≡ true → (i : ℕ) → Says (case_at cases i)
unfolding all_hold holds replays
each [] e i = case_says (Run 1 1 []) refl
each (c ∷ cases) e zero = case_says c (both (holds c) (all_hold cases) e).0
each (c ∷ cases) e (suc i) = each cases (both (holds c) (all_hold cases) e).1 i

-- each case of the table is as it says
pub starred_says : (i : ℕ) → Says (case_at starred i)
starred_says i = each starred starred_hold i
