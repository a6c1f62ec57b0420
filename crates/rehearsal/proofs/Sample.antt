-- 01's sample: what is printed for its bytes, and for inputs without a room, by computing every definition.
use Prim.Native.Nat.{ℕ, ◌<◌}
use mathlib.Core.List.{List, [], ◌∷◌}
use mathlib.Core.Path.{◌≡◌, refl}
use lib.ListN.{length}
use lib.Chars.{codes}
use lib.Count.{ones_in, ones}
use Rattle.command.specs.Command.{limits_fit, limit_of, hoard_fits, is_command}
use Rattle.ballot.specs.Ballot.{owned, least_above, next_own}
use Rattle.quorum.specs.Marks.{stands, marked}
use Rattle.quorum.specs.Sets.{all_below, size, gathered, majority, within}
use Rattle.synod.specs.Arguments.{places_fit, command_fits}
use Rattle.synod.specs.Changes.{meeting, marking, topping, recalling, rejoining, bidding, writing, reading, proposing, agreeing}
use Rattle.checks.specs.Checks.{must}
use Rattle.synod.specs.Rules.{rule_of, bid_rule, finish_rule, offer_rule, outbid_rule, read_rule, recall_rule, rejoin_rule, write_rule}
use Rattle.layout.specs.Places.{slot_length, room_length, slot_at, server_at, nth_block_at, block_at, sizes_fit}
use Rattle.layout.specs.Cells.{is_row, server_of, put_server, block_of, put_block}
use Rattle.range.specs.Range.{legal_drives, legal_reads, value_fits, numbers_fit, server_fits, block_fits, servers_fit, blocks_fit, slot_fits, room_fits, in_range}
use Rattle.room.specs.Open.{opened_cells}
use Rattle.room.specs.Judge.{effect_of, step_rule, judged}
use Rattle.room.specs.Step.{failed_below, settled, answered, stepped}
use Rattle.record.specs.Fields.{mask_of, step_of}
use Rattle.record.specs.Map.{fields_length, record_length, asks_more, malformed, zero_among}
use Rattle.record.specs.Read.{low_number, values_at, read_checks, reading_of}
use Rattle.history.specs.Calls.{all_steps}
use Rattle.history.specs.Run.{ran}
use Rattle.catalogue.specs.Entry.{applies, entry}
use Rattle.catalogue.specs.Fold.{cells_after, skipped_by, folded}
use Rattle.catalogue.specs.Outputs.{output_at, leading, outputs_of}
use Rattle.catalogue.specs.Call.{entries_of, catalogue_checks, catalogue_of}
use Rattle.transcript.specs.Text.{digits_in, digits}
use Rattle.transcript.specs.Lines.{step_line, server_line, open_line}
use Rattle.rehearsal.specs.Script.{ended, before, read_on, script_in, script}
use Rattle.rehearsal.specs.Rehearsal.{step_lines, end_line, record_lines, room_after, counts_line, line_of, server_lines, run_text, input_max, rehearsal}
use Rattle.rehearsal.proofs.OpenedLaws.{too_long}

pub sample
    : rehearsal
    (1 ∷ 1 ∷ 1 ∷ 16 ∷ 1 ∷ 9 ∷ 5 ∷ 1 ∷ 0 ∷ 16 ∷ 3 ∷ 1 ∷ 0 ∷ 0 ∷ 0 ∷ 0 ∷ 2 ∷ 16 ∷ 3 ∷ 1 ∷ 0 ∷ 0 ∷ 0 ∷ 0 ∷ 5 ∷ 0 ∷ 7 ∷ 0 ∷ 5 ∷ 0 ∷ 7 ∷ [])
    ≡ codes "0 done 0\n1 refused 10\n2 done 0\n3 done 0\n4 done 0\n5 chosen 66825\n6 done 0\n7 committed 66825\nserver 0 taken 1 skipped 0\n"
unfolding ones ones_in
    limits_fit limit_of hoard_fits is_command owned least_above next_own stands marked all_below size gathered majority within
    places_fit command_fits
    meeting marking topping recalling rejoining bidding writing reading proposing agreeing
    must offer_rule recall_rule rejoin_rule bid_rule write_rule outbid_rule read_rule finish_rule
    slot_length room_length slot_at server_at nth_block_at block_at sizes_fit is_row server_of put_server block_of put_block
    legal_drives legal_reads value_fits numbers_fit server_fits block_fits servers_fit blocks_fit slot_fits room_fits in_range
    opened_cells step_rule effect_of rule_of judged failed_below settled answered stepped
    mask_of step_of fields_length record_length asks_more malformed zero_among low_number values_at read_checks reading_of
    all_steps ran applies entry cells_after skipped_by folded output_at leading outputs_of entries_of catalogue_checks catalogue_of
    digits_in digits step_line server_line open_line
    ended before read_on script_in script step_lines end_line record_lines room_after counts_line line_of server_lines run_text rehearsal
sample = refl

-- the three refusals of an input, in their order
pub no_byte : rehearsal [] ≡ codes "open refused 14\n"
unfolding digits_in digits open_line rehearsal
no_byte = refl

pub too_many : (input : List ℕ) → input_max < length input → rehearsal input ≡ codes "open refused 2\n"
unfolding digits_in digits open_line
too_many input h = too_long input h

pub bad_sizes : rehearsal (0 ∷ 1 ∷ 1 ∷ []) ≡ codes "open refused 1\n"
unfolding sizes_fit digits_in digits open_line rehearsal run_text
bad_sizes = refl
