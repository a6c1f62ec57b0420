-- Rooms in which a server on its own needs as many steps as the bound allows (SPEC, "The next step"): one slot and one drive,
-- with server 0 alone, and with the block of a server 1 that outbids its first ballot.
use Rattle.std.specs.Prelude.{ℕ, ◌-◌, ◌≡◌, true, false, List}
use Rattle.command.specs.Command.{is_command}
use Rattle.quorum.specs.Sets.{majority}
use Rattle.synod.specs.Rules.{is_on}
use Rattle.state.specs.Block.{block}
use Rattle.state.specs.Sizes.{sizes}
use Rattle.layout.specs.Cells.{sizes_of, limits_of, off_of, put_block}
use Rattle.range.specs.Range.{in_range}
use Rattle.progress.specs.Follow.{low_mbal, fail_then_offer, commits_within, room_bound}
use Rattle.progress.specs.Promise.{Low}
use Rattle.starred.specs.Runs.{new_room}
use Rattle.witness.specs.Runs.{museum_limits, enter5}

unfoldable pub one_server : List ℕ
one_server = new_room (sizes 1 1 1) museum_limits

unfoldable pub two_servers : List ℕ
two_servers = put_block (sizes 2 1 1) (new_room (sizes 2 1 1) museum_limits) 0 0 1 (block low_mbal 0 0)

-- Server 0 in slot 0, with all that the bound supposes: in n steps it commits, in one fewer it does not. Both are computed, also the
-- first, which the theorem says too.
pub record Exactly (n : ℕ) (cells : List ℕ) : Type 0 where
  pub range : in_range cells ≡ true
  pub command : is_command (limits_of cells) enter5 ≡ true
  pub most : majority (sizes_of cells).drives (is_on (off_of cells)) ≡ true
  pub low : Low cells 0
  pub bound : room_bound cells ≡ n
  pub commits : commits_within n (fail_then_offer cells 0 0 enter5) 0 0 ≡ true
  pub not_before : commits_within (n - 1) (fail_then_offer cells 0 0 enter5) 0 0 ≡ false
