-- A server on its own gets through (SPEC, "The next step"), from any room in range.
use Rattle.std.specs.Prelude.{ℕ, ◌<◌, ◌≤◌, ◌≡◌, true, List, Ok}
use Rattle.command.specs.Command.{is_command}
use Rattle.quorum.specs.Sets.{majority}
use Rattle.state.specs.declared.Answer.TheVariants.{Done}
use Rattle.state.specs.declared.Step.TheVariants.{Offer, Fail}
use Rattle.layout.specs.Cells.{sizes_of, limits_of, off_of, block_of}
use Rattle.range.specs.Range.{in_range}
use Rattle.room.specs.Step.{answered, stepped}
use Rattle.synod.specs.Rules.{is_on}
use Rattle.progress.specs.Follow.{low_mbal, fail_then_offer, commits_within, room_bound}

-- no mbal on the blocks of slot s exceeds 999,990
abbrev pub Low : List ℕ → ℕ → Type 0
Low cells s =
    (d q : ℕ) → d < (sizes_of cells).drives → q < (sizes_of cells).servers
    → (block_of (sizes_of cells) cells s d q).mbal ≤ low_mbal

-- server p fails and then offers v in slot s; from there, following next commits within the bound
pub record GetsThrough (cells : List ℕ) (p s v : ℕ) : Type 0 where
  pub fails : answered cells (Fail p) ≡ Ok Done
  pub offers : answered (stepped cells (Fail p)) (Offer p s v) ≡ Ok Done
  pub commits : commits_within (room_bound cells) (fail_then_offer cells p s v) p s ≡ true

-- every room in range, every server and slot of it, every command, if the on drives are a majority and the mbals are low
abbrev pub OnItsOwn : Type 0
OnItsOwn =
    (cells : List ℕ) (p s v : ℕ) → in_range cells ≡ true
    → p < (sizes_of cells).servers → s < (sizes_of cells).slots → is_command (limits_of cells) v ≡ true
    → majority (sizes_of cells).drives (is_on (off_of cells)) ≡ true → Low cells s
    → GetsThrough cells p s v
