-- What is promised of the next step (SPEC, "The next step"), in any row: the step is one that is accepted, a Rejoin has the
-- least own ballot, in phase 3 there is none, and which drives are used.
use Rattle.std.specs.Prelude.{ℕ, ◌<◌, ◌≡◌, true, false, List, Some, None, Ok}
use mathlib.Core.List.{Memᴰ}
use Rattle.checks.specs.Checks.{accepted}
use Rattle.ballot.specs.Least.{LeastOwn}
use Rattle.quorum.specs.Sets.{majority}
use Rattle.state.specs.declared.Step.{Step}
use Rattle.state.specs.declared.Step.TheVariants.{Rejoin}
use Rattle.layout.specs.Cells.{sizes_of, server_of}
use Rattle.room.specs.Step.{answered}
use Rattle.synod.specs.Rules.{is_on}
use Rattle.progress.specs.Used.{on_below, is_used, used_drives}
use Rattle.progress.specs.Next.{next_answered}

pub record Given (cells : List ℕ) (p s : ℕ) : Type 0 where
  pub step_accepted : (st : Step) → next_answered cells p s ≡ Ok (Some st) → accepted (answered cells st) ≡ true
  pub least
      : (q t b : ℕ) → next_answered cells p s ≡ Ok (Some (Rejoin q t b))
      → LeastOwn (sizes_of cells).servers p (server_of (sizes_of cells) cells s p).top b
  pub phase_3
      : (server_of (sizes_of cells) cells s p).phase ≡ 3 → accepted (next_answered cells p s) ≡ true
      → next_answered cells p s ≡ Ok None

-- the shortest run of on drives, by rising number, that is a majority
pub record FirstMajority (drives off : ℕ) : Type 0 where
  pub used : (d : ℕ) → Memᴰ d (used_drives drives off) → (d < drives) × (is_on off d ≡ true)
  pub run : (d e : ℕ) → is_used drives off d ≡ true → e < d → is_on off e ≡ true → is_used drives off e ≡ true
  pub most : majority drives (is_on off) ≡ true → majority drives (is_used drives off) ≡ true
  pub shortest : (d : ℕ) → is_used drives off d ≡ true → majority drives (on_below off d) ≡ false
