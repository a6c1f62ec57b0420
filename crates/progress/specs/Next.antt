-- The next step of server p in slot s (SPEC, "The next step"): the first of the steps that are left for it in its phase, or
-- the one after them. What is marked already is not left.
use Rattle.std.specs.Prelude.{ℕ, Bool, not, cond, List, [], ◌∷◌, map, eqb, filter, flat_map, Option, Some, None, option_map, option_and_then, Result, if◌then◌else◌}
use Rattle.std.specs.List.{range_with_len}
use Rattle.std.specs.Option.{option_or}
use Rattle.checks.specs.declared.Refusal.{Refusal}
use Rattle.checks.specs.declared.Refusal.TheVariants.{OutOfRange, BeyondRoom, OnDrivesTooFew}
use Rattle.checks.specs.Checks.{Checked, Must, Gives, outcome, accepted}
use Rattle.ballot.specs.Ballot.{next_own}
use Rattle.quorum.specs.Marks.{stands}
use Rattle.quorum.specs.Sets.{majority}
use Rattle.state.specs.declared.Server.{Server}
use Rattle.state.specs.declared.Sizes.{Sizes}
use Rattle.state.specs.declared.Step.{Step}
use Rattle.state.specs.declared.Step.TheVariants.{Recall, Rejoin, Write, Read, Finish}
use Rattle.state.specs.Sizes.{in_room}
use Rattle.synod.specs.Rules.{balloting, is_on, recalled_on, other_read}
use Rattle.layout.specs.Cells.{sizes_of, off_of, server_of}
use Rattle.range.specs.Range.{in_range}
use Rattle.room.specs.Step.{answered}
use Rattle.progress.specs.Used.{used_drives}

-- the first of some steps
abbrev pub first : List Step → Option Step
first [] = None
first (st ∷ steps) = Some st

-- a room of these sizes with these off marks; the server's record there
module _ (z : Sizes) (off : ℕ) (v : Server) (p s : ℕ) where
  -- drive d is not recalled
  unfoldable pub unrecalled : ℕ → Bool
  unrecalled d = not (recalled_on v p d)

  -- q is another server, and its block on drive d is not read
  unfoldable pub unread : ℕ → ℕ → Bool
  unread d q = not (other_read v p d q)

  -- what is left in phase 0: to recall each used drive
  unfoldable pub recalls_left : List Step
  recalls_left = map (Recall p s) (filter unrecalled (used_drives z.drives off))

  -- and then to rejoin with the least own ballot above top, if there is one
  unfoldable pub rejoin : Option Step
  rejoin = option_map (Rejoin p s) (next_own z.servers p v.top)

  -- the reads that are left on drive d, by rising number
  unfoldable pub reads_left : ℕ → List Step
  reads_left d = map (Read p s d) (filter (unread d) (range_with_len 0 z.servers))

  -- what is left on drive d in phases 1 and 2: to write it, then to read the others there
  unfoldable pub left_on : ℕ → List Step
  left_on d = cond (stands v.written d) (reads_left d) (Write p s d ∷ reads_left d)

  -- each used drive in turn
  unfoldable pub rounds_left : List Step
  rounds_left = flat_map left_on (used_drives z.drives off)

  -- what the server would do next, by its own record
  unfoldable pub wished : Option Step
  wished =
      cond (eqb v.phase 0) (option_or (first recalls_left) rejoin)
      (cond (balloting v) (option_or (first rounds_left) (Some (Finish p s)))
      None)

-- the step, where it would be accepted
abbrev pub if_accepted : List ℕ → Step → Option Step
if_accepted cells st = if accepted (answered cells st) then Some st else None

-- the step, or none where there is none or it would be refused
unfoldable pub next_of : List ℕ → ℕ → ℕ → Option Step
next_of cells p s =
    option_and_then (if_accepted cells)
    (wished (sizes_of cells) (off_of cells) (server_of (sizes_of cells) cells s p) p s)

-- 3 the room, 4 the server and the slot, 19 the on drives are no majority
unfoldable pub next_checks : List ℕ → ℕ → ℕ → Checked (Option Step)
next_checks cells p s =
    Must (in_range cells) OutOfRange
    (Must (in_room (sizes_of cells) p s) BeyondRoom
    (Must (majority (sizes_of cells).drives (is_on (off_of cells))) OnDrivesTooFew
    (Gives (next_of cells p s))))

-- what next answers
unfoldable pub next_answered : List ℕ → ℕ → ℕ → Result (Option Step) Refusal
next_answered cells p s = outcome (next_checks cells p s)
