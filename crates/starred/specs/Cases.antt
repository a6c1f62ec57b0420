-- The kinds of starred values: what a case of each kind says, and the test that it passes.
use Rattle.std.specs.Prelude.{ℕ, ◌^◌, ◌<◌, Bool, true, false, not, ◌&&◌, ◌||◌, List, [], ◌∷◌, ◌≡◌, eqb, leb, get_or, Ok}
use Rattle.std.specs.Bool.{beq}
use Rattle.std.specs.Int.Count.{ones}
use Rattle.command.specs.Command.{kind_of, piece_of, hoard_of, cabinet_limits, is_command}
use Rattle.ballot.specs.Ballot.{owned}
use Rattle.quorum.specs.Marks.{stands}
use Rattle.quorum.specs.Sets.{all_below, majority}
use Rattle.checks.specs.Refusals.{refusal_in}
use Rattle.state.specs.declared.Answer.TheVariants.{Done}
use Rattle.state.specs.Answers.{Answered, code_of, number_of}
use Rattle.state.specs.declared.Sizes.{Sizes}
use Rattle.state.specs.declared.Step.TheVariants.{Offer}
use Rattle.layout.specs.Places.{sizes_fit, room_length}
use Rattle.room.specs.Open.{opening, opened}
use Rattle.room.specs.Step.{answered}
use Rattle.state.specs.Sizes.{sizes}
use Rattle.starred.specs.Runs.{new_room, Line, Replays, same_answer, replays}

-- a case by its kind, with its numbers
pub data Case : Type 0 where
  -- a room of these sizes has so many cells
  Length : (servers drives slots cells : ℕ) → Case
  -- with so many servers, whatever the drives, the slots, the limits and the row, open is refused with the number
  Unopened : (servers number : ℕ) → Case
  -- a command, with its parts
  Command : (v kind piece hoard : ℕ) → Case
  -- no command: its Offer is refused with the number
  NoCommand : (v number : ℕ) → Case
  -- among so many servers the ballot is this server's
  Owned : (servers ballot server : ℕ) → Case
  -- of so many drives, the sets that are a majority, as a test of mark cells
  Majority : (drives : ℕ) (counts : ℕ → Bool) → Case
  -- a run in a room of so many servers and drives
  Run : (servers drives : ℕ) → List Line → Case

-- a room of one slot, just opened by 01's limits
abbrev pub small_room : ℕ → ℕ → List ℕ
small_room servers drives = new_room (sizes servers drives 1) cabinet_limits

-- what the smallest answers to an Offer of v
abbrev pub offered : ℕ → Answered
offered v = answered (small_room 1 1) (Offer 0 0 v)

-- the tests of mark cells: any set of so many drives or more, and one of the sets listed
abbrev pub at_least : ℕ → ℕ → Bool
at_least least m = leb least (ones m)

abbrev pub one_of : List ℕ → ℕ → Bool
one_of [] m = false
one_of (set ∷ sets) m = eqb m set || one_of sets m

-- v is a command of kind k, piece p and hoard h
pub record IsCommand (v k p h : ℕ) : Type 0 where
  pub command : is_command cabinet_limits v ≡ true
  pub kind : kind_of v ≡ k
  pub piece : piece_of v ≡ p
  pub hoard : hoard_of v ≡ h
  pub accepted : offered v ≡ Ok Done

-- open refuses these sizes with the number and leaves the row as it was
pub record IsUnopened (z : Sizes) (number : ℕ) (limits row : List ℕ) : Type 0 where
  pub refused : refusal_in (opening z limits row) ≡ number
  pub kept : opened z limits row ≡ row

-- what a case says
abbrev pub Says : Case → Type 0
Says (Length n d s cells) = (sizes_fit (sizes n d s) ≡ true) × (room_length (sizes n d s) ≡ cells)
Says (Unopened n number) = (d s : ℕ) (limits row : List ℕ) → IsUnopened (sizes n d s) number limits row
Says (Command v k p h) = IsCommand v k p h
Says (NoCommand v number) = (is_command cabinet_limits v ≡ false) × (code_of (offered v) ≡ 4) × (number_of (offered v) ≡ number)
Says (Owned n b p) = (owned n p b ≡ true) × ((q : ℕ) → q < n → owned n q b ≡ true → q ≡ p)
Says (Majority d counts) = (m : ℕ) → m < 2 ^ d → majority d (stands m) ≡ counts m
Says (Run n d run) = Replays (small_room n d) run

-- A number of servers that does not fit with one drive and one slot fits with no others, and sizes that do not fit are
-- refused before the rest is looked at: the smallest drives and slots, no limits and the empty row show the number for all.
abbrev pub is_unopened : ℕ → ℕ → Bool
is_unopened n number = not (sizes_fit (sizes n 1 1)) && eqb (refusal_in (opening (sizes n 1 1) [] [])) number

-- the test of a case
unfoldable pub holds : Case → Bool
holds (Length n d s cells) = sizes_fit (sizes n d s) && eqb (room_length (sizes n d s)) cells
holds (Unopened n number) = is_unopened n number
holds (Command v k p h) =
    is_command cabinet_limits v
    && (eqb (kind_of v) k && (eqb (piece_of v) p && (eqb (hoard_of v) h && same_answer (offered v) (Ok Done))))
holds (NoCommand v number) = not (is_command cabinet_limits v) && (eqb (code_of (offered v)) 4 && eqb (number_of (offered v)) number)
holds (Owned n b p) = owned n p b && all_below n (λ q. not (owned n q b) || eqb q p)
holds (Majority d counts) = all_below (2 ^ d) (λ m. beq (majority d (stands m)) (counts m))
holds (Run n d run) = replays (small_room n d) run

-- every case of a list passes its test
unfoldable pub all_hold : List Case → Bool
all_hold [] = true
all_hold (c ∷ cases) = holds c && all_hold cases

-- the i-th case; beyond the table, a run of no steps, which says nothing
abbrev pub case_at : List Case → ℕ → Case
case_at cases i = get_or cases i (Run 1 1 [])
