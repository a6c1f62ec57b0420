-- What an example says: a run in a room just opened, its answers, and what demand 3 makes of them.
use Rattle.std.specs.Prelude.{ℕ, ◌<◌, List, [], ◌∷◌, ◌≡◌, ◌==◌, if◌then◌else◌, get_or, take, replicate, Ok}
use Rattle.std.specs.Option.{option_map_or}
use Rattle.state.specs.declared.Sizes.{Sizes}
use Rattle.state.specs.Answers.{code_of, number_of}
use Rattle.catalogue.specs.Call.{catalogue_of, catalogue_cells}
use Rattle.catalogue.specs.Fold.{pieces, folded, start}
use Rattle.catalogue.specs.Listing.{counts}
use Rattle.starred.specs.Runs.{new_room}
use Rattle.history.specs.Calls.{Call, Steps, Asks, Puts, Event, Took, Asked, Put, told}
use Rattle.history.specs.Run.{ran, history}
use Rattle.register.specs.OneHistory.{commands_of, OneHistory}

-- a run with what is expected of it
pub record Example : Type 0 where
  pub sizes : Sizes
  pub limits : List ℕ
  -- the calls, each with its answer
  pub run : List Event
  -- the commands answered as chosen and as committed, in order
  pub chosen : List ℕ
  pub committed : List ℕ
  -- the run's list of commands
  pub commands : List ℕ
  -- by server: how many of them its catalogue takes at the end, how many of these it skips, and the cells that it leaves
  pub taken : List ℕ
  pub skipped : List ℕ
  pub left : List (List ℕ)

abbrev pub call_of : Event → Call
call_of (Took st a) = Steps st
call_of (Asked p a) = Asks p
call_of (Put p s v a) = Puts p s v

unfoldable pub calls_of : List Event → List Call
calls_of [] = []
calls_of (e ∷ h) = call_of e ∷ calls_of h

abbrev pub history_of : Example → List Event
history_of e = history (new_room e.sizes e.limits) (calls_of e.run)

abbrev pub last_room : Example → List ℕ
last_room e = ran (new_room e.sizes e.limits) (calls_of e.run)

-- the numbers beside the answers with one word, in order
unfoldable pub said : ℕ → List Event → List ℕ
said word [] = []
said word (e ∷ h) =
    option_map_or (λ x. if code_of x.1 == word then number_of x.1 ∷ said word h else said word h) (told e) (said word h)

-- the words chosen and committed
abbrev pub chosen_code : ℕ
chosen_code = 2

abbrev pub committed_code : ℕ
committed_code = 3

-- 64 cells lent to a catalogue; every old cell is 9, as in the row that was opened
abbrev pub lent : List ℕ
lent = replicate pieces 9

-- server p's catalogue at the end, as computed
pub record Lists (e : Example) (p : ℕ) : Type 0 where
  pub answer : catalogue_of (last_room e) p lent ≡ Ok (counts (get_or e.taken p 0) (get_or e.skipped p 0))
  pub cells : catalogue_cells (last_room e) p lent ≡ get_or e.left p []

-- as demand 3 has it: the result of the first commands of the run
pub record IsFirst (e : Example) (p : ℕ) : Type 0 where
  pub skipped : get_or e.skipped p 0 ≡ (folded start (take (get_or e.taken p 0) e.commands)).skipped
  pub cells : get_or e.left p [] ≡ (folded start (take (get_or e.taken p 0) e.commands)).cells

pub record Worked (e : Example) : Type 0 where
  -- every call is answered as it is told
  pub answers : history_of e ≡ e.run
  -- demand 3 for these very calls
  pub one : OneHistory e.sizes (new_room e.sizes e.limits) (calls_of e.run)
  pub chosen : said chosen_code (history_of e) ≡ e.chosen
  pub committed : said committed_code (history_of e) ≡ e.committed
  pub commands : commands_of e.sizes (history_of e) ≡ e.commands
  pub catalogues : (p : ℕ) → p < e.sizes.servers → Lists e p × IsFirst e p
