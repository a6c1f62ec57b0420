-- Runs in a room of one slot that was just opened: steps with their answers, and what blocks hold in between.
use Rattle.std.specs.Prelude.{ℕ, Bool, true, ◌&&◌, List, [], ◌∷◌, ◌≡◌, replicate, eqb}
use Rattle.state.specs.declared.Block.{Block}
use Rattle.state.specs.declared.Sizes.{Sizes}
use Rattle.state.specs.declared.Step.{Step}
use Rattle.state.specs.Answers.{Answered, code_of, number_of}
use Rattle.state.specs.Block.{same_block}
use Rattle.state.specs.Server.{own_block}
use Rattle.layout.specs.Places.{room_length}
use Rattle.layout.specs.Cells.{sizes_of, server_of, block_of}
use Rattle.room.specs.Open.{opened}
use Rattle.room.specs.Step.{answered, stepped}

-- what open makes of a row of the right length, in which every old cell is 9
unfoldable pub new_room : Sizes → List ℕ → List ℕ
new_room z limits = opened z limits (replicate (room_length z) 9)

infix 70 ◌↝◌
-- one line of a run: a step and its answer, a server's own block, or a server's block on a drive
pub data Line : Type 0 where
  ◌↝◌ : Step → Answered → Line
  Own : (server : ℕ) → Block → Line
  OnDrive : (drive server : ℕ) → Block → Line

-- a server's own block in slot 0, and its block on a drive
unfoldable pub own : List ℕ → ℕ → Block
own cells p = own_block (server_of (sizes_of cells) cells 0 p)

unfoldable pub on_drive : List ℕ → ℕ → ℕ → Block
on_drive cells d p = block_of (sizes_of cells) cells 0 d p

-- what a run says, from these cells on
unfoldable pub Replays : List ℕ → List Line → Type 0
Replays cells [] = Unit {0}
Replays cells (step ↝ answer ∷ run) = (answered cells step ≡ answer) × Replays (stepped cells step) run
Replays cells (Own p b ∷ run) = (own cells p ≡ b) × Replays cells run
Replays cells (OnDrive d p b ∷ run) = (on_drive cells d p ≡ b) × Replays cells run

-- the cells after a run
unfoldable pub last_cells : List ℕ → List Line → List ℕ
last_cells cells [] = cells
last_cells cells (step ↝ answer ∷ run) = last_cells (stepped cells step) run
last_cells cells (Own p b ∷ run) = last_cells cells run
last_cells cells (OnDrive d p b ∷ run) = last_cells cells run

-- one word and one number
unfoldable pub same_answer : Answered → Answered → Bool
same_answer a b = eqb (code_of a) (code_of b) && eqb (number_of a) (number_of b)

-- what a run says, as a test
unfoldable pub replays : List ℕ → List Line → Bool
replays cells [] = true
replays cells (step ↝ answer ∷ run) = same_answer (answered cells step) answer && replays (stepped cells step) run
replays cells (Own p b ∷ run) = same_block (own cells p) b && replays cells run
replays cells (OnDrive d p b ∷ run) = same_block (on_drive cells d p) b && replays cells run
