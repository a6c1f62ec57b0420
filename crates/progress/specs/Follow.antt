-- Following the next step (SPEC, "The next step"): no other server steps, and no drive is switched.
use Rattle.std.specs.Prelude.{ℕ, zero, suc, ◌+◌, ◌-◌, ◌*◌, Bool, false, ◌||◌, List, length, eqb, Option, Some, None, Result, Ok, Err}
use Rattle.checks.specs.declared.Refusal.{Refusal}
use Rattle.state.specs.declared.Step.{Step}
use Rattle.state.specs.declared.Step.TheVariants.{Offer, Fail}
use Rattle.state.specs.Answers.{code_of}
use Rattle.layout.specs.Cells.{sizes_of, off_of}
use Rattle.room.specs.Step.{answered, stepped}
use Rattle.progress.specs.Used.{used_drives}
use Rattle.progress.specs.Next.{next_answered}

-- the room in which server p begins: it has just failed and then offered v in slot s
abbrev pub fail_then_offer : List ℕ → ℕ → ℕ → ℕ → List ℕ
fail_then_offer cells p s v = stepped (stepped cells (Fail p)) (Offer p s v)

-- the step that next gives is taken: it is answered committed, or what follows is
abbrev pub followed : List ℕ → (List ℕ → Bool) → Result (Option Step) Refusal → Bool
followed cells rest (Ok (Some st)) = eqb (code_of (answered cells st)) 3 || rest (stepped cells st)
followed cells rest (Ok None) = false
followed cells rest (Err refusal) = false

-- server p, following next in slot s for at most k steps, is answered committed
unfoldable pub commits_within : ℕ → List ℕ → ℕ → ℕ → Bool
commits_within zero cells p s = false
commits_within (suc k) cells p s = followed cells (λ after. commits_within k after p s) (next_answered cells p s)

-- no mbal on the slot's blocks may exceed this: then every server has ballots left
abbrev pub low_mbal : ℕ
low_mbal = 999990

-- the steps that are enough, with m drives used and n servers
abbrev pub bound : ℕ → ℕ → ℕ
bound m n = 3 + m + 2 * m * n + m * m * n * (n - 1)

-- the same, of a room
abbrev pub room_bound : List ℕ → ℕ
room_bound cells = bound (length (used_drives (sizes_of cells).drives (off_of cells))) (sizes_of cells).servers
