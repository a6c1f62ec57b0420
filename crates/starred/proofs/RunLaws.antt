-- A run that passes its test is as it says.
use Prim.Native.Nat.{ℕ, zero, suc}
use mathlib.Core.Path.{◌≡◌, refl, ◌∙◌, sym, ap, ap₂}
use mathlib.Core.Bool.{Bool, true, ◌&&◌}
use mathlib.Core.List.{List, [], ◌∷◌, ◌++◌}
use lib.Dec.{eqb}
use borrow.Author.Tests.{eqb-true}
use Rattle.lemmas.proofs.Tests.{and_left, and_right}
use Rattle.std.specs.Prelude.{Ok, Err}
use Rattle.checks.proofs.NumberLaws.{refusal_at, at_number}
use Rattle.state.specs.declared.Answer.TheVariants.{Done, Outbid, Chosen, Committed}
use Rattle.state.specs.Answers.{Answered, code_of, number_of}
use Rattle.room.specs.Step.{answered, stepped}
use Rattle.range.proofs.Together.{same_block_lem}
use Rattle.state.specs.Block.{same_block}
use Rattle.starred.specs.Runs.{Line, ◌↝◌, Own, OnDrive, own, on_drive, Replays, last_cells, same_answer, replays}

-- the answer with this word and this number
abbrev from_code : ℕ → ℕ → Answered
from_code zero n = Ok Done
from_code (suc zero) n = Ok (Outbid n)
from_code (suc (suc zero)) n = Ok (Chosen n)
from_code (suc (suc (suc zero))) n = Ok (Committed n)
from_code (suc (suc (suc (suc k)))) n = Err (refusal_at n)

from_own_code : (a : Answered) → from_code (code_of a) (number_of a) ≡ a
from_own_code (Ok Done) = refl
from_own_code (Ok (Outbid b)) = refl
from_own_code (Ok (Chosen c)) = refl
from_own_code (Ok (Committed c)) = refl
from_own_code (Err r) = ap Err (at_number r)

-- both parts of a test
pub both : (a b : Bool) → (a && b) ≡ true → (a ≡ true) × (b ≡ true)
both a b e = (and_left a b e, and_right a b e)

pub same_answer_lem : (a b : Answered) → same_answer a b ≡ true → a ≡ b
unfolding same_answer
same_answer_lem a b e =
    let t = both (eqb (code_of a) (code_of b)) (eqb (number_of a) (number_of b)) e in
    let word : code_of a ≡ code_of b = eqb-true (code_of a) (code_of b) t.0 in
    let number : number_of a ≡ number_of b = eqb-true (number_of a) (number_of b) t.1 in
    sym (from_own_code a) ∙ ap₂ from_code word number ∙ from_own_code b

pub run_says : (cells : List ℕ) (run : List Line) → replays cells run ≡ true → Replays cells run
unfolding replays Replays
run_says cells [] e = tt
run_says cells (step ↝ answer ∷ run) e =
    let t = both (same_answer (answered cells step) answer) (replays (stepped cells step) run) e in
    (same_answer_lem (answered cells step) answer t.0, run_says (stepped cells step) run t.1)
run_says cells (Own p b ∷ run) e =
    let t = both (same_block (own cells p) b) (replays cells run) e in
    (same_block_lem (own cells p) b t.0, run_says cells run t.1)
run_says cells (OnDrive d p b ∷ run) e =
    let t = both (same_block (on_drive cells d p) b) (replays cells run) e in
    (same_block_lem (on_drive cells d p) b t.0, run_says cells run t.1)

-- what a run says from one of its places on
pub later : (cells : List ℕ) (first rest : List Line) → Replays cells (first ++ rest) → Replays (last_cells cells first) rest
unfolding Replays last_cells
later cells [] rest h = h
later cells (step ↝ answer ∷ first) rest h = later (stepped cells step) first rest h.1
later cells (Own p b ∷ first) rest h = later cells first rest h.1
later cells (OnDrive d p b ∷ first) rest h = later cells first rest h.1
