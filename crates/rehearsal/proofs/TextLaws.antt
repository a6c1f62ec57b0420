-- The text of a run is made line by line.
use Prim.Native.Nat.{ℕ, suc, ◌+◌, ◌^◌, ◌≤◌, ◌<◌}
use native.Mathlib.Omega.{arith}
use native.Mathlib.Numerals.{add-one}
use mathlib.Core.Path.{◌≡◌, refl, ◌∙◌, ap}
use mathlib.Core.List.{List, [], ◌++◌, append_assoc}
use lib.ListN.{length, length-append}
use Rattle.state.specs.declared.Step.{Step}
use Rattle.std.specs.Prelude.{Err}
use Rattle.checks.specs.declared.Refusal.{Refusal}
use Rattle.state.specs.Answers.{Answered, number_of}
use Rattle.room.specs.Step.{answered, stepped}
use Rattle.history.specs.Calls.{all_steps}
use Rattle.history.specs.Run.{ran}
use Rattle.transcript.specs.Lines.{step_line}
use Rattle.transcript.proofs.DigitLaws.{digits_most, digits_ten}
use Rattle.transcript.proofs.LineLaws.{word_length}
use Rattle.rehearsal.specs.Script.{Ending, Between, Unread, Script, ended, before}
use Rattle.rehearsal.specs.Rehearsal.{step_lines, end_line, record_lines, room_after, line_of, server_lines}
use Rattle.rehearsal.specs.Buffer.{record_max, step_max}

-- how long a line of a record is
pub step_short : (index : ℕ) (a : Answered) → index ≤ record_max → number_of a < 2 ^ 32 → length (step_line index a) ≤ step_max
unfolding step_line
step_short index a h k =
    simp length-append (omega (arith, digits_most 4 index (omega arith), digits_ten (number_of a) k, word_length a))

-- a script with no record, with one that can't be read, and with one more record
pub lines_none : (index : ℕ) (room : List ℕ) → record_lines index room (ended Between) ≡ []
unfolding record_lines ended step_lines end_line
lines_none index room = refl

pub lines_stop : (index : ℕ) (room : List ℕ) (n : Refusal) → record_lines index room (ended (Unread n)) ≡ step_line index (Err n)
unfolding record_lines ended step_lines end_line
lines_stop index room n = ap (λ (i : ℕ). step_line i (Err n)) (omega arith)

pub lines_more
    : (index : ℕ) (room : List ℕ) (st : Step) (s : Script)
    → record_lines index room (before st s) ≡ step_line index (answered room st) ++ record_lines (index + 1) (stepped room st) s
unfolding record_lines before step_lines
lines_more index room st s =
    let last : index + suc (length s.steps) ≡ index + 1 + length s.steps = omega arith in
    let line = step_line index (answered room st) in
    let rest = step_lines (index + 1) (stepped room st) s.steps in
    ap (λ (i : ℕ). (line ++ rest) ++ end_line i s.ending) last
    ∙ append_assoc line rest (end_line (index + 1 + length s.steps) s.ending)

-- the room after a script
pub room_none : (room : List ℕ) (e : Ending) → room_after room (ended e) ≡ room
unfolding room_after ended all_steps ran
room_none room e = refl

pub room_more : (room : List ℕ) (st : Step) (s : Script) → room_after room (before st s) ≡ room_after (stepped room st) s
unfolding room_after before all_steps ran
room_more room st s = refl

-- one more server
pub server_more : (room : List ℕ) (n : ℕ) → server_lines room (n + 1) ≡ server_lines room n ++ line_of room n
unfolding server_lines
server_more room n = ap (server_lines room) (add-one n)
