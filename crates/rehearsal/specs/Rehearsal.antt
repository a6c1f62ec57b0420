-- What the program rehearse prints (SPEC, "Step records").
use Rattle.std.specs.Prelude.{ℕ, zero, suc, ◌+◌, ◌≡◌, cond, List, [], ◌∷◌, ◌++◌, length, drop, replicate, ltb, Result, Err, MatchResult}
use Rattle.checks.specs.declared.Refusal.{Refusal}
use Rattle.command.specs.Command.{cabinet_limits}
use Rattle.state.specs.declared.Sizes.{Sizes}
use Rattle.state.specs.declared.Step.{Step}
use Rattle.state.specs.Answers.{Answered}
use Rattle.layout.specs.Places.{sizes_fit}
use Rattle.layout.specs.Cells.{sizes_of}
use Rattle.room.specs.Open.{opened_cells}
use Rattle.room.specs.Step.{answered, stepped}
use Rattle.history.specs.Calls.{all_steps}
use Rattle.history.specs.Run.{ran}
use Rattle.catalogue.specs.declared.Counts.{Counts}
use Rattle.catalogue.specs.Fold.{pieces}
use Rattle.catalogue.specs.Listing.{taken_of, skipped_of}
use Rattle.catalogue.specs.Call.{catalogue_of}
use Rattle.transcript.specs.Lines.{step_line, server_line, open_line}
use Rattle.rehearsal.specs.Script.{Ending, Between, Unread, Script, script}

-- a record taken in a room: what its step answers and makes of the room, or why it can't be read
abbrev pub Takes : List ℕ → Result Step Refusal → Answered → List ℕ → Type 0
Takes old read answer new =
    MatchResult read (λ st. (answer ≡ answered old st) × (new ≡ stepped old st)) (λ n. (answer ≡ Err n) × (new ≡ old))

-- the lines of the steps that are taken from a room on, by their answers
unfoldable pub step_lines : ℕ → List ℕ → List Step → List ℕ
step_lines index room [] = []
step_lines index room (st ∷ sts) = step_line index (answered room st) ++ step_lines (index + 1) (stepped room st) sts

-- how the records end: a record that cannot be read has a line, the end of the input has none
unfoldable pub end_line : ℕ → Ending → List ℕ
end_line index Between = []
end_line index (Unread n) = step_line index (Err n)

-- the lines of a script that begins at an index and in a room
unfoldable pub record_lines : ℕ → List ℕ → Script → List ℕ
record_lines index room s = step_lines index room s.steps ++ end_line (index + length s.steps) s.ending

-- the room after a script
unfoldable pub room_after : List ℕ → Script → List ℕ
room_after room s = ran room (all_steps s.steps)

-- a server's line, with the two counts of its catalogue
unfoldable pub counts_line : ℕ → Result Counts Refusal → List ℕ
counts_line p l = server_line p (taken_of l) (skipped_of l)

unfoldable pub line_of : List ℕ → ℕ → List ℕ
line_of room p = counts_line p (catalogue_of room p (replicate pieces 0))

-- the lines of the first n servers
unfoldable pub server_lines : List ℕ → ℕ → List ℕ
server_lines room zero = []
server_lines room (suc n) = server_lines room n ++ line_of room n

-- the room that rehearse opens: its limits are 01's
abbrev pub opened_room : Sizes → List ℕ
opened_room z = opened_cells z cabinet_limits

-- what a room of these sizes prints for a script: the lines of the records, then those of the servers; sizes that do not
-- fit print one line
unfoldable pub run_text : Sizes → Script → List ℕ
run_text z s =
    let room = opened_room z in
    cond (sizes_fit z) (record_lines 0 room s ++ server_lines (room_after room s) z.servers) (open_line 1)

-- the most bytes of an input
abbrev pub input_max : ℕ
input_max = 65536

-- what an input prints: too short, too long, or its run
unfoldable pub rehearsal : List ℕ → List ℕ
rehearsal input =
    cond (ltb (length input) 3) (open_line 14)
    (cond (ltb input_max (length input)) (open_line 2)
    (run_text (sizes_of input) (script (drop 3 input))))
