-- The lines that rehearse prints (SPEC, "Step records"), and where they go in a buffer.
use Rattle.std.specs.Prelude.{ℕ, ◌+◌, ◌≤◌, ◌≡◌, Bool, cond, List, ◌++◌, length, take, drop, leb, codes, Ok, Err}
use Rattle.state.specs.declared.Answer.TheVariants.{Done, Outbid, Chosen, Committed}
use Rattle.state.specs.Answers.{Answered, number_of}
use Rattle.transcript.specs.Text.{digits}
use Rattle.transcript.specs.declared.Transcript.{Transcript}

-- the word of an answer
abbrev pub word_of : Answered → List ℕ
word_of (Ok Done) = codes "done"
word_of (Ok (Outbid ballot)) = codes "outbid"
word_of (Ok (Chosen command)) = codes "chosen"
word_of (Ok (Committed command)) = codes "committed"
word_of (Err refusal) = codes "refused"

-- the word and the number, each after a space: " committed 66825"
abbrev pub answer_text : Answered → List ℕ
answer_text answer = codes " " ++ word_of answer ++ codes " " ++ digits (number_of answer)

-- "7 committed 66825"
unfoldable pub step_line : ℕ → Answered → List ℕ
step_line index answer = digits index ++ answer_text answer ++ codes "\n"

-- "1 refused 10", where the number may be another than a refusal's
unfoldable pub refused_line : ℕ → ℕ → List ℕ
refused_line index number = digits index ++ codes " refused " ++ digits number ++ codes "\n"

-- "server 0 taken 1 skipped 0"
unfoldable pub server_line : ℕ → ℕ → ℕ → List ℕ
server_line server taken skipped =
    codes "server "
    ++ digits server
    ++ codes " taken "
    ++ digits taken
    ++ codes " skipped "
    ++ digits skipped
    ++ codes "\n"

-- "open refused 14"
unfoldable pub open_line : ℕ → List ℕ
open_line number = codes "open refused " ++ digits number ++ codes "\n"

-- the bytes of the longest line of 32-bit numbers, which is a server's
abbrev pub line_max : ℕ
line_max = 54

-- the buffer with some bytes in it from a place on
unfoldable pub placed : List ℕ → ℕ → List ℕ → List ℕ
placed buffer at text = take at buffer ++ text ++ drop (at + length text) buffer

-- a text put behind what is there, in the same buffer, and how much longer that makes it at most
pub record Puts (old : Transcript) (text : List ℕ) (new : Transcript) (most : ℕ) : Type 0 where
  pub place : new.length ≡ old.length + length text
  pub contents : new.buffer.now ≡ placed old.buffer.now old.length text
  pub upper_bound : length text ≤ most
  pub fits : new.length ≤ length new.buffer.now
  pub same_size : length new.buffer.now ≡ length old.buffer.now
  pub same_reference : new.buffer.ghost_name ≡ old.buffer.ghost_name

-- whether any line has room from a place on
unfoldable pub has_room : ℕ → ℕ → Bool
has_room size at = leb (at + line_max) size

-- a line put into a buffer, where there is room; else nothing changes
pub record Printed (buffer : List ℕ) (at : ℕ) (line then : List ℕ) (next : ℕ) : Type 0 where
  pub place : next ≡ cond (has_room (length buffer) at) (at + length line) at
  pub contents : then ≡ cond (has_room (length buffer) at) (placed buffer at line) buffer

-- a line printed behind a text, in the same buffer
pub record Prints (old : Transcript) (line : List ℕ) (new : Transcript) : Type 0 where
  pub printed : Printed old.buffer.now old.length line new.buffer.now new.length
  pub same_reference : new.buffer.ghost_name ≡ old.buffer.ghost_name
