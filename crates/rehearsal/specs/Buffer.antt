-- How much the text takes of the lent bytes.
use Rattle.std.specs.Prelude.{ℕ, ◌+◌, ◌*◌, ◌≤◌, ◌≡◌, List, ◌++◌, length, take}
use Rattle.transcript.specs.Lines.{line_max}
use Rattle.transcript.specs.declared.Transcript.{Transcript}

-- The first n bytes of the buffer are the text. The last part follows from the first; a part of the buffer that is lent
-- asks for both.
pub record Holds (buffer : List ℕ) (n : ℕ) (text : List ℕ) : Type 0 where
  pub within : n ≤ length buffer
  pub contents : take n buffer ≡ text
  pub whole : n ≡ length (take n buffer)

-- the most lines of records: one for each two bytes, and one for a byte that is left
abbrev pub record_max : ℕ
record_max = 32767

-- the most bytes of such a line: an index of five digits, " committed ", a number of ten digits, and the line's end
abbrev pub step_max : ℕ
step_max = 27

-- the most bytes of a text: the lines of the records and of four servers
abbrev pub text_max : ℕ
text_max = step_max * record_max + line_max * 4

-- n bytes have room behind the text
abbrev pub HasLeft : Transcript → ℕ → Type 0
HasLeft t n = t.length + n ≤ length t.buffer.now

-- some lines put behind a text in the same buffer, and how long they are at most
pub record Adds (old : Transcript) (lines : List ℕ) (new : Transcript) (most : ℕ) : Type 0 where
  pub contents : take new.length new.buffer.now ≡ take old.length old.buffer.now ++ lines
  pub few : new.length ≤ old.length + most
  pub size : length new.buffer.now ≡ length old.buffer.now
  pub same_reference : new.buffer.ghost_name ≡ old.buffer.ghost_name
