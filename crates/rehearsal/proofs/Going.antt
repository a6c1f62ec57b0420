-- The loop over the records: what has been printed with what is still to be printed is the whole text.
use Prim.Native.Nat.{ℕ, ◌+◌, ◌*◌, ◌/◌, ◌^◌, ◌≤◌, ◌<◌}
use native.Mathlib.Omega.{arith}
use mathlib.Core.Path.{◌≡◌, ◌∙◌, sym, ap, subst}
use mathlib.Core.List.{List, ◌++◌, append_assoc, append-nil}
use lib.ListN.{length, take}
use Rattle.std.proofs.Common.{Some, Ok, Err}
use Rattle.std.specs.declared.result.Result.{Result}
use Rattle.state.specs.declared.Step.{Step}
use Rattle.checks.specs.declared.Refusal.{Refusal}
use Rattle.state.specs.Answers.{Answered, number_of}
use Rattle.room.specs.Step.{answered, stepped}
use Rattle.transcript.specs.Lines.{line_max, step_line, Prints}
use Rattle.transcript.specs.declared.Transcript.{Transcript}
use Rattle.rehearsal.specs.Script.{Between, Unread, Script, ended, before, script, NextRecord}
use Rattle.rehearsal.specs.Rehearsal.{Takes, record_lines, room_after}
use Rattle.rehearsal.specs.Buffer.{record_max, step_max, Adds, HasLeft}
use Rattle.rehearsal.proofs.TextLaws.{step_short, lines_none, lines_stop, lines_more, room_none, room_more}
use Rattle.rehearsal.proofs.BufferLaws.{adds_line}

-- the most records that bytes hold
abbrev pub most_of : List ℕ → ℕ
most_of bytes = (length bytes + 1) / 2

-- where the run stands: before some of the records, in a room, behind a text and before an index
pub record Going (records first : List ℕ) (start : Transcript) (rest room : List ℕ) (text : Transcript) (index : ℕ) : Type 0 where
  pub lines : take text.length text.buffer.now ++ record_lines index room (script rest) ≡ take start.length start.buffer.now ++ record_lines 0 first (script records)
  pub cells : room_after room (script rest) ≡ room_after first (script records)
  pub far : index + most_of rest ≤ most_of records
  pub few : text.length ≤ start.length + step_max * index
  pub size : length text.buffer.now ≡ length start.buffer.now
  pub same_reference : text.buffer.ghost_name ≡ start.buffer.ghost_name

module _
    {records first : List ℕ} {start : Transcript} {rest room : List ℕ} {text : Transcript} {index : ℕ}
    (g : Going records first start rest room text index) where
  -- the line of a record: the index has five digits at most, and the buffer has room
  line
      : (text' : Transcript) (a : Answered) {i : ℕ} → i ≡ index → length records ≤ 2 * record_max
      → HasLeft start (step_max * record_max + line_max) → number_of a < 2 ^ 32 → Prints text (step_line i a) text'
      → Adds text (step_line index a) text' step_max
  line text' a {i} at short room fits p =
      let few : index ≤ record_max = omega (arith, g.far) in
      let P : ℕ → Type 0 = λ n. Prints text (step_line n a) text' in
      adds_line (subst P at p) (omega (arith, few, g.few, g.size)) (step_short index a few fits) (omega arith)

  -- a record that was read: its line is printed, and the rest is what stands behind it
  goes_on
      : (st : Step) {rest' : List ℕ} {text' : Transcript} → script rest ≡ before st (script rest') → most_of rest' < most_of rest
      → Adds text (step_line index (answered room st)) text' step_max
      → Going records first start rest' (stepped room st) text' (index + 1)
  goes_on st {rest'} {text'} here less a =
      let front = take text.length text.buffer.now in
      let line = step_line index (answered room st) in
      let tail = record_lines (index + 1) (stepped room st) (script rest') in
      record {
        lines =
            ap (λ (l : List ℕ). l ++ tail) a.contents
            ∙ append_assoc front line tail
            ∙ ap (λ (l : List ℕ). front ++ l) (sym (lines_more index room st (script rest')))
            ∙ ap (λ (s : Script). front ++ record_lines index room s) (sym here)
            ∙ g.lines;
        cells = sym (room_more room st (script rest')) ∙ ap (room_after room) (sym here) ∙ g.cells;
        far = omega (arith, g.far, less);
        few = omega (arith, g.few, a.few);
        size = a.size ∙ g.size;
        same_reference = a.same_reference ∙ g.same_reference;
      }

  -- a record that can't be read has a line, and is the last
  stops
      : (n : Refusal) {rest' : List ℕ} {text' : Transcript} → script rest ≡ ended (Unread n) → script rest' ≡ ended Between
      → most_of rest' < most_of rest → Adds text (step_line index (Err n)) text' step_max
      → Going records first start rest' room text' (index + 1)
  stops n {rest'} {text'} here last less a =
      let front = take text.length text.buffer.now in
      let line = step_line index (Err n) in
      record {
        lines =
            ap (λ (s : Script). take text'.length text'.buffer.now ++ record_lines (index + 1) room s) last
            ∙ ap (λ (l : List ℕ). take text'.length text'.buffer.now ++ l) (lines_none (index + 1) room)
            ∙ append-nil (take text'.length text'.buffer.now)
            ∙ a.contents
            ∙ ap (λ (l : List ℕ). front ++ l) (sym (lines_stop index room n))
            ∙ ap (λ (s : Script). front ++ record_lines index room s) (sym here)
            ∙ g.lines;
        cells =
            ap (room_after room) last
            ∙ room_none room Between
            ∙ sym (room_none room (Unread n))
            ∙ ap (room_after room) (sym here)
            ∙ g.cells;
        far = omega (arith, g.far, less);
        few = omega (arith, g.few, a.few);
        size = a.size ∙ g.size;
        same_reference = a.same_reference ∙ g.same_reference;
      }

  -- the same in the code's own terms: what the iterator gave, what it made of the room, and what was printed for it
  pub turn
      : {rest' room' : List ℕ} {text' : Transcript} {i j : ℕ} (r : Result Step Refusal) (a : Answered) → length records ≤ 2 * record_max
      → HasLeft start (step_max * record_max + line_max) → most_of rest' < most_of rest → NextRecord rest (Some r) rest' → i ≡ index
      → j ≡ index + 1 → number_of a < 2 ^ 32 → Takes room r a room' → Prints text (step_line i a) text'
      → Going records first start rest' room' text' j
  turn {rest'} {room'} {text'} {i} (Ok st) a short wide less next at on fits took p =
      let L : Answered → Type 0 = λ b. Adds text (step_line index b) text' step_max in
      let G : List ℕ → ℕ → Type 0 = λ c n. Going records first start rest' c text' n in
      subst (G room') (sym on)
      (subst (λ c. G c (index + 1)) (sym took.1) (goes_on st next less (subst L took.0 (line text' a at short wide fits p))))
  turn {rest'} {room'} {text'} {i} (Err n) a short wide less next at on fits took p =
      let L : Answered → Type 0 = λ b. Adds text (step_line index b) text' step_max in
      let G : List ℕ → ℕ → Type 0 = λ c n. Going records first start rest' c text' n in
      subst (G room') (sym on)
      (subst (λ c. G c (index + 1)) (sym took.1) (stops n next.0 next.1 less (subst L took.0 (line text' a at short wide fits p))))

  -- no record is left
  module _ (here : script rest ≡ ended Between) where
    pub all_lines
        : length records ≤ 2 * record_max → Adds start (record_lines 0 first (script records)) text (step_max * record_max)
    all_lines short =
        let front = take text.length text.buffer.now in
        record {
          contents =
              sym (append-nil front)
              ∙ ap (λ (l : List ℕ). front ++ l) (sym (lines_none index room))
              ∙ ap (λ (s : Script). front ++ record_lines index room s) (sym here)
              ∙ g.lines;
          few = omega (arith, g.far, g.few);
          size = g.size;
          same_reference = g.same_reference;
        }

    pub last_room : room ≡ room_after first (script records)
    last_room = sym (room_none room Between) ∙ ap (room_after room) (sym here) ∙ g.cells
