-- Lines put one after the other behind a text.
use Prim.Native.Nat.{ℕ, ◌+◌, ◌*◌, ◌≤◌}
use native.Mathlib.Omega.{arith}
use mathlib.Core.Path.{◌≡◌, refl, ◌∙◌, sym, ap}
use mathlib.Core.List.{List, [], ◌++◌, append_assoc, append-nil}
use lib.ListN.{length, take, drop, length-append, length-drop}
use lib.Seq.{take_at, length-take-le}
use Rattle.transcript.specs.Lines.{line_max, placed, Prints}
use Rattle.transcript.specs.declared.Transcript.{Transcript}
use Rattle.transcript.proofs.LineLaws.{with_room}
use Rattle.rehearsal.specs.Rehearsal.{line_of, server_lines}
use Rattle.rehearsal.specs.Buffer.{Holds, Adds, HasLeft}
use Rattle.rehearsal.proofs.TextLaws.{server_more}

-- a line that was printed stands behind what was there
pub adds_line
    : {old new : Transcript} {line : List ℕ} {most : ℕ} → Prints old line new → HasLeft old line_max → length line ≤ most
    → most ≤ line_max → Adds old line new most
unfolding placed
adds_line {old} {new} {line} {most} p h k m =
    let l : List ℕ = old.buffer.now in
    let at : ℕ = old.length in
    let put = with_room p.printed h in
    let rest : List ℕ = drop (at + length line) l in
    let front : length (take at l ++ line) ≡ at + length line =
    length-append (take at l) line ∙ ap (λ (n : ℕ). n + length line) (length-take-le at l (omega arith)) in
    let whole : length (take at l ++ line ++ rest) ≡ length l =
    omega (arith, length-append (take at l ++ line) rest, front, length-drop (at + length line) l) in
    record {
      contents =
          ap (λ (n : ℕ). take n new.buffer.now) put.0
          ∙ ap (take (at + length line)) put.1
          ∙ take_at (take at l ++ line) rest (at + length line) front;
      few = omega (arith, put.0);
      size = ap length put.1 ∙ whole;
      same_reference = p.same_reference;
    }

-- lines behind no text are the text
pub only_lines
    : {old new : Transcript} {lines : List ℕ} {most : ℕ} → Adds old lines new most → old.length ≡ 0 → most ≤ length old.buffer.now
    → Holds new.buffer.now new.length lines
only_lines {old} {new} {lines} {most} a none room =
    let within : new.length ≤ length new.buffer.now = omega (arith, a.few, a.size) in
    record {
      within = within;
      contents = a.contents ∙ ap (λ (n : ℕ). take n old.buffer.now ++ lines) none;
      whole = sym (length-take-le new.length new.buffer.now within);
    }

-- nothing added, and one text after another
pub adds_none : (t : Transcript) (most : ℕ) → Adds t [] t most
adds_none t most = record { contents = sym (append-nil (take t.length t.buffer.now)); few = omega arith; size = refl; same_reference = refl }

pub adds_then
    : {s t u : Transcript} {a b : List ℕ} {x y : ℕ} → Adds s a t x → Adds t b u y → Adds s (a ++ b) u (x + y)
adds_then {s} {t} {u} {a} {b} {x} {y} p q =
    record {
      contents = q.contents ∙ ap (λ (l : List ℕ). l ++ b) p.contents ∙ append_assoc (take s.length s.buffer.now) a b;
      few = omega (arith, p.few, q.few);
      size = q.size ∙ p.size;
      same_reference = q.same_reference ∙ p.same_reference;
    }

pub adds_more : {s t : Transcript} {a : List ℕ} {x y : ℕ} → x ≤ y → Adds s a t x → Adds s a t y
adds_more h a = record { contents = a.contents; few = omega (arith, a.few); size = a.size; same_reference = a.same_reference }

-- the lines of the servers, one after the other
pub no_servers : (room : List ℕ) (t : Transcript) → Adds t (server_lines room 0) t (line_max * 0)
unfolding server_lines
no_servers room t = adds_none t (line_max * 0)

pub more_servers
    : (room : List ℕ) (p : ℕ) {s t u : Transcript} → Adds s (server_lines room p) t (line_max * p) → Adds t (line_of room p) u line_max
    → Adds s (server_lines room (p + 1)) u (line_max * (p + 1))
more_servers room p {s} {t} {u} a b =
    let both = adds_then a b in
    record {
      contents = both.contents ∙ ap (λ (l : List ℕ). take s.length s.buffer.now ++ l) (sym (server_more room p));
      few = omega (arith, both.few);
      size = both.size;
      same_reference = both.same_reference;
    }
