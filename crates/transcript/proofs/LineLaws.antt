-- What room for a line means, a line put part by part behind a text, and that no line is longer than line_max.
use Prim.Native.Nat.{ℕ, ◌+◌, ◌-◌, ◌^◌, ◌≤◌, ◌<◌}
use native.Mathlib.Omega.{arith}
use mathlib.Core.Path.{◌≡◌, ◌∙◌, sym, ap, subst}
use mathlib.Core.Bool.{Bool, true, cond}
use mathlib.Core.List.{List, ◌++◌, append_assoc}
use lib.ListN.{length, take, drop, length-append, take-append-drop}
use lib.Dec.{leb}
use lib.Seq.{drop-drop}
use borrow.Rule.Slice.PartMut.{put_mid}
use Rattle.std.proofs.lemmas.Grind.{common_steps}
use Rattle.std.proofs.lemmas.Slice.{overwrites}
use borrow.Author.Tests.{le-leb, leb-true}
use Rattle.lemmas.proofs.Tests.{same_test}
use Rattle.std.specs.Prelude.{Ok, Err}
use Rattle.checks.specs.declared.Refusal.{Refusal}
use Rattle.checks.specs.Refusals.{refusal_number}
use Rattle.state.specs.declared.Answer.TheVariants.{Done, Outbid, Chosen, Committed}
use Rattle.state.specs.Answers.{Answered}
use Rattle.transcript.specs.Lines.{word_of, step_line, refused_line, server_line, open_line, line_max, placed, has_room, Printed, Prints, Puts}
use Rattle.transcript.specs.declared.Transcript.{Transcript}
use Rattle.transcript.proofs.DigitLaws.{digits_ten}

-- the test for room, as the code makes it
pub room_left : (size at : ℕ) → leb line_max (size - at) ≡ has_room size at
unfolding has_room
room_left size at =
    same_test (leb line_max (size - at)) (leb (at + line_max) size)
    (λ e. le-leb (at + line_max) size (omega (arith, leb-true line_max (size - at) e)))
    (λ e. le-leb line_max (size - at) (omega (arith, leb-true (at + line_max) size e)))

-- what that test says: room for the longest line
pub room_for : (size at : ℕ) → has_room size at ≡ true → at + line_max ≤ size
unfolding has_room
room_for size at e = leb-true (at + line_max) size e

-- a line, or a part of one, copied to its place
pub placed_copy : (l line : List ℕ) (at : ℕ) → put_mid at (at + length line - at) l line ≡ placed l at line
unfolding placed
placed_copy l line at =
    let size : at + length line - at ≡ length line = omega arith in
    ap (λ (k : ℕ). put_mid at k l line) size
    ∙ ap (λ (r : List ℕ). take at l ++ (line ++ r)) (drop-drop (length line) at l)
    ∙ sym (append_assoc (take at l) line (drop (at + length line) l))

-- a line that stands in its place, where there is room, is printed
stands
    : {l then line : List ℕ} {at next : ℕ} → has_room (length l) at ≡ true → next ≡ at + length line → then ≡ placed l at line
    → Printed l at line then next
stands {l} {then} {line} {at} {next} room p q =
    record {
      place = p ∙ sym (ap (λ (b : Bool). cond b (at + length line) at) room);
      contents = q ∙ sym (ap (λ (b : Bool). cond b (placed l at line) l) room);
    }

pub printed
    : {l m line : List ℕ} {at k : ℕ} → has_room (length l) at ≡ true → m ≡ line → k ≡ length line
    → Printed l at line (put_mid at (at + k - at) l m) (at + k)
printed {l} {m} {line} {at} {k} room e size =
    stands room (ap (λ (n : ℕ). at + n) size)
    (ap (λ (n : ℕ). put_mid at (at + n - at) l m) size ∙ ap (put_mid at (at + length line - at) l) e ∙ placed_copy l line at)

-- a text that ends at its place's end, behind what stood there before
pub written
    : (l m text : List ℕ) (at start end : ℕ) → start + length text ≡ end → end ≡ at + length text → drop start m ≡ text ++ drop end l
    → take start m ≡ take start l → m ≡ placed l at text
unfolding placed
written l m text at start end p q e before = grind (arith, take-append-drop, append_assoc)

pub length-placed : (l text : List ℕ) (at : ℕ) → at + length text ≤ length l → length (placed l at text) ≡ length l
unfolding placed
length-placed l text at h = grind (arith, common_steps)

-- a text placed behind another is both texts placed
pub placed_more : (l s t : List ℕ) (at : ℕ) → at ≤ length l → placed (placed l at s) (at + length s) t ≡ placed l at (s ++ t)
unfolding placed
placed_more l s t at h = grind (arith, overwrites, append_assoc)

-- a text that stands in its place is put
pub puts
    : {a b : Transcript} {text : List ℕ} {k : ℕ} → a.length + length text ≤ length a.buffer.now → length text ≤ k
    → b.length ≡ a.length + length text → b.buffer.now ≡ placed a.buffer.now a.length text
    → b.buffer.ghost_name ≡ a.buffer.ghost_name → Puts a text b k
puts {a} {b} {text} {k} room most place contents same =
    let size : length b.buffer.now ≡ length a.buffer.now = ap length contents ∙ length-placed a.buffer.now text a.length room in
    record {
      place = place;
      contents = contents;
      upper_bound = most;
      fits = omega arith;
      same_size = size;
      same_reference = same;
    }

-- a text put behind another is both texts put
pub both
    : {a b c : Transcript} {s t : List ℕ} {j k : ℕ} → Puts a s b j → Puts b t c k → Puts a (s ++ t) c (j + k)
both {a} {b} {c} {s} {t} {j} {k} p q =
    record {
      place = omega (arith, p.place, q.place, length-append s t);
      contents = grind (arith, placed_more);
      upper_bound = omega (arith, p.upper_bound, q.upper_bound, length-append s t);
      fits = q.fits;
      same_size = q.same_size ∙ p.same_size;
      same_reference = q.same_reference ∙ p.same_reference;
    }

-- a number with its label, put behind another text
pub and_field
    : {a b c : Transcript} {s : List ℕ} {j k : ℕ} (label number : List ℕ) → Puts a s b j → Puts b (label ++ number) c k
    → Puts a (s ++ label ++ number) c (j + k)
and_field {a} {b} {c} {s} {j} {k} label number p q =
    subst (λ (text : List ℕ). Puts a text c (j + k)) (sym (append_assoc s label number)) (both p q)

-- a line put where there is room is printed
pub prints : {a b : Transcript} {line : List ℕ} {k : ℕ} → has_room (length a.buffer.now) a.length ≡ true → Puts a line b k → Prints a line b
prints room p = record { printed = stands room p.place p.contents; same_reference = p.same_reference }

-- what a caller learns: with room the line stands in the buffer
pub with_room
    : {l m : List ℕ} {at next : ℕ} {line : List ℕ} → Printed l at line m next → at + line_max ≤ length l
    → (next ≡ at + length line) × (m ≡ placed l at line)
unfolding has_room
with_room {l} {m} {at} {next} {line} p h =
    let room : leb (at + line_max) (length l) ≡ true = le-leb (at + line_max) (length l) h in
    (p.place ∙ ap (λ (b : Bool). cond b (at + length line) at) room, p.contents ∙ ap (λ (b : Bool). cond b (placed l at line) l) room)

-- no line is longer than line_max
pub word_length : (a : Answered) → length (word_of a) ≤ 9
word_length (Ok Done) = omega arith
word_length (Ok (Outbid b)) = omega arith
word_length (Ok (Chosen c)) = omega arith
word_length (Ok (Committed c)) = omega arith
word_length (Err n) = omega arith

pub server_max
    : (server taken skipped : ℕ) → server < 2 ^ 32 → taken < 2 ^ 32 → skipped < 2 ^ 32
    → length (server_line server taken skipped) ≤ line_max
unfolding server_line
server_max server taken skipped h k j =
    simp length-append (omega (arith, digits_ten server h, digits_ten taken k, digits_ten skipped j))

pub open_max : (number : ℕ) → number < 2 ^ 32 → length (open_line number) ≤ line_max
unfolding open_line
open_max number h = simp length-append (omega (arith, digits_ten number h))

-- the line of a refused step is that of its refusal's number
pub step_refused : (index : ℕ) (refusal : Refusal) → step_line index (Err refusal) ≡ refused_line index (refusal_number refusal)
unfolding step_line refused_line
step_refused index refusal = simp append_assoc
