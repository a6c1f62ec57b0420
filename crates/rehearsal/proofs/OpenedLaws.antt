-- What an answer of open says where the row is as long as the sizes ask.
use Prim.Native.Nat.{ℕ, ◌+◌, ◌*◌, ◌^◌, ◌≤◌, ◌<◌}
use native.Mathlib.Omega.{arith}
use mathlib.Core.Path.{◌≡◌, refl, ◌∙◌, sym, ap, ap₂, subst}
use mathlib.Core.Bool.{Bool, true, false, cond}
use mathlib.Core.List.{List, ◌++◌}
use lib.ListN.{length, get_or, drop}
use lib.Dec.{eqb}
use borrow.Author.Tests.{eq-eqb, lt-ltb, le-ltb}
use Rattle.lemmas.proofs.Tests.{by_test, and_intro}
use Rattle.command.specs.Command.{limits_fit, cabinet_limits}
use Rattle.state.specs.declared.Sizes.{Sizes}
use Rattle.layout.specs.Places.{sizes_fit, room_length, length_of}
use Rattle.layout.specs.Cells.{sizes_of}
use Rattle.layout.proofs.PlaceLaws.{fit_of}
use Rattle.std.specs.Prelude.{Ok, Err}
use Rattle.checks.specs.declared.Refusal.{Refusal}
use Rattle.checks.specs.Checks.{accepted}
use Rattle.checks.specs.Refusals.{refusal_number, refusal_in}
use Rattle.room.specs.Open.{opening, opened}
use Rattle.room.proofs.OpenLaws.{Opens, opens_1, opens_room, open_accepted}
use Rattle.transcript.specs.Lines.{line_max, open_line, Prints}
use Rattle.transcript.specs.declared.Transcript.{Transcript}
use Rattle.transcript.proofs.LineLaws.{open_max}
use Rattle.rehearsal.specs.Script.{Script, script}
use Rattle.rehearsal.specs.Rehearsal.{record_lines, room_after, server_lines, opened_room, run_text, input_max, rehearsal}
use Rattle.rehearsal.specs.Buffer.{record_max, step_max, text_max, HasLeft, Adds}
use Rattle.rehearsal.proofs.BufferLaws.{adds_line, adds_more}

-- one line, of a refusal
one_line
    : {start text : Transcript} (k : ℕ) → k < 2 ^ 32 → HasLeft start text_max → Prints start (open_line k) text
    → Adds start (open_line k) text text_max
one_line k fits room p = adds_more (omega arith) (adds_line p (omega arith) (open_max k fits) (omega arith))

module _ (z : Sizes) (row : List ℕ) where
  -- where the sizes fit and the row is exact, so is all that open asks: 01's limits are eight hoards
  pub opens_exact : sizes_fit z ≡ true → length row ≡ room_length z → Opens z cabinet_limits row (Ok tt) (opened_room z)
  opens_exact fits exact =
      opens_room z cabinet_limits row fits
      (and_intro (eqb (length row) (room_length z)) true (eq-eqb (length row) (room_length z) exact) refl)
      (unfold limits_fit in refl)

  pub opened_fits : opening z cabinet_limits row ≡ Ok tt → sizes_fit z ≡ true
  opened_fits e = (open_accepted z cabinet_limits row (ap accepted e)).fits

  -- the only refusal is that of the sizes
  refused_is : {n : Refusal} → length row ≡ length_of z → opening z cabinet_limits row ≡ Err n → (sizes_fit z ≡ false) × (1 ≡ refusal_number n)
  refused_is {n} exact e =
      by_test (sizes_fit z)
      (λ a.
      let b = (opens_exact a (exact ∙ ap (λ (x : Bool). cond x (room_length z) 0) a)).answers in
      let c : ◌≡◌ {A = ℕ} 0 1 = cc in
      absurd (omega arith))
      (λ a. (a, ap refusal_in ((opens_1 z cabinet_limits row a).answers ∙ e)))

  -- the text of a room that was opened, and of one that was not
  pub opened_text
      : {cells after : List ℕ} {start text : Transcript} (s : Script) → opening z cabinet_limits row ≡ Ok tt → cells ≡ opened z cabinet_limits row
      → after ≡ room_after cells s
      → Adds start (record_lines 0 cells s ++ server_lines after z.servers) text (step_max * record_max + line_max * z.servers)
      → Adds start (run_text z s) text text_max
  unfolding run_text
  opened_text {cells} {after} {start} {text} s e same then a =
      let fits = opened_fits e in
      let few = (fit_of z fits).servers in
      let is : cells ≡ opened_room z = same ∙ (open_accepted z cabinet_limits row (ap accepted e)).room in
      let whole = record_lines 0 (opened_room z) s ++ server_lines (room_after (opened_room z) s) z.servers in
      let text_is : record_lines 0 cells s ++ server_lines after z.servers ≡ run_text z s =
      ap (λ (r : List ℕ). record_lines 0 cells s ++ server_lines r z.servers) then
      ∙ ap (λ (r : List ℕ). record_lines 0 r s ++ server_lines (room_after r s) z.servers) is
      ∙ sym (ap (λ (b : Bool). cond b whole (open_line 1)) fits) in
      adds_more (omega (arith, few)) (subst (λ (l : List ℕ). Adds start l text (step_max * record_max + line_max * z.servers)) text_is a)

  pub refused_text
      : {start text : Transcript} {n : Refusal} {k : ℕ} (s : Script) → length row ≡ length_of z → opening z cabinet_limits row ≡ Err n
      → HasLeft start text_max → k ≡ refusal_number n → Prints start (open_line k) text → Adds start (run_text z s) text text_max
  unfolding run_text
  refused_text {start} {text} {n} {k} s exact e room told p =
      let is = refused_is exact e in
      let one : 1 ≡ k = is.1 ∙ sym told in
      let whole = record_lines 0 (opened_room z) s ++ server_lines (room_after (opened_room z) s) z.servers in
      let text_is : open_line k ≡ run_text z s =
      ap open_line (sym one) ∙ sym (ap (λ (b : Bool). cond b whole (open_line 1)) is.0) in
      subst (λ (l : List ℕ). Adds start l text text_max) text_is (one_line k (omega arith) room p)

-- the text of an input that is too short, too long, or neither
module _ (input : List ℕ) where
  pub too_short : length input < 3 → rehearsal input ≡ open_line 14
  unfolding rehearsal
  too_short h = simp (lt-ltb (length input) 3 h)

  pub too_long : input_max < length input → rehearsal input ≡ open_line 2
  unfolding rehearsal
  too_long k = simp (le-ltb (length input) 3 (omega arith), lt-ltb input_max (length input) k)

  just_right
      : 3 ≤ length input → length input ≤ input_max → rehearsal input ≡ run_text (sizes_of input) (script (drop 3 input))
  unfolding rehearsal
  just_right h k = simp (le-ltb (length input) 3 h, le-ltb input_max (length input) k)

  -- the same of what the code puts behind a text
  module _ {start text : Transcript} where
    pub long_told
        : {k : ℕ} → input_max < length input → HasLeft start text_max → k ≡ 2 → Prints start (open_line k) text
        → Adds start (rehearsal input) text text_max
    long_told {k} h room is p =
        subst (λ (l : List ℕ). Adds start l text text_max) (ap open_line is ∙ sym (too_long h)) (one_line k (omega arith) room p)

    pub short_told
        : {k : ℕ} → length input < 3 → HasLeft start text_max → k ≡ 14 → Prints start (open_line k) text
        → Adds start (rehearsal input) text text_max
    short_told {k} h room is p =
        subst (λ (l : List ℕ). Adds start l text text_max) (ap open_line is ∙ sym (too_short h)) (one_line k (omega arith) room p)

    -- and of the parts that it takes the input apart into
    pub taken_apart
        : (z : Sizes) {records : List ℕ} → z.servers ≡ get_or input 0 0 → z.drives ≡ get_or input 1 0 → z.slots ≡ get_or input 2 0
        → records ≡ drop 3 input → 3 ≤ length input → length input ≤ input_max → Adds start (run_text z (script records)) text text_max
        → Adds start (rehearsal input) text text_max
    taken_apart z a b d r h k ran =
        let z_is : z ≡ sizes_of input = λ i. record { servers = a i; drives = b i; slots = d i } in
        subst (λ (l : List ℕ). Adds start l text text_max)
        (ap₂ (λ (y : Sizes) (l : List ℕ). run_text y (script l)) z_is r ∙ sym (just_right h k)) ran
