-- What holds where a step was read, and which numbers the answers carry.
use Prim.Native.Nat.{ℕ, ◌<◌, ◌≤◌}
use mathlib.Core.Bool.{false, not, ◌||◌}
use mathlib.Core.List.{List}
use mathlib.Core.Logic.{◌⊎◌, inl, inr}
use mathlib.Core.Path.{◌≡◌, refl, ◌∙◌, sym, ap, ap₂}
use native.Mathlib.Omega.{arith}
use borrow.Author.Tests.{le-leb, lt-ltb, ltb-true, leb-true, not-true}
use lib.ListN.{length, get_or}
use Rattle.state.specs.declared.Step.{Step}
use Rattle.std.specs.Prelude.{Ok, Err}
use Rattle.checks.specs.declared.Refusal.{Refusal}
use Rattle.checks.specs.declared.Refusal.TheVariants.{CutShort, Malformed}
use Rattle.checks.specs.Refusals.{refusal_in, refusals_of, lowest}
use Rattle.checks.proofs.CheckLaws.{passes, must_cases}
use Rattle.checks.proofs.LowestLaws.{first_applies}
use Rattle.record.specs.Fields.{mask_of, fields_of, step_of, with_values}
use Rattle.record.specs.Map.{widths, record_length, unknown, malformed, asks_more, zero_among}
use Rattle.record.specs.Read.{Reading, read_checks, reading_of, values_at, found_in, found_of}
use Rattle.record.specs.declared.fields.Fields.{Fields}
use Rattle.checks.specs.Checks.{mapped}
use Rattle.lemmas.proofs.Tests.{neither_left, neither_right}
use Rattle.record.proofs.Marks.{asked-length, values_mark, values_keep}
use Rattle.record.proofs.Steps.{kind_length, step_fields, fields_step}

-- what the checks say where a step was read
pub record Accepted (bytes : List ℕ) (step : Step) (used : ℕ) : Type 0 where
  pub small : get_or bytes 0 0 < 32
  pub two : 2 ≤ length bytes
  pub known : unknown (get_or bytes 1 0) ≡ false
  pub asks : asks_more widths (get_or bytes 0 0) (mask_of (get_or bytes 1 0)) ≡ false
  pub enough : record_length (get_or bytes 0 0) ≤ length bytes
  pub none_zero : zero_among (get_or bytes 0 0) (values_at widths (get_or bytes 0 0) bytes 2) ≡ false
  pub step_is : step_of (with_values (get_or bytes 1 0) (values_at widths (get_or bytes 0 0) bytes 2)) ≡ step
  pub used_is : record_length (get_or bytes 0 0) ≡ used

pub accepted : (bytes : List ℕ) {step : Step} {used : ℕ}
    → reading_of bytes ≡ Ok (step, used) → Accepted bytes step used
unfolding reading_of read_checks malformed
accepted bytes {step} {used} =
    let m = get_or bytes 0 0 in
    let kind = get_or bytes 1 0 in
    let P : Reading → Type 0 = λ a. a ≡ Ok (step, used) → Accepted bytes step used in
    let stop : (n : Refusal) → P (Err n) = λ n e. let none : ◌≡◌ {A = ℕ} 0 1 = cc in absurd (omega arith) in
    must_cases P _ CutShort _ (stop CutShort) (λ some.
    must_cases P _ Malformed _ (stop Malformed) (λ small.
    must_cases P _ CutShort _ (stop CutShort) (λ two.
    must_cases P _ Malformed _ (stop Malformed) (λ fair.
    must_cases P _ CutShort _ (stop CutShort) (λ enough.
    must_cases P _ Malformed _ (stop Malformed) (λ none_zero read.
    let same : ◌≡◌ {A = Step × ℕ} (step_of (with_values kind (values_at widths m bytes 2)), record_length m) (step, used) = cc in
    record {
      small = ltb-true m 32 small;
      two = leb-true 2 (length bytes) two;
      known = neither_left (unknown kind) (asks_more widths m (mask_of kind)) (not-true _ fair);
      asks = neither_right (unknown kind) (asks_more widths m (mask_of kind)) (not-true _ fair);
      enough = leb-true (record_length m) (length bytes) enough;
      none_zero = not-true _ none_zero;
      step_is = ap (λ (r : Step × ℕ). r.0) same;
      used_is = ap (λ (r : Step × ℕ). r.1) same;
    }))))))

-- the fields of the step that was read are those in the bytes
pub fields_read_lem : (bytes : List ℕ) {step : Step} {used : ℕ} → reading_of bytes ≡ Ok (step, used)
    → fields_of step ≡ with_values (get_or bytes 1 0) (values_at widths (get_or bytes 0 0) bytes 2)
unfolding values_at
fields_read_lem bytes read =
    let h = accepted bytes read in
    let m = get_or bytes 0 0 in
    let kind = get_or bytes 1 0 in
    let vs = values_at widths m bytes 2 in
    let keeps = values_keep widths vs m (mask_of kind) refl (values_mark widths m bytes 2 h.none_zero) h.asks in
    ap fields_of (sym h.step_is) ∙ fields_step (with_values kind vs) h.known keeps

-- where every check is passed, the step of the fields in the bytes is read, and those fields are found
pub all_read : (bytes : List ℕ) → get_or bytes 0 0 < 32 → 2 ≤ length bytes
    → unknown (get_or bytes 1 0) ≡ false → asks_more widths (get_or bytes 0 0) (mask_of (get_or bytes 1 0)) ≡ false
    → record_length (get_or bytes 0 0) ≤ length bytes
    → zero_among (get_or bytes 0 0) (values_at widths (get_or bytes 0 0) bytes 2) ≡ false
    → reading_of bytes
    ≡ Ok (step_of (with_values (get_or bytes 1 0) (values_at widths (get_or bytes 0 0) bytes 2)), record_length (get_or bytes 0 0))
unfolding reading_of read_checks malformed
all_read bytes small two known asks enough none =
    passes _ CutShort _ (le-leb 1 (length bytes) (omega arith))
    ∙ passes _ Malformed _ (lt-ltb (get_or bytes 0 0) 32 small)
    ∙ passes _ CutShort _ (le-leb 2 (length bytes) two)
    ∙ passes _ Malformed _ (ap not (ap₂ ◌||◌ known asks))
    ∙ passes _ CutShort _ (le-leb (record_length (get_or bytes 0 0)) (length bytes) enough)
    ∙ passes _ Malformed _ (ap not none)

pub all_found : (bytes : List ℕ) → get_or bytes 0 0 < 32 → 2 ≤ length bytes
    → unknown (get_or bytes 1 0) ≡ false → asks_more widths (get_or bytes 0 0) (mask_of (get_or bytes 1 0)) ≡ false
    → record_length (get_or bytes 0 0) ≤ length bytes
    → zero_among (get_or bytes 0 0) (values_at widths (get_or bytes 0 0) bytes 2) ≡ false
    → found_of bytes
    ≡ Ok (with_values (get_or bytes 1 0) (values_at widths (get_or bytes 0 0) bytes 2), record_length (get_or bytes 0 0))
unfolding found_of
all_found bytes small two known asks enough none =
    let read = all_read bytes small two known asks enough none in
    ap found_in read ∙ ap (λ (x : Fields). Ok (x, record_length (get_or bytes 0 0))) (fields_read_lem bytes read)

-- what is found is refused as reading is, and its step is the one that is read
found_step : (r : Reading) → mapped (λ f. (step_of f.0, f.1)) (found_in r) ≡ r
found_step (Ok (step, used)) = ap (λ (s : Step). Ok (s, used)) (step_fields step)
found_step (Err n) = refl

pub found_refused : (bytes : List ℕ) (n : Refusal) → Err n ≡ found_of bytes → Err n ≡ reading_of bytes
unfolding found_of
found_refused bytes n e = ap (mapped (λ f. (step_of f.0, f.1))) e ∙ found_step (reading_of bytes)

pub found_read : (bytes : List ℕ) (f : Fields) (used : ℕ) → Ok (f, used) ≡ found_of bytes → Ok (step_of f, used) ≡ reading_of bytes
unfolding found_of
found_read bytes f used e = ap (mapped (λ x. (step_of x.0, x.1))) e ∙ found_step (reading_of bytes)

-- The length used: at least the map and the kind, at most eight bytes, and no more than there are.
pub record Used (bytes : List ℕ) (used : ℕ) : Type 0 where
  pub least : 2 ≤ used
  pub most : used ≤ 8
  pub within : used ≤ length bytes

pub used_bounds : (bytes : List ℕ) {step : Step} {used : ℕ} → reading_of bytes ≡ Ok (step, used) → Used bytes used
unfolding record_length
used_bounds bytes {step} {used} read =
    let h = accepted bytes read in
    let kind = get_or bytes 1 0 in
    let asked = asked-length widths (get_or bytes 0 0) (mask_of kind) h.asks in
    let longest = kind_length kind h.known in
    let is = h.used_is in
    let enough = h.enough in
    record { least = omega arith; most = omega arith; within = omega arith }

-- reading answers the number of the first check that is not passed, and 0 where all are
pub read_first : (bytes : List ℕ) → refusal_in (reading_of bytes) ≡ lowest (refusals_of (read_checks bytes))
unfolding reading_of read_checks
read_first bytes = first_applies (read_checks bytes)

-- a number that reading can give: 0 with a step, 14 or 15
abbrev pub ReadNumber : ℕ → Type 0
ReadNumber n = (n ≡ 0) ⊎ ((n ≡ 14) ⊎ (n ≡ 15))

pub read_number : (bytes : List ℕ) → ReadNumber (refusal_in (reading_of bytes))
unfolding reading_of read_checks
read_number bytes =
    let P : Reading → Type 0 = λ a. ReadNumber (refusal_in a) in
    let cut_short : ReadNumber 14 = inr (inl refl) in
    let bad : ReadNumber 15 = inr (inr refl) in
    must_cases P _ CutShort _ cut_short (λ some.
    must_cases P _ Malformed _ bad (λ small.
    must_cases P _ CutShort _ cut_short (λ two.
    must_cases P _ Malformed _ bad (λ fair.
    must_cases P _ CutShort _ cut_short (λ enough.
    must_cases P _ Malformed _ bad (λ none_zero. inl refl))))))
