-- What is written reads back, what is read is written again, and no two steps share a record (SPEC, "Step records").
use Prim.Native.Nat.{ℕ, suc, ◌+◌, ◌<◌, ◌≤◌}
use mathlib.Core.Bool.{false}
use mathlib.Core.List.{List, [], ◌∷◌, ◌++◌, append-nil}
use mathlib.Core.Path.{◌≡◌, refl, ◌∙◌, sym, ap, ap₂, subst}
use native.Mathlib.Omega.{arith}
use lib.ListN.{length, get_or, take, drop, length-append}
use Rattle.state.specs.declared.Step.{Step}
use Rattle.std.specs.Prelude.{Ok, Err}
use Rattle.checks.specs.declared.Refusal.TheVariants.{WrongLength}
use Rattle.checks.specs.Refusals.{refusal_in}
use Rattle.checks.proofs.CheckLaws.{must_cases}
use Rattle.record.specs.Answers.{Reads, write_length}
use Rattle.record.specs.Fields.{mask_of, fields_of, step_of, values_of, with_values, StepFits}
use Rattle.record.specs.Map.{widths, map_of, record_length, fields_length, unknown, zero_among}
use Rattle.record.specs.Read.{Reading, reading_of, values_at, Bytes}
use Rattle.record.specs.Write.{Writing, record_of, record_of_fields, bytes_of, field_bytes, write_checks, storing, writing_of, written_by, stored, written_of}
use Rattle.record.specs.declared.fields.Fields.{Fields}
use Rattle.record.proofs.Accepted.{accepted, all_read, fields_read_lem, Used, used_bounds}
use Rattle.record.proofs.MapLaws.{map_small, fields-length, bytes-length}
use Rattle.record.proofs.Marks.{Keeps, Fit, map_marks, asks_no_more, none_zero, values_back, values_mark, values_fit_lem, map_again, bytes_again, asked-length}
use Rattle.record.proofs.Steps.{step_fields, kind_known, step_keeps, step_fit, kind_length}

-- fields that fit, of a known kind, with 0 in every field that the kind lacks
read_fields : (f : Fields) (rest : List ℕ)
    → Fit widths (values_of f) → Keeps (mask_of f.kind) (values_of f) → unknown f.kind ≡ false
    → reading_of (record_of_fields f ++ rest) ≡ Ok (step_of f, length (record_of_fields f))
unfolding record_of_fields bytes_of record_length
read_fields f rest fit keeps known =
    let vs = values_of f in
    let mask = mask_of f.kind in
    let m = map_of mask vs in
    let s = m ∷ f.kind ∷ (field_bytes widths m vs ++ rest) in
    let marks = map_marks mask vs keeps in
    let values : values_at widths m s 2 ≡ vs = values_back widths vs m s 2 rest refl fit marks refl in
    let long = length-append (field_bytes widths m vs) rest in
    let asked = fields-length widths vs m refl in
    let enough : record_length m ≤ length s = omega arith in
    let none = ap (zero_among m) values ∙ none_zero m vs marks in
    all_read s (map_small mask vs) (omega arith) known (asks_no_more widths vs mask refl) enough none
    ∙ ap₂ (λ (x : Step) (y : ℕ). Ok (x, y)) (ap (λ (l : List ℕ). step_of (with_values f.kind l)) values) (omega arith)

back : (step : Step) (rest : List ℕ) → StepFits step
    → reading_of (record_of step ++ rest) ≡ Ok (step, length (record_of step))
unfolding record_of
back step rest fits =
    read_fields (fields_of step) rest (step_fit fits) (step_keeps step) (kind_known step)
    ∙ ap (λ (st : Step). Ok (st, length (record_of_fields (fields_of step)))) (step_fields step)

-- an answer as its case, and by what it says
is_reads : {r : Reading} {step : Step} {used : ℕ} → r ≡ Ok (step, used) → Reads r step used
is_reads {step = step} {used} e = subst (λ (x : Reading). Reads x step used) (sym e) (refl, refl)

reads_is : (r : Reading) {step : Step} {used : ℕ} → Reads r step used → r ≡ Ok (step, used)
reads_is (Ok (step, used)) h = ap₂ (λ (x : Step) (y : ℕ). Ok (x, y)) h.0 h.1
reads_is (Err n) h = absurd h

-- What is written reads back as the step with the length used, whatever bytes follow.
pub read_back : (step : Step) (rest : List ℕ) → StepFits step
    → Reads (reading_of (record_of step ++ rest)) step (length (record_of step))
read_back step rest fits = is_reads (back step rest fits)

suc_two : (n : ℕ) → suc (suc n) ≡ 2 + n
suc_two n = omega arith

-- What a record that is read says: the step's numbers fit, and the bytes used are the step's record.
pub record Rewritten (bytes : List ℕ) (step : Step) (used : ℕ) : Type 0 where
  pub fits : StepFits step
  pub length : Used bytes used
  pub same : record_of step ≡ take used bytes

-- A record that is read is written again as the same bytes.
pub written_again : (bytes : List ℕ) {step : Step} {used : ℕ} → Bytes bytes
    → Reads (reading_of bytes) step used → Rewritten bytes step used
unfolding record_of record_of_fields bytes_of record_length values_at
written_again bytes {step} {used} b answer =
    let read = reads_is (reading_of bytes) answer in
    let h = accepted bytes read in
    let m = get_or bytes 0 0 in
    let kind = get_or bytes 1 0 in
    let vs = values_at widths m bytes 2 in
    let marks = values_mark widths m bytes 2 h.none_zero in
    let fit = values_fit_lem widths m bytes 2 b in
    let same-fields : fields_of step ≡ with_values kind vs = fields_read_lem bytes read in
    let same_map : map_of (mask_of kind) vs ≡ m = map_again widths vs m (mask_of kind) refl h.small marks h.asks in
    record {
      fits =
          record {
            server = subst (λ (f : Fields). f.server < 256) (sym same-fields) fit.0;
            slot = subst (λ (f : Fields). f.slot < 256) (sym same-fields) fit.1.0;
            drive = subst (λ (f : Fields). f.drive < 256) (sym same-fields) fit.1.1.0;
            other = subst (λ (f : Fields). f.other < 256) (sym same-fields) fit.1.1.1.0;
            number = subst (λ (f : Fields). f.number < 4294967296) (sym same-fields) fit.1.1.1.1.0;
          };
      length = used_bounds bytes read;
      same =
          ap record_of_fields same-fields
          ∙ ap (λ (n : ℕ). bytes_of n kind vs) same_map
          ∙ ap (λ (l : List ℕ). m ∷ kind ∷ l) (bytes_again widths m bytes 2 b h.enough)
          ∙ front bytes (fields_length widths m) h.two
          ∙ ap (λ (n : ℕ). take n bytes) h.used_is;
    }
  where
    front : (s : List ℕ) (n : ℕ) → 2 ≤ length s → get_or s 0 0 ∷ get_or s 1 0 ∷ take n (drop 2 s) ≡ take (2 + n) s
    front [] n h = absurd (omega arith)
    front (x ∷ []) n h = absurd (omega arith)
    front (x ∷ y ∷ s) n h = ap (λ (k : ℕ). take k (x ∷ y ∷ s)) (suc_two n)

-- Two different steps never have the same record.
pub one_step : (a b : Step) → StepFits a → StepFits b → record_of a ≡ record_of b → a ≡ b
one_step a b fa fb same =
    let ra = back a [] fa in
    let rb = back b [] fb in
    let read : ◌≡◌ {A = Step × ℕ} (a, length (record_of a)) (b, length (record_of b)) = cc in
    ap (λ (r : Step × ℕ). r.0) read

-- No record is a proper beginning of another.
pub no_beginning : (a b : Step) (more : List ℕ) → StepFits a → StepFits b → record_of b ≡ record_of a ++ more → more ≡ []
no_beginning a b more fa fb e =
    let ra = back a more fa in
    let rb = back b [] fb in
    let nil = append-nil (record_of b) in
    let read : ◌≡◌ {A = Step × ℕ} (a, length (record_of a)) (b, length (record_of b)) = cc in
    let same : length (record_of a) ≡ length (record_of b) = ap (λ (r : Step × ℕ). r.1) read in
    let long = length-append (record_of a) more in
    empty more (omega (arith, ap length e))
  where
    empty : (l : List ℕ) → length l ≡ 0 → l ≡ []
    empty [] h = refl
    empty (x ∷ l) h = absurd (omega arith)

-- What a call of write leaves, where it is not refused, reads back with the length that it answered.
pub write_then_read : (step : Step) (buffer : List ℕ) → StepFits step → refusal_in (writing_of step buffer) ≡ 0
    → Reads (reading_of (written_of step buffer)) step (write_length (writing_of step buffer))
unfolding storing write_checks writing_of stored written_of
write_then_read step buffer fits =
    let P : Writing → Type 0 =
    λ w. refusal_in w ≡ 0 → Reads (reading_of (written_by w (record_of step) buffer)) step (write_length w) in
    must_cases P _ WrongLength _
    (λ refused. absurd (omega arith))
    (λ long wrote. read_back step (drop (length (record_of step)) buffer) fits)

-- A record takes at most eight bytes.
pub record_most : (step : Step) → length (record_of step) ≤ 8
unfolding record_of record_of_fields record_length
record_most step =
    let f = fields_of step in
    let mask = mask_of f.kind in
    let m = map_of mask (values_of f) in
    let asked = asked-length widths m mask (asks_no_more widths (values_of f) mask refl) in
    omega (arith, bytes-length m f.kind (values_of f) refl, asked, kind_length f.kind (kind_known step))
