-- What writing answers, and what it leaves in the buffer.
use Prim.Native.Nat.{ℕ, ◌<◌, ◌≤◌}
use mathlib.Core.Bool.{true, false, not}
use mathlib.Core.List.{List, ◌++◌}
use mathlib.Core.Path.{◌≡◌, refl, ◌∙◌, sym, ap, ap₂}
use borrow.Author.Tests.{lt-leb, le-leb}
use lib.ListN.{length, drop}
use lib.Seq.{sets}
use Rattle.std.specs.Prelude.{Ok, Err}
use Rattle.checks.specs.declared.Refusal.TheVariants.{WrongLength, Malformed}
use Rattle.checks.proofs.CheckLaws.{passes, fails}
use Rattle.state.specs.declared.Step.{Step}
use Rattle.record.specs.Fields.{mask_of, fields_of, step_of, values_of}
use Rattle.record.specs.Map.{map_of, record_length, unknown}
use Rattle.record.specs.Write.{Writing, write_checks, storing, stored, bytes_of, record_of_fields, record_of, fields_checks, writing_of, written_of, writing_from, written_from, written_by}
use Rattle.record.specs.declared.fields.Fields.{Fields}
use Rattle.record.proofs.Bytes.{stored_first}
use Rattle.record.proofs.MapLaws.{bytes-length}
use Rattle.record.proofs.Steps.{kind_known, number_known, step_fields, fields_record}

-- the answer decides what is left in the buffer
left : (f : Fields) (old : List ℕ) {w : Writing} → writing_from f old ≡ w
    → written_from f old ≡ written_by w (record_of (step_of f)) old
unfolding written_from
left f old = ap (λ (w : Writing). written_by w (record_of (step_of f)) old)

-- an unknown kind is refused, and changes no byte
pub unknown_refused : (f : Fields) (old : List ℕ) → unknown f.kind ≡ true → writing_from f old ≡ Err Malformed
unfolding writing_from fields_checks
unknown_refused f old h = fails _ Malformed _ (ap not h)

pub unknown_left : (f : Fields) (old : List ℕ) → unknown f.kind ≡ true → written_from f old ≡ old
unknown_left f old h = left f old (unknown_refused f old h)

-- the fields of a known kind are stored as their step is
known_written : (f : Fields) (old : List ℕ) → unknown f.kind ≡ false → writing_from f old ≡ storing (record_of_fields f) old
unfolding writing_from fields_checks storing
known_written f old h =
    passes _ Malformed _ (ap not h) ∙ ap (λ (bytes : List ℕ). storing bytes old) (fields_record f h)

-- the map of the fields of a kind
abbrev pub written_map : Fields → ℕ
written_map f = map_of (mask_of f.kind) (values_of f)

record_long : (f : Fields) → length (record_of_fields f) ≡ record_length (written_map f)
unfolding record_of_fields
record_long f = bytes-length (written_map f) f.kind (values_of f) refl

-- a buffer that is too short is left as it was
pub short_refused : (f : Fields) (old : List ℕ) → unknown f.kind ≡ false → length old < record_length (written_map f)
    → writing_from f old ≡ Err WrongLength
unfolding storing write_checks
short_refused f old known short =
    known_written f old known ∙ fails _ WrongLength _ (lt-leb _ _ (rw (record_long f) short))

pub short_left : (f : Fields) (old : List ℕ) → unknown f.kind ≡ false → length old < record_length (written_map f)
    → written_from f old ≡ old
short_left f old known short = left f old (short_refused f old known short)

-- in one that is long enough the record stands first
pub fitting_answer : (f : Fields) (old : List ℕ) → unknown f.kind ≡ false → record_length (written_map f) ≤ length old
    → writing_from f old ≡ Ok (record_length (written_map f))
unfolding storing write_checks
fitting_answer f old known fits =
    known_written f old known ∙ passes _ WrongLength _ (le-leb _ _ (rw (record_long f) fits)) ∙ ap Ok (record_long f)

pub fitting_stored : (f : Fields) (old : List ℕ) → unknown f.kind ≡ false → record_length (written_map f) ≤ length old
    → written_from f old ≡ sets old 0 (bytes_of (written_map f) f.kind (values_of f))
unfolding record_of_fields
fitting_stored f old known fits =
    left f old (fitting_answer f old known fits)
    ∙ ap₂ (λ (bytes : List ℕ) (used : ℕ). bytes ++ drop used old) (fields_record f known) (sym (record_long f))
    ∙ sym (stored_first (record_of_fields f) old (rw (record_long f) fits))

-- what `write_fields` needs
pub ruleset write_rules = (number_known, unknown_refused, unknown_left, short_refused, short_left, fitting_answer, fitting_stored)

-- the fields of a step are written as the step is
pub step_written : (step : Step) (old : List ℕ) → writing_from (fields_of step) old ≡ writing_of step old
unfolding writing_of record_of
step_written step old = known_written (fields_of step) old (kind_known step)

pub step_left : (step : Step) (old : List ℕ) → written_from (fields_of step) old ≡ written_of step old
unfolding written_of stored writing_of
step_left step old =
    left (fields_of step) old (step_written step old)
    ∙ ap (λ (s : Step). written_by (writing_of step old) (record_of s) old) (step_fields step)
