-- What is read from bytes, as a step or as its fields (SPEC, "Step records").
use Rattle.std.specs.Prelude.{ℕ, ◌+◌, ◌*◌, ◌/◌, ◌%◌, ◌<◌, not, List, [], ◌∷◌, leb, ltb, length, get_or, take, drop, Result}
use Rattle.checks.specs.declared.Refusal.{Refusal}
use Rattle.checks.specs.declared.Refusal.TheVariants.{CutShort, Malformed}
use Rattle.checks.specs.Checks.{Checked, Must, Gives, outcome, mapped}
use Rattle.state.specs.declared.Step.{Step}
use Rattle.record.specs.Fields.{fields_of, step_of, with_values}
use Rattle.record.specs.Map.{widths, record_length, malformed, zero_among}
use Rattle.record.specs.declared.fields.Fields.{Fields}

-- every element is below 256 (past the end get_or gives 0)
abbrev pub Bytes : List ℕ → Type 0
Bytes bytes = (i : ℕ) → get_or bytes i 0 < 256

-- the number that bytes stand for, the low one first
unfoldable pub low_number : List ℕ → ℕ
low_number [] = 0
low_number (b ∷ bs) = b + 256 * low_number bs

-- the fields from a place on, by a map: each stands where the one before it ends, and one whose bit does not stand is 0
unfoldable pub values_at : List ℕ → ℕ → List ℕ → ℕ → List ℕ
values_at [] map bytes at = []
values_at (w ∷ ws) map bytes at =
    low_number (take (map % 2 * w) (drop at bytes)) ∷ values_at ws (map / 2) bytes (at + map % 2 * w)

-- the checks of reading, in their order, and the step with the length used; what stands beyond is not looked at
unfoldable pub read_checks : List ℕ → Checked (Step × ℕ)
read_checks bytes =
    let map = get_or bytes 0 0 in
    let kind = get_or bytes 1 0 in
    let values = values_at widths map bytes 2 in
    Must (leb 1 (length bytes)) CutShort
    (Must (ltb map 32) Malformed
    (Must (leb 2 (length bytes)) CutShort
    (Must (not (malformed map kind)) Malformed
    (Must (leb (record_length map) (length bytes)) CutShort
    (Must (not (zero_among map values)) Malformed
    (Gives (step_of (with_values kind values), record_length map)))))))

-- what reading answers
abbrev pub Reading : Type 0
Reading = Result (Step × ℕ) Refusal

unfoldable pub reading_of : List ℕ → Reading
reading_of bytes = outcome (read_checks bytes)

-- the fields of the step that was read, with the length used
abbrev pub Found : Type 0
Found = Result (Fields × ℕ) Refusal

abbrev pub found_in : Reading → Found
found_in = mapped (λ r. (fields_of r.0, r.1))

unfoldable pub found_of : List ℕ → Found
found_of bytes = found_in (reading_of bytes)
