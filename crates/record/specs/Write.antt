-- What is written for a step, or for the fields of one (SPEC, "Step records").
use Rattle.std.specs.Prelude.{ℕ, ◌*◌, ◌/◌, ◌%◌, zero, suc, not, List, [], ◌∷◌, ◌++◌, leb, length, drop, Result}
use Rattle.checks.specs.declared.Refusal.{Refusal}
use Rattle.checks.specs.declared.Refusal.TheVariants.{WrongLength, Malformed}
use Rattle.state.specs.declared.Step.{Step}
use Rattle.checks.specs.Checks.{Checked, Must, Gives, outcome, left_by}
use Rattle.record.specs.Fields.{mask_of, fields_of, step_of, values_of}
use Rattle.record.specs.Map.{widths, map_of, unknown}
use Rattle.record.specs.declared.fields.Fields.{Fields}

-- a number in so many bytes, the low one first
unfoldable pub low_first : ℕ → ℕ → List ℕ
low_first zero v = []
low_first (suc w) v = v % 256 ∷ low_first w (v / 256)

-- the bytes of the fields whose bit stands
unfoldable pub field_bytes : List ℕ → ℕ → List ℕ → List ℕ
field_bytes [] map vs = []
field_bytes (w ∷ ws) map [] = []
field_bytes (w ∷ ws) map (v ∷ vs) = low_first (map % 2 * w) v ++ field_bytes ws (map / 2) vs

-- a record with this map, kind and fields
unfoldable pub bytes_of : ℕ → ℕ → List ℕ → List ℕ
bytes_of map kind vs = map ∷ kind ∷ field_bytes widths map vs

unfoldable pub record_of_fields : Fields → List ℕ
record_of_fields f = bytes_of (map_of (mask_of f.kind) (values_of f)) f.kind (values_of f)

-- the record of a step
unfoldable pub record_of : Step → List ℕ
record_of step = record_of_fields (fields_of step)

-- the one check of storing these bytes at the start of a buffer, and the length used
unfoldable pub write_checks : List ℕ → List ℕ → Checked ℕ
write_checks bytes buffer = Must (leb (length bytes) (length buffer)) WrongLength (Gives (length bytes))

-- what writing answers
abbrev pub Writing : Type 0
Writing = Result ℕ Refusal

unfoldable pub storing : List ℕ → List ℕ → Writing
storing bytes buffer = outcome (write_checks bytes buffer)

-- the bytes of a buffer after this answer: the record, and the later bytes as they were; a refusal changes none
abbrev pub written_by : Writing → List ℕ → List ℕ → List ℕ
written_by w bytes buffer = left_by (λ used. bytes ++ drop used buffer) buffer w

unfoldable pub stored : List ℕ → List ℕ → List ℕ
stored bytes buffer = written_by (storing bytes buffer) bytes buffer

-- a step written
unfoldable pub writing_of : Step → List ℕ → Writing
writing_of step buffer = storing (record_of step) buffer

unfoldable pub written_of : Step → List ℕ → List ℕ
written_of step buffer = stored (record_of step) buffer

-- the step of these fields written; a kind that is none of the ten is malformed, 15
unfoldable pub fields_checks : Fields → List ℕ → Checked ℕ
fields_checks f buffer = Must (not (unknown f.kind)) Malformed (write_checks (record_of (step_of f)) buffer)

unfoldable pub writing_from : Fields → List ℕ → Writing
writing_from f buffer = outcome (fields_checks f buffer)

unfoldable pub written_from : Fields → List ℕ → List ℕ
written_from f buffer = written_by (writing_from f buffer) (record_of (step_of f)) buffer
