-- The calls of C that are not one call of the register: a step given by its record, the record of the next step, and the
-- fields of a record stored in cells.
use Rattle.std.specs.Prelude.{ℕ, List, ◌∷◌, eqb, length, Option, Some, None, Result, Ok, Err}
use Rattle.checks.specs.declared.Refusal.{Refusal}
use Rattle.checks.specs.declared.Refusal.TheVariants.{WrongLength}
use Rattle.checks.specs.Checks.{Must, outcome, left_by}
use Rattle.state.specs.declared.Step.{Step}
use Rattle.state.specs.Answers.{Answered}
use Rattle.record.specs.declared.fields.Fields.{Fields}
use Rattle.record.specs.Fields.{fields_of, values_of}
use Rattle.record.specs.Read.{Reading, read_checks}
use Rattle.record.specs.Write.{Writing, writing_of, written_of}
use Rattle.room.specs.Step.{answered, stepped}

-- a record that cannot be read is refused as reading refuses it
abbrev pub record_answered : List ℕ → Reading → Answered
record_answered room (Ok (step, used)) = answered room step
record_answered room (Err refusal) = Err refusal

-- and then the room is left alone
abbrev pub record_stepped : List ℕ → Reading → List ℕ
record_stepped room r = left_by (λ x. stepped room x.0) room r

-- the record of the next step is written where there is one, and a refusal of next comes first
abbrev pub next_writing : Result (Option Step) Refusal → List ℕ → Writing
next_writing (Ok (Some st)) bytes = writing_of st bytes
next_writing (Ok None) bytes = Ok 0
next_writing (Err refusal) bytes = Err refusal

abbrev pub next_written : Result (Option Step) Refusal → List ℕ → List ℕ
next_written (Ok (Some st)) bytes = written_of st bytes
next_written (Ok None) bytes = bytes
next_written (Err refusal) bytes = bytes

-- the kind and the five fields
abbrev pub field_cells : Fields → List ℕ
field_cells f = f.kind ∷ values_of f

-- a record read to six cells, which must be lent, no more and no fewer
abbrev pub fields_reading : List ℕ → List ℕ → Reading
fields_reading bytes cells = outcome (Must (eqb (length cells) 6) WrongLength (read_checks bytes))

-- a field that the kind lacks is 0; a refusal changes no cell
abbrev pub fields_read : Reading → List ℕ → List ℕ
fields_read r cells = left_by (λ x. field_cells (fields_of x.0)) cells r
