-- The answers of the register's calls, each packed in one number for C. Ask (the slot) and record write (the length used)
-- answer by `packed_number` of `packing`.
use Rattle.std.specs.Prelude.{ℕ, ◌+◌, ◌*◌, Result}
use Rattle.checks.specs.declared.Refusal.{Refusal}
use Rattle.packing.specs.Packing.{packed, packed_by}
use Rattle.state.specs.Answers.{Answered, code_of, number_of}
use Rattle.record.specs.Read.{Reading}
use Rattle.catalogue.specs.declared.Counts.{Counts}

-- the words: 0 done (and any other call that is accepted), 1 outbid, 2 chosen, 3 committed, 4 refused
abbrev pub packed_answer : Answered → ℕ
packed_answer a = packed (code_of a) (number_of a)

-- catalogue: taken and skipped, a byte for the second
abbrev pub packed_listing : Result Counts Refusal → ℕ
packed_listing = packed_by (λ c. c.taken * 256 + c.skipped)

-- record read: the length used
abbrev pub packed_reading : Reading → ℕ
packed_reading = packed_by (λ r. r.1)
