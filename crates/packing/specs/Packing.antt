-- How an answer is one number for C: a word in the upper half of 64 bits, a number in the lower.
use Rattle.std.specs.Prelude.{ℕ, ◌+◌, ◌*◌, Result, Ok, Err}
use Rattle.checks.specs.declared.Refusal.{Refusal}
use Rattle.checks.specs.Refusals.{refusal_number}

abbrev pub packed : ℕ → ℕ → ℕ
packed word number = word * 4294967296 + number

-- the word of a call that is refused; that of one that is accepted is 0, but a step has words of its own (register_c)
abbrev pub refused_word : ℕ
refused_word = 4

-- the answer of a call, by the number of what it gives
abbrev pub packed_by : {A : Type 0} → (A → ℕ) → Result A Refusal → ℕ
packed_by number (Ok a) = packed 0 (number a)
packed_by number (Err refusal) = packed refused_word (refusal_number refusal)

-- the answer of a call that gives a number
abbrev pub packed_number : Result ℕ Refusal → ℕ
packed_number = packed_by (λ n. n)
