-- What a step answers, and the word and the number of that (SPEC, "The ten steps").
use Rattle.std.specs.Prelude.{ℕ, Result, Ok, Err}
use Rattle.checks.specs.declared.Refusal.{Refusal}
use Rattle.checks.specs.Refusals.{refusal_number}
use Rattle.state.specs.declared.Answer.{Answer}
use Rattle.state.specs.declared.Answer.TheVariants.{Done, Outbid, Chosen, Committed}

-- an answer, or why the step is refused
abbrev pub Answered : Type 0
Answered = Result Answer Refusal

-- the word: 0 done, 1 outbid, 2 chosen, 3 committed, 4 refused
abbrev pub code_of : Answered → ℕ
code_of (Ok Done) = 0
code_of (Ok (Outbid b)) = 1
code_of (Ok (Chosen c)) = 2
code_of (Ok (Committed c)) = 3
code_of (Err refusal) = 4

-- the number beside it: the ballot found, the command, or the number of the refusal
abbrev pub number_of : Answered → ℕ
number_of (Ok Done) = 0
number_of (Ok (Outbid b)) = b
number_of (Ok (Chosen c)) = c
number_of (Ok (Committed c)) = c
number_of (Err refusal) = refusal_number refusal
