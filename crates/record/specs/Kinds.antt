-- The kinds as an enum, and the numbers that name them (SPEC, "The ten steps").
use Rattle.std.specs.Prelude.{ℕ, ◌≡◌, true, Result, MatchResult}
use Rattle.checks.specs.declared.Refusal.{Refusal}
use Rattle.checks.specs.declared.Refusal.TheVariants.{Malformed}
use Rattle.record.specs.Map.{unknown}
use Rattle.record.specs.declared.kinds.Kind.{Kind}
use Rattle.record.specs.declared.kinds.Kind.TheVariants.{Offer, Recall, Rejoin, Bid, Write, Read, Finish, Fail, DriveOff, DriveOn}

abbrev pub kind_number : Kind → ℕ
kind_number Offer = 1
kind_number Recall = 2
kind_number Rejoin = 3
kind_number Bid = 4
kind_number Write = 5
kind_number Read = 6
kind_number Finish = 7
kind_number Fail = 8
kind_number DriveOff = 9
kind_number DriveOn = 10

-- the result is the kind that the number names, or a refusal where it names none
abbrev pub IsKind : ℕ → Result Kind Refusal → Type 0
IsKind n r = MatchResult r (λ kind. kind_number kind ≡ n) (λ refusal. (refusal ≡ Malformed) × (unknown n ≡ true))
