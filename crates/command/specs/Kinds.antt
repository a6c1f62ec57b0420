-- The kinds as an enum, and the numbers that name them.
use Rattle.std.specs.Prelude.{◌≡◌, ◌≢◌, ℕ, Result, MatchResult}
use Rattle.command.specs.Command.{enter, move, strike}
use Rattle.command.specs.declared.kinds.Kind.{Kind}
use Rattle.command.specs.declared.kinds.Kind.TheVariants.{Enter, Move, Strike}
use Rattle.command.specs.declared.kinds.UnknownKind.{UnknownKind}

abbrev pub kind_number : Kind → ℕ
kind_number Enter = enter
kind_number Move = move
kind_number Strike = strike

-- the result is the kind that the number names, or the number where it names none
abbrev pub IsKind : ℕ → Result Kind UnknownKind → Type 0
IsKind n r =
    MatchResult r
    (λ kind. kind_number kind ≡ n)
    (λ unknown. (unknown.0 ≡ n) × (n ≢ enter) × (n ≢ move) × (n ≢ strike))
