-- A server's next ballot as one number for C: no ballot is 0.
use Rattle.std.specs.Prelude.{ℕ, Option, unwrap_or}

abbrev pub ballot_or_zero : Option ℕ → ℕ
ballot_or_zero next = unwrap_or next 0
