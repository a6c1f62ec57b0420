-- Ballots and their owners (SPEC, "The room in memory").
use Rattle.std.specs.Prelude.{ℕ, ◌+◌, ◌-◌, ◌%◌, Bool, ◌&&◌, cond, eqb, leb, ltb, Option, Some, None}
use Rattle.state.specs.Block.{ballot_fits}

-- a number that is a ballot at all
abbrev pub is_ballot : ℕ → Bool
is_ballot b = leb 1 b && ballot_fits b

-- b is a ballot of server p in a room of n servers
unfoldable pub owned : ℕ → ℕ → ℕ → Bool
owned n p b = ltb p n && is_ballot b && eqb ((b - 1) % n) p

-- the least number above f that is p's by its remainder alone
unfoldable pub least_above : ℕ → ℕ → ℕ → ℕ
least_above n p f = f + (p + n - f % n) % n + 1

-- a room has 1 to 4 servers, p is one of them, and f is at most the largest ballot
abbrev pub askable : ℕ → ℕ → ℕ → Bool
askable n p f = ltb p n && leb n 4 && ballot_fits f

-- p's least ballot above f, or none where its ballots are spent
unfoldable pub next_own : ℕ → ℕ → ℕ → Option ℕ
next_own n p f = cond (askable n p f && ballot_fits (least_above n p f)) (Some (least_above n p f)) None
