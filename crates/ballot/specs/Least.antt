-- A server's least ballot above one found, as request E2 says it (SPEC, "The room in memory").
use Rattle.std.specs.Prelude.{ℕ, ◌<◌, ◌≤◌, ◌≡◌, true, Option, Some, None}
use Rattle.state.specs.Block.{limit}
use Rattle.ballot.specs.Ballot.{owned}

-- b is a ballot of server p's, above f, and none of its own lies between
pub record LeastOwn (n p f b : ℕ) : Type 0 where
  pub own : owned n p b ≡ true
  pub above : f < b
  pub within : b ≤ limit
  pub none_between : (a : ℕ) → owned n p a ≡ true → f < a → a < b → ⊥

-- server p has no ballot above f
abbrev pub NoneLeft : ℕ → ℕ → ℕ → Type 0
NoneLeft n p f = (a : ℕ) → owned n p a ≡ true → f < a → ⊥

-- what an answer must be
abbrev pub IsNext : ℕ → ℕ → ℕ → Option ℕ → Type 0
IsNext n p f (Some b) = LeastOwn n p f b
IsNext n p f None = NoneLeft n p f
