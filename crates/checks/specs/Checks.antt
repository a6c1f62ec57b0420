-- A call as its checks, in their order: the first that fails decides, and brings its refusal.
use Rattle.std.specs.Prelude.{Bool, true, false, cond, Result, Ok, Err}
use Rattle.checks.specs.declared.Refusal.{Refusal}

-- A condition that must hold, with the refusal where it does not; a choice between two ways; what the call gives at the end.
pub data Checked (A : Type 0) : Type 0 where
  Must : Bool → Refusal → Checked A → Checked A
  Either : Bool → Checked A → Checked A → Checked A
  Gives : A → Checked A

-- one check, and then the rest: what a `do` block of checks is
infixr 10 ◌>>◌
abbrev pub ◌>>◌ : {A B : Type 0} → (A → B) → A → B
check >> rest = check rest

-- the rest, or refused where the condition does not hold
unfoldable pub must : {A : Type 0} → Bool → Refusal → Result A Refusal → Result A Refusal
must b refusal rest = cond b rest (Err refusal)

-- what the call answers
abbrev pub outcome : {A : Type 0} → Checked A → Result A Refusal
outcome (Must b refusal rest) = must b refusal (outcome rest)
outcome (Either t x y) = cond t (outcome x) (outcome y)
outcome (Gives a) = Ok a

-- what an accepted call gives, told in another way
abbrev pub mapped : {A B : Type 0} → (A → B) → Result A Refusal → Result B Refusal
mapped f (Ok a) = Ok (f a)
mapped f (Err refusal) = Err refusal

-- what is lent, after the call: what an accepted call makes of it, or as it was where the call is refused
abbrev pub left_by : {A B : Type 0} → (A → B) → B → Result A Refusal → B
left_by makes old (Ok a) = makes a
left_by makes old (Err refusal) = old

-- whether the call is accepted
abbrev pub accepted : {A : Type 0} → Result A Refusal → Bool
accepted (Ok a) = true
accepted (Err refusal) = false
