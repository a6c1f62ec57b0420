-- The steps that the bytes after the sizes hold, and how they end (SPEC, "Step records").
use Rattle.std.specs.Prelude.{ℕ, zero, suc, ◌≡◌, List, [], ◌∷◌, length, drop, Option, MatchOption, Result, Ok, Err, MatchResult}
use Rattle.checks.specs.declared.Refusal.{Refusal}
use Rattle.state.specs.declared.Step.{Step}
use Rattle.record.specs.Read.{Reading, reading_of}

-- the bytes end between records, or with a record that can't be read, which has its refusal
pub data Ending : Type 0 where
  Between : Ending
  Unread : Refusal → Ending

pub record Script : Type 0 where
  pub steps : List Step
  pub ending : Ending

unfoldable pub ended : Ending → Script
ended e = record { steps = []; ending = e }

unfoldable pub before : Step → Script → Script
before st s = record { steps = st ∷ s.steps; ending = s.ending }

-- what one record makes of the script of the bytes behind it
unfoldable pub read_on : Reading → (ℕ → Script) → Script
read_on (Ok (st, used)) rest = before st (rest used)
read_on (Err n) rest = ended (Unread n)

-- the script of bytes that hold no more than k records
unfoldable pub script_in : ℕ → List ℕ → Script
script_in zero bytes = ended Between
script_in (suc k) [] = ended Between
script_in (suc k) (b ∷ bs) = read_on (reading_of (b ∷ bs)) (λ used. script_in k (drop used (b ∷ bs)))

-- a record takes some bytes, so there are no more records than bytes
unfoldable pub script : List ℕ → Script
script bytes = script_in (length bytes) bytes

-- what a look at the bytes gives: nothing, or a step or the refusal of a record, and the bytes that are left
abbrev pub NextRecord : List ℕ → Option (Result Step Refusal) → List ℕ → Type 0
NextRecord bytes r rest =
    MatchOption r (script bytes ≡ ended Between)
    (λ read. MatchResult read (λ st. script bytes ≡ before st (script rest)) (λ n. (script bytes ≡ ended (Unread n)) × (script rest ≡ ended Between)))
