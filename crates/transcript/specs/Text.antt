-- Numbers as bytes.
use Rattle.std.specs.Prelude.{ℕ, zero, suc, ◌+◌, ◌/◌, ◌%◌, Bool, true, false, List, [], ◌∷◌, ◌++◌, ltb}

-- up to k decimal digits of n, given whether n is below 10: then n is the only digit; else its last digit follows the
-- digits of n / 10
unfoldable pub digits_in : ℕ → Bool → ℕ → List ℕ
digits_in zero small n = []
digits_in (suc k) true n = (48 + n) ∷ []
digits_in (suc k) false n = digits_in k (ltb (n / 10) 10) (n / 10) ++ ((48 + n % 10) ∷ [])

-- the decimal digits of n, of which there are at most n + 1
unfoldable pub digits : ℕ → List ℕ
digits n = digits_in (suc n) (ltb n 10) n
