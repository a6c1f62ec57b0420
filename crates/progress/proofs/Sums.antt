-- A sum over a list of drives falls where one of its numbers does and none rises.
use Prim.Native.Nat.{ℕ, ◌<◌, ◌≤◌}
use mathlib.Core.List.Memᴰ
use mathlib.Core.List.{List, [], ◌∷◌, Memᴰ}
use mathlib.Core.Logic.{◌⊎◌, inl, inr}
use mathlib.Core.Path.{◌≡◌, ap}
use native.Mathlib.Omega.{arith}
use Rattle.std.specs.Prelude.{sum_by}
use Rattle.std.proofs.lemmas.List.Sums.{sum_by-cons, sum_by-le-sum_by}

pub sum_falls
    : (f g : ℕ → ℕ) → ((d : ℕ) → g d ≤ f d) → (ds : List ℕ) (x : ℕ) → Memᴰ x ds → g x < f x → sum_by g ds < sum_by f ds
sum_falls f g less [] x i l = absurd (Memᴰ.not-nil i)
sum_falls f g less (d ∷ ds) x i l = go (Memᴰ.cases_cons i) (sum_falls f g less ds x)
  where
    go : (x ≡ d) ⊎ Memᴰ x ds → (Memᴰ x ds → g x < f x → sum_by g ds < sum_by f ds) → sum_by g (d ∷ ds) < sum_by f (d ∷ ds)
    go (inl e) rest =
        let a : g x ≡ g d = ap g e in
        let b : f x ≡ f d = ap f e in
        omega (arith, sum_by-le-sum_by g f ds less, sum_by-cons g d ds, sum_by-cons f d ds)
    go (inr j) rest = omega (arith, rest j l, less d, sum_by-cons g d ds, sum_by-cons f d ds)

-- where one number is not 0, the sum is not
pub sum_some : (f : ℕ → ℕ) (ds : List ℕ) (x : ℕ) → Memᴰ x ds → 0 < f x → 0 < sum_by f ds
sum_some f ds x i l = omega (arith, sum_falls f (λ d. 0) (λ d. omega arith) ds x i l)
