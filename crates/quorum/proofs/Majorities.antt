-- What a majority looks at: how many drives of the set exist, and drive 0 where these are exactly half.
use Prim.Native.Nat.{ℕ, zero, suc, ◌+◌, ◌*◌, ◌%◌, ◌^◌, ◌<◌, ◌≤◌}
use mathlib.Core.Path.{◌≡◌, ◌∙◌, sym, ap}
use mathlib.Core.Bool.{Bool, or-false}
use native.Mathlib.Omega.{arith}
use native.Mathlib.Nat.{mod-le}
use lib.Count.{ones, ones-le}
use lib.Dec.{ltb}
use borrow.Author.Tests.{ne_eqb, eq-eqb, le-ltb}
use Rattle.quorum.specs.Marks.{stands}
use Rattle.quorum.specs.Sets.{size, majority}
use Rattle.quorum.proofs.Sizes.{size_same, ones_size, first_below}

-- the drives below n alone
pub majority_same : (n : ℕ) (f g : ℕ → Bool) → ((d : ℕ) → d < n → f d ≡ g d) → majority n f ≡ majority n g
unfolding majority
majority_same zero f g h = rw (size_same 0 f g h)
majority_same (suc n) f g h = rw (size_same (suc n) f g h, h 0 (omega arith))

-- without a tie, their number alone
pub not_tied : (n : ℕ) (f : ℕ → Bool) → (n ≡ 2 * size n f → ⊥) → majority n f ≡ ltb n (2 * size n f)
unfolding majority
not_tied n f e = rw (ne_eqb n (2 * size n f) e) (or-false (ltb n (2 * size n f)))

-- of an odd number of drives no set is exactly half
pub odd_as_before : (k : ℕ) (f : ℕ → Bool) → majority (2 * k + 1) f ≡ ltb (2 * k + 1) (2 * size (2 * k + 1) f)
odd_as_before k f = not_tied (2 * k + 1) f (λ e. omega arith)

-- a majority judged on the cell of the marks below bit n, by its ones: where they are exactly half, by its drive 0
module _ (n m cell : ℕ) (cut : cell ≡ m % 2 ^ n) where
  counted : ones cell ≡ size n (stands m)
  counted = ap ones cut ∙ ones_size n m

  pub few : m < 2 ^ 32 → ones cell ≤ 32
  few f = ones-le 32 cell (let l = mod-le m (2 ^ n) in omega arith)

  pub apart : (n ≡ 2 * ones cell → ⊥) → ltb n (2 * ones cell) ≡ majority n (stands m)
  apart h =
      let e = counted in
      ap (λ (k : ℕ). ltb n (2 * k)) e ∙ sym (not_tied n (stands m) (λ t. h (omega arith)))

  pub tie : n ≡ 2 * ones cell → stands cell 0 ≡ majority n (stands m)
  unfolding majority
  tie t =
      let half : n ≡ 2 * size n (stands m) = omega (arith, counted) in
      ap (λ (c : ℕ). stands c 0) cut
      ∙ first_below n m
      ∙ sym (rw (le-ltb n (2 * size n (stands m)) (omega arith), eq-eqb n (2 * size n (stands m)) half))
