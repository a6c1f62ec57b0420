-- A set with every drive of a majority is a majority.
use Prim.Native.Nat.{ℕ, ◌*◌, ◌<◌}
use mathlib.Core.Bool.{Bool, true, ◌&&◌}
use mathlib.Core.Path.{◌≡◌}
use mathlib.Core.Logic.{◌⊎◌, inl, inr}
use native.Mathlib.Omega.{arith}
use native.Mathlib.Decide.{dec_lt}
use lib.Dec.{eqb, ltb}
use borrow.Author.Tests.{lt-ltb, eq-eqb}
use Rattle.lemmas.proofs.Tests.{and_intro, or_right}
use Rattle.quorum.specs.Sets.{size, majority}
use Rattle.quorum.proofs.Sizes.{size_more}
use Rattle.quorum.proofs.Share.{Half, counts}

module _ (n : ℕ) (f g : ℕ → Bool) (more : (d : ℕ) → d < n → f d ≡ true → g d ≡ true) where
  more_than_half : n < 2 * size n g → majority n g ≡ true
  unfolding majority
  more_than_half l = simp (lt-ltb n (2 * size n g) l)

  half : Half n f → Dec (n < 2 * size n g) → majority n g ≡ true
  unfolding majority
  half h (yes l) = more_than_half l
  half h (no l) =
      or_right (ltb n (2 * size n g)) (eqb n (2 * size n g) && (ltb 0 n && g 0))
      (and_intro (eqb n (2 * size n g)) (ltb 0 n && g 0)
      (eq-eqb n (2 * size n g) (omega (arith, h.exact, size_more n f g more)))
      (and_intro (ltb 0 n) (g 0) (lt-ltb 0 n h.exists) (more 0 h.exists h.first)))

  pub majority_more : majority n f ≡ true → majority n g ≡ true
  majority_more h = go (counts n f h)
    where
      go : (n < 2 * size n f) ⊎ Half n f → majority n g ≡ true
      go (inl l) = more_than_half (omega (arith, size_more n f g more))
      go (inr t) = half t (dec_lt n (2 * size n g))
