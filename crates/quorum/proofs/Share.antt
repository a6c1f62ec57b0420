-- The one law of majorities that agreement uses: any two majorities share a drive.
use Prim.Native.Nat.{ℕ, zero, suc, ◌+◌, ◌*◌, ◌<◌, ◌≤◌}
use mathlib.Core.Path.{◌≡◌, ◌∙◌, ap}
use mathlib.Core.Bool.{Bool, true, false, ◌&&◌, cond}
use mathlib.Core.Logic.{◌⊎◌, inl, inr, ⊎_elim}
use native.Mathlib.Omega.{arith}
use lib.Dec.{eqb, ltb}
use borrow.Author.Tests.{eqb-true, ltb-true}
use Rattle.quorum.specs.Sets.{size, majority}
use Rattle.lemmas.proofs.Tests.{by_test, and_left, and_right, or_either}
use Rattle.quorum.proofs.Sizes.{size-zero, size-suc}

-- the drives of two sets, counted twice where they are in both
both_once : (a b : Bool) → cond a 1 0 + cond b 1 0 ≤ 1 + cond (a && b) 1 0
both_once true true = omega arith
both_once true false = omega arith
both_once false true = omega arith
both_once false false = omega arith

overlap : (n : ℕ) (f g : ℕ → Bool) → size n f + size n g ≤ n + size n (λ d. f d && g d)
overlap zero f g = omega (arith, size-zero f, size-zero g, size-zero (λ d. f d && g d))
overlap (suc n) f g =
    omega (arith, overlap n f g, both_once (f n) (g n), size-suc n f, size-suc n g, size-suc n (λ d. f d && g d))

-- a set that is not empty has a drive
record Member (n : ℕ) (f : ℕ → Bool) : Type 0 where
  drive : ℕ
  within : drive < n
  holds : f drive ≡ true

member : (n : ℕ) (f : ℕ → Bool) → 0 < size n f → Member n f
member zero f h = absurd (let e : size 0 f ≡ 0 = size-zero f in omega arith)
member (suc n) f h =
    by_test (f n)
    (λ e. record { drive = n; within = omega arith; holds = e })
    (λ e.
    let none : size (suc n) f ≡ size n f + 0 = size-suc n f ∙ ap (λ (b : Bool). size n f + cond b 1 0) e in
    let m : Member n f = member n f (omega arith) in
    record { drive = m.drive; within = omega arith; holds = m.holds })

-- exactly half of the drives, and drive 0 is one of them
pub record Half (n : ℕ) (f : ℕ → Bool) : Type 0 where
  pub exact : n ≡ 2 * size n f
  pub exists : 0 < n
  pub first : f 0 ≡ true

-- what a majority has
pub counts : (n : ℕ) (f : ℕ → Bool) → majority n f ≡ true → (n < 2 * size n f) ⊎ Half n f
unfolding majority
counts n f h =
    ⊎_elim
    (λ more. inl (ltb-true n (2 * size n f) more))
    (λ half.
    let exact = and_left (eqb n (2 * size n f)) (ltb 0 n && f 0) half in
    let drive-0 = and_right (eqb n (2 * size n f)) (ltb 0 n && f 0) half in
    inr
    (record {
      exact = eqb-true n (2 * size n f) exact;
      exists = ltb-true 0 n (and_left (ltb 0 n) (f 0) drive-0);
      first = and_right (ltb 0 n) (f 0) drive-0;
    }))
    (or_either (ltb n (2 * size n f)) (eqb n (2 * size n f) && (ltb 0 n && f 0)) h)

-- a drive of both sets
pub record Shared (n : ℕ) (f g : ℕ → Bool) : Type 0 where
  pub drive : ℕ
  pub within : drive < n
  pub first : f drive ≡ true
  pub second : g drive ≡ true

-- two sets that have more drives together than there are
crowded : (n : ℕ) (f g : ℕ → Bool) → n < size n f + size n g → Shared n f g
crowded n f g h =
    let m : Member n (λ d. f d && g d) = member n (λ d. f d && g d) (omega (arith, overlap n f g)) in
    record {
      drive = m.drive;
      within = m.within;
      first = and_left (f m.drive) (g m.drive) m.holds;
      second = and_right (f m.drive) (g m.drive) m.holds;
    }

-- any two majorities share a drive
pub share : (n : ℕ) (f g : ℕ → Bool) → majority n f ≡ true → majority n g ≡ true → Shared n f g
share n f g hf hg = go (counts n f hf) (counts n g hg)
  where
    go : (n < 2 * size n f) ⊎ Half n f → (n < 2 * size n g) ⊎ Half n g → Shared n f g
    go (inl a) (inl b) = crowded n f g (omega arith)
    go (inl a) (inr b) = crowded n f g (omega (arith, b.exact))
    go (inr a) (inl b) = crowded n f g (omega (arith, a.exact))
    go (inr a) (inr b) = record { drive = 0; within = a.exists; first = a.first; second = b.first }
