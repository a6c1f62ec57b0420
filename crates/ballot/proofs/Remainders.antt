-- The formula of the least own number above one found: what it gives, and two ways to work it out without a division by
-- the number of servers.
use Prim.Native.Nat.{ℕ, zero, suc, ◌+◌, ◌-◌, ◌%◌, ◌<◌, ◌≤◌}
use mathlib.Core.Path.{◌≡◌, refl}
use mathlib.Core.Bool.{true, ◌&&◌}
use native.Mathlib.Omega.{arith}
use lib.Bits.{bit_and, and_mask}
use lib.Dec.{leb, ltb}
use borrow.Author.Tests.{leb-true, ltb-true}
use Rattle.lemmas.proofs.Tests.{and_left, and_right}
use Rattle.state.specs.Block.{limit}
use Rattle.ballot.specs.Ballot.{least_above, askable}

-- what may be asked
pub record Asked (n p f : ℕ) : Type 0 where
  pub server : p < n
  pub few : n ≤ 4
  pub found : f ≤ limit

pub asked : (n p f : ℕ) → askable n p f ≡ true → Asked n p f
asked n p f e =
    let front = and_left (ltb p n && leb n 4) (leb f limit) e in
    record {
      server = ltb-true p n (and_left (ltb p n) (leb n 4) front);
      few = leb-true n 4 (and_right (ltb p n) (leb n 4) front);
      found = leb-true f limit (and_right (ltb p n && leb n 4) (leb f limit) e);
    }

-- a room has 1, 2, 3 or 4 servers
by_servers : (P : ℕ → Type 0) → P 1 → P 2 → P 3 → P 4 → (n : ℕ) → 0 < n → n ≤ 4 → P n
by_servers P a b c d zero h l = absurd (omega arith)
by_servers P a b c d (suc zero) h l = a
by_servers P a b c d (suc (suc zero)) h l = b
by_servers P a b c d (suc (suc (suc zero))) h l = c
by_servers P a b c d (suc (suc (suc (suc zero)))) h l = d
by_servers P a b c d (suc (suc (suc (suc (suc n))))) h l = absurd (omega arith)

-- what the formula gives
pub record Formula (n p f m : ℕ) : Type 0 where
  pub above : f < m
  pub owner : (m - 1) % n ≡ p

pub formula : (n p f : ℕ) → p < n → n ≤ 4 → Formula n p f (least_above n p f)
unfolding least_above
formula n p f h l =
    by_servers (λ (k : ℕ). p < k → Formula k p f (least_above k p f))
    (λ g. record { above = omega arith; owner = omega arith })
    (λ g. record { above = omega arith; owner = omega arith })
    (λ g. record { above = omega arith; owner = omega arith })
    (λ g. record { above = omega arith; owner = omega arith })
    n (omega arith) l h

-- no number of p's lies between
pub none_nearer : (n p f b : ℕ) → p < n → n ≤ 4 → f < b → (b - 1) % n ≡ p → least_above n p f ≤ b
unfolding least_above
none_nearer n p f b h l a o =
    by_servers (λ (k : ℕ). p < k → (b - 1) % k ≡ p → least_above k p f ≤ b)
    (λ g e. omega arith) (λ g e. omega arith) (λ g e. omega arith) (λ g e. omega arith)
    n (omega arith) l h o

-- three servers: the limit and 2 are a multiple of 3
pub by_three : (n p f : ℕ) → Asked n p f → n ≡ 3 → f + (limit + 2 - f + p) % 3 + 1 ≡ least_above n p f
unfolding least_above
by_three n p f a e =
    let found = a.found in
    let server : p < 3 = omega (arith, a.server, e) in
    let here : f + (limit + 2 - f + p) % 3 + 1 ≡ least_above 3 p f = omega arith in
    rw e here

-- one, two or four: the limit is a multiple of n, and a remainder is the low bits
pub by_low_bits : (n p f : ℕ) → Asked n p f → (n ≡ 3 → ⊥)
    → f + bit_and (limit - f + p) (n - 1) + 1 ≡ least_above n p f
unfolding least_above
by_low_bits n p f a other =
    let found = a.found in
    by_servers
    (λ (k : ℕ). p < k → (k ≡ 3 → ⊥) → f + bit_and (limit - f + p) (k - 1) + 1 ≡ least_above k p f)
    (λ h o. omega (arith, and_mask (limit - f + p) 0))
    (λ h o. omega (arith, and_mask (limit - f + p) 1))
    (λ h o. absurd (o refl))
    (λ h o. omega (arith, and_mask (limit - f + p) 2))
    n (omega (arith, a.server)) a.few a.server other
