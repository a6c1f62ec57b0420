-- A quorum is a set of drives that counts as a majority, with what holds of each drive in it. The proof uses one thing of
-- quorums: any two share a drive.
use Prim.Native.Nat.{ℕ, zero, suc, ◌<◌}
use native.Mathlib.Omega.{arith}
use mathlib.Core.Bool.{Bool, true, false}
use mathlib.Core.Path.{◌≡◌, refl, subst}
use mathlib.Core.Logic.{◌⊎◌, inl, inr}
use native.Mathlib.Decide.{ℕ_discrete}
use Rattle.quorum.specs.Sets.{majority}
use Rattle.quorum.proofs.Share.{Shared, share}
use Rattle.lemmas.proofs.Tests.{clash}

pub record Quorum (n : ℕ) (P : ℕ → Type 0) : Type 0 where
  pub set : ℕ → Bool
  pub counts : majority n set ≡ true
  pub each : (d : ℕ) → d < n → set d ≡ true → P d

pub weaker : {n : ℕ} {P Q : ℕ → Type 0} → ((d : ℕ) → d < n → P d → Q d) → Quorum n P → Quorum n Q
weaker f q = record { set = q.set; counts = q.counts; each = λ d lt h. f d lt (q.each d lt h) }

-- a drive that two quorums share
pub record Met (n : ℕ) (P Q : ℕ → Type 0) : Type 0 where
  pub drive : ℕ
  pub within : drive < n
  pub first : P drive
  pub second : Q drive

pub meet : {n : ℕ} {P Q : ℕ → Type 0} → Quorum n P → Quorum n Q → Met n P Q
meet {n} {P} {Q} x y =
    let s : Shared n x.set y.set = share n x.set y.set x.counts y.counts in
    record {
      drive = s.drive;
      within = s.within;
      first = x.each s.drive s.within s.first;
      second = y.each s.drive s.within s.second;
    }

-- a drive below n that the test marks, or none
pub record Found (n : ℕ) (f : ℕ → Bool) : Type 0 where
  pub drive : ℕ
  pub within : drive < n
  pub holds : f drive ≡ true

pub find : (n : ℕ) (f : ℕ → Bool) → Found n f ⊎ ((d : ℕ) → d < n → f d ≡ true → ⊥)
find zero f = inr (λ d lt h. omega arith)
find (suc n) f = step n f (find n f) (f n) refl
  where
    step : (n : ℕ) (f : ℕ → Bool) → Found n f ⊎ ((d : ℕ) → d < n → f d ≡ true → ⊥) → (b : Bool) → f n ≡ b
        → Found (suc n) f ⊎ ((d : ℕ) → d < suc n → f d ≡ true → ⊥)
    step n f (inl w) b e =
        inl (record { drive = w.drive; within = let h = w.within in omega arith; holds = w.holds })
    step n f (inr w) true e = inl (record { drive = n; within = omega arith; holds = e })
    step n f (inr w) false e = inr (λ d lt h. last d lt h (ℕ_discrete d n))
      where
        last : (d : ℕ) → d < suc n → f d ≡ true → Dec (d ≡ n) → ⊥
        last d lt h (yes q) = clash (f n) (subst (λ (k : ℕ). f k ≡ true) q h) e
        last d lt h (no q) = w d (omega arith) h
