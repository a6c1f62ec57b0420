-- Laws of the cell that a set of drives is gathered in, as a loop over the drives makes it.
use Prim.Native.Nat.{ℕ, zero, suc, ◌+◌, ◌^◌, ◌<◌, ◌≤◌, min}
use mathlib.Core.Path.{◌≡◌, refl, ◌∙◌, sym, ap}
use mathlib.Core.Bool.{Bool, true, false, cond}
use native.Mathlib.Omega.{arith}
use native.Mathlib.Nat.{pow-suc}
use native.Mathlib.Numerals.{add-one}
use Rattle.quorum.specs.Marks.{stands, marked}
use Rattle.quorum.specs.Sets.{gathered, majority}
use Rattle.lemmas.proofs.Tests.{by_test}
use Rattle.quorum.proofs.MarkLaws.{stands_small, add_same, add_other, marked_new}
use Rattle.quorum.proofs.Majorities.{majority_same}

pub gathered-zero : (f : ℕ → Bool) → gathered 0 f ≡ 0
unfolding gathered
gathered-zero f = refl

pub gathered-suc : (n : ℕ) (f : ℕ → Bool) → gathered (suc n) f ≡ gathered n f + cond (f n) (2 ^ n) 0
unfolding gathered
gathered-suc n f = refl

pub gathered_below : (n : ℕ) (f : ℕ → Bool) → gathered n f < 2 ^ n
gathered_below zero f = omega (arith, gathered-zero f)
gathered_below (suc n) f =
    let rest : gathered n f < 2 ^ n = gathered_below n f in
    let last : cond (f n) (2 ^ n) 0 ≤ 2 ^ n = at_most (f n) in
    omega (arith, gathered-suc n f, pow-suc 2 n)
  where
    at_most : (b : Bool) → cond b (2 ^ n) 0 ≤ 2 ^ n
    at_most true = omega arith
    at_most false = omega arith

-- one drive more, as a loop gathers it
pub gathered_more : (n : ℕ) (f : ℕ → Bool) → n < 32 → f n ≡ true → marked (gathered n f) n ≡ gathered (n + 1) f
gathered_more n f h e =
    marked_new (gathered n f) n h (stands_small (gathered n f) n (gathered_below n f))
    ∙ ap (λ (b : Bool). gathered n f + cond b (2 ^ n) 0) (sym e)
    ∙ sym (gathered-suc n f)
    ∙ ap (λ (k : ℕ). gathered k f) (sym (add-one n))

pub gathered_past : (n : ℕ) (f : ℕ → Bool) → f n ≡ false → gathered n f ≡ gathered (n + 1) f
gathered_past n f e =
    let z : gathered n f + 0 ≡ gathered n f = omega arith in
    sym z
    ∙ ap (λ (b : Bool). gathered n f + cond b (2 ^ n) 0) (sym e)
    ∙ sym (gathered-suc n f)
    ∙ ap (λ (k : ℕ). gathered k f) (sym (add-one n))

pub stands_gathered : (n : ℕ) (f : ℕ → Bool) (d : ℕ) → d < n → stands (gathered n f) d ≡ f d
stands_gathered zero f d h = absurd (omega arith)
stands_gathered (suc n) f d h = go (native.Mathlib.Decide.dec_lt d n) (stands_gathered n f d)
  where
    new : stands (gathered n f) n ≡ false
    new = stands_small (gathered n f) n (gathered_below n f)

    after : (b : Bool) → f n ≡ b → gathered (suc n) f ≡ gathered n f + cond b (2 ^ n) 0
    after b e = gathered-suc n f ∙ ap (λ (c : Bool). gathered n f + cond c (2 ^ n) 0) e

    zeroed : gathered n f + 0 ≡ gathered n f
    zeroed = omega arith

    go : Dec (d < n) → (d < n → stands (gathered n f) d ≡ f d) → stands (gathered (suc n) f) d ≡ f d
    go (yes l) rest =
        by_test (f n)
        (λ e. ap (λ (x : ℕ). stands x d) (after true e) ∙ add_other (gathered n f) n d new (omega arith) ∙ rest l)
        (λ e. ap (λ (x : ℕ). stands x d) (after false e ∙ zeroed) ∙ rest l)
    go (no l) rest =
        let s : d ≡ n = omega arith in
        by_test (f n)
        (λ e. ap (λ (x : ℕ). stands (gathered (suc n) f) x) s ∙ ap (λ (x : ℕ). stands x n) (after true e) ∙ add_same (gathered n f) n new ∙ sym e ∙ ap f (sym s))
        (λ e. ap (λ (x : ℕ). stands (gathered (suc n) f) x) s ∙ ap (λ (x : ℕ). stands x n) (after false e ∙ zeroed) ∙ new ∙ sym e ∙ ap f (sym s))

-- a majority of a set is judged on the cell that it was gathered in
pub majority_gathered : (n : ℕ) (f : ℕ → Bool) → majority n (stands (gathered n f)) ≡ majority n f
majority_gathered n f = majority_same n (stands (gathered n f)) f (stands_gathered n f)

-- one turn of a loop that gathers a set of drives in a cell: the bit of drive d is set where the set has it
module _ (d : ℕ) (set : ℕ → Bool) {found next : ℕ} (so_far : found ≡ gathered d set) where
  pub joins : d < 32 → set d ≡ true → next ≡ marked found d → next ≡ gathered (d + 1) set
  joins small is n = n ∙ ap (λ (m : ℕ). marked m d) so_far ∙ gathered_more d set small is

  pub stays : set d ≡ false → next ≡ found → next ≡ gathered (d + 1) set
  stays is n = n ∙ so_far ∙ gathered_past d set is

-- a set without 32 and above is gathered below 32
pub gathered_small : (n : ℕ) (f : ℕ → Bool) → ((d : ℕ) → 32 ≤ d → f d ≡ false) → gathered (min n 32) f ≡ gathered n f
gathered_small zero f h = refl
gathered_small (suc n) f h = go (native.Mathlib.Decide.dec_lt n 32) (gathered_small n f h)
  where
    go : Dec (n < 32) → gathered (min n 32) f ≡ gathered n f → gathered (min (suc n) 32) f ≡ gathered (suc n) f
    go (yes l) rest = ap (λ (k : ℕ). gathered k f) (omega arith)
    go (no l) rest =
        let e : min (suc n) 32 ≡ min n 32 = omega arith in
        let s : n + 1 ≡ suc n = omega arith in
        ap (λ (k : ℕ). gathered k f) e
        ∙ rest
        ∙ gathered_past n f (h n (omega arith))
        ∙ ap (λ (k : ℕ). gathered k f) s
