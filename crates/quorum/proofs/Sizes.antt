-- How many drives a set has. The count of ones is that number.
use Prim.Native.Nat.{ℕ, zero, suc, ◌+◌, ◌/◌, ◌%◌, ◌^◌, ◌<◌, ◌≤◌}
use mathlib.Core.Path.{◌≡◌, refl, ◌∙◌, sym, ap, ap₂}
use mathlib.Core.Bool.{Bool, true, false, ◌&&◌, cond}
use native.Mathlib.Omega.{arith}
use native.Mathlib.Decide.{dec_lt}
use native.Mathlib.Nat.{mod-lt}
use native.Mathlib.Numerals.{add-one}
use lib.Count.{ones, ones_in, ones_cat}
use lib.Dec.{eqb, ltb}
use lib.Pow.{pow_pos, mod-pow-add, mod-mod-pow}
use borrow.Author.Tests.{lt-ltb}
use Rattle.quorum.specs.Marks.{stands}
use Rattle.quorum.specs.Sets.{size}
use Rattle.lemmas.proofs.Tests.{by_test}
use Rattle.quorum.proofs.MarkLaws.{digit_of, no_digit, stands-zero}

pub size-zero : (f : ℕ → Bool) → size 0 f ≡ 0
unfolding size
size-zero f = refl

pub size-suc : (n : ℕ) (f : ℕ → Bool) → size (suc n) f ≡ size n f + cond (f n) 1 0
unfolding size
size-suc n f = refl

-- more drives, at least as many
one_more : (a b : Bool) → (a ≡ true → b ≡ true) → cond a 1 0 ≤ cond b 1 0
one_more false b h = omega arith
one_more true b h = rw (h refl) (omega arith)

pub size_more : (n : ℕ) (f g : ℕ → Bool) → ((d : ℕ) → d < n → f d ≡ true → g d ≡ true) → size n f ≤ size n g
size_more zero f g h = omega (arith, size-zero f, size-zero g)
size_more (suc n) f g h =
    let rest : size n f ≤ size n g = size_more n f g (λ d l. h d (omega arith)) in
    let last : cond (f n) 1 0 ≤ cond (g n) 1 0 = one_more (f n) (g n) (h n (omega arith)) in
    omega (arith, size-suc n f, size-suc n g)

-- a set that lost a drive, and got none
pub size_falls
    : (n : ℕ) (f g : ℕ → Bool) → ((d : ℕ) → g d ≡ true → f d ≡ true) → (d : ℕ) → d < n → f d ≡ true → g d ≡ false
    → size n g < size n f
size_falls zero f g h d l a b = absurd (omega arith)
size_falls (suc n) f g h d l a b = go (dec_lt d n) (size_falls n f g h d)
  where
    go : Dec (d < n) → (d < n → f d ≡ true → g d ≡ false → size n g < size n f) → size (suc n) g < size (suc n) f
    go (yes k) rest = omega (arith, rest k a b, size-suc n f, size-suc n g, one_more (g n) (f n) (h n))
    go (no k) rest =
        let e : d ≡ n = omega arith in
        let p : ◌≡◌ {A = ℕ} (cond (f n) 1 0) 1 = ap (λ (j : ℕ). cond {A = ℕ} (f j) 1 0) (sym e) ∙ ap (λ (t : Bool). cond {A = ℕ} t 1 0) a in
        let q : ◌≡◌ {A = ℕ} (cond (g n) 1 0) 0 = ap (λ (j : ℕ). cond {A = ℕ} (g j) 1 0) (sym e) ∙ ap (λ (t : Bool). cond {A = ℕ} t 1 0) b in
        omega (arith, size-suc n f, size-suc n g, size_more n g f (λ j m. h j))

-- at most as many as there are; fewer where one of them is missing
pub size_most : (n : ℕ) (f : ℕ → Bool) → size n f ≤ n
size_most zero f = omega (arith, size-zero f)
size_most (suc n) f =
    let one : cond {A = ℕ} (f n) 1 0 ≤ 1 = one_more (f n) true (λ e. refl) in
    omega (arith, size_most n f, size-suc n f)

pub size_without : (n : ℕ) (f : ℕ → Bool) (d : ℕ) → d < n → f d ≡ false → size n f < n
size_without n f d l e =
    omega (arith, size_falls n (λ j. true) f (λ j h. refl) d l refl e, size_most n (λ j. true))

-- the drives below n alone are counted
pub size_same : (n : ℕ) (f g : ℕ → Bool) → ((d : ℕ) → d < n → f d ≡ g d) → size n f ≡ size n g
size_same n f g h =
    omega
    (arith, size_more n f g (λ d l e. sym (h d l) ∙ e), size_more n g f (λ d l e. h d l ∙ e))

-- the ones below bit n are the drives whose bit stands
one_digit : (m n : ℕ) → ones (m / 2 ^ n % 2) ≡ cond (stands m n) 1 0
unfolding ones ones_in
one_digit m n =
    by_test (stands m n)
    (λ e. ap ones (digit_of m n e) ∙ ap (λ (b : Bool). cond b 1 0) (sym e))
    (λ e. ap ones (no_digit m n e) ∙ ap (λ (b : Bool). cond b 1 0) (sym e))

pub ones_size : (n m : ℕ) → ones (m % 2 ^ n) ≡ size n (stands m)
unfolding ones ones_in
ones_size zero m = ap ones (native.Mathlib.Nat.mod-one m) ∙ sym (size-zero (stands m))
ones_size (suc n) m =
    let e : suc n ≡ 1 + n = omega arith in
    ap (λ (k : ℕ). ones (m % 2 ^ k)) e
    ∙ ap ones (mod-pow-add m 1 n)
    ∙ ones_cat n (m / 2 ^ n % 2) (m % 2 ^ n) (mod-lt m (pow_pos n))
    ∙ ap₂ ◌+◌ (one_digit m n) (ones_size n m)
    ∙ native.Mathlib.Nat.add_comm (cond (stands m n) 1 0) (size n (stands m))
    ∙ sym (size-suc n (stands m))

-- the marks below bit n have drive 0 where there is a drive
pub first_below : (n m : ℕ) → stands (m % 2 ^ n) 0 ≡ (ltb 0 n && stands m 0)
unfolding stands
first_below zero m = ap (λ (x : ℕ). stands x 0) (native.Mathlib.Nat.mod-one m) ∙ stands-zero 0
first_below (suc n) m =
    let low : m % 2 ^ suc n % 2 ≡ m % 2 = ap (λ (k : ℕ). m % 2 ^ k % 2) (sym (add-one n)) ∙ mod-mod-pow m n 1 in
    let digit : m % 2 ^ suc n / 1 % 2 ≡ m / 1 % 2 = omega arith in
    rw (lt-ltb 0 (suc n) (omega arith)) (ap (λ (x : ℕ). eqb x 1) digit)
