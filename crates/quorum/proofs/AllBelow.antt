-- Laws of all_below: read at one of the numbers below n, shown at each, of two tests, and by `all` over a range.
use Prim.Native.Nat.{ℕ, zero, suc, ◌+◌, ◌<◌}
use mathlib.Core.Path.{◌≡◌, refl, ◌∙◌, sym, ap}
use mathlib.Core.Bool.{Bool, true, false, ◌&&◌, and-false, and-true, and_assoc}
use native.Mathlib.Omega.{arith}
use Rattle.std.specs.List.{list_all, range_with_len}
use Rattle.quorum.specs.Sets.{all_below}
use Rattle.lemmas.proofs.Tests.{and_left, and_right, and_intro}

pub all_none : (f : ℕ → Bool) → all_below 0 f ≡ true
unfolding all_below
all_none f = refl

pub all_suc : (n : ℕ) (f : ℕ → Bool) → all_below (suc n) f ≡ (all_below n f && f n)
unfolding all_below
all_suc n f = refl

pub all_at : (n : ℕ) (f : ℕ → Bool) → all_below n f ≡ true → (i : ℕ) → i < n → f i ≡ true
all_at zero f h i l = absurd (omega arith)
all_at (suc n) f h i l = go (native.Mathlib.Decide.dec_lt i n) (all_at n f (and_left (all_below n f) (f n) (sym (all_suc n f) ∙ h)) i)
  where
    go : Dec (i < n) → (i < n → f i ≡ true) → f i ≡ true
    go (yes b) rest = rest b
    go (no b) rest =
        let e : n ≡ i = omega arith in
        rw e at (and_right (all_below n f) (f n) (sym (all_suc n f) ∙ h))

pub all_intro : (n : ℕ) (f : ℕ → Bool) → ((i : ℕ) → i < n → f i ≡ true) → all_below n f ≡ true
all_intro zero f h = all_none f
all_intro (suc n) f h =
    all_suc n f ∙ and_intro (all_below n f) (f n) (all_intro n f (λ i l. h i (omega arith))) (h n (omega arith))

-- two tests of each number are one test after the other
pub two_each : (a b x y : Bool) → (a && b && (x && y)) ≡ ((a && x) && (b && y))
two_each true true x y = refl
two_each true false x y = sym (and-false x)
two_each false b x y = refl

-- what `all` finds over a range of numbers
list_more : (f : ℕ → Bool) (n a j : ℕ) → a + n ≡ j → list_all f (range_with_len a (suc n)) ≡ (list_all f (range_with_len a n) && f j)
list_more f zero a j e = and-true (f a) ∙ ap f (omega arith)
list_more f (suc n) a j e =
    ap (λ (t : Bool). f a && t) (list_more f n (a + 1) j (omega arith))
    ∙ sym (and_assoc (f a) (list_all f (range_with_len (a + 1) n)) (f j))

pub all_listed : (n : ℕ) (f : ℕ → Bool) → list_all f (range_with_len 0 n) ≡ all_below n f
all_listed zero f = sym (all_none f)
all_listed (suc n) f =
    list_more f n 0 n (omega arith) ∙ ap (λ (t : Bool). t && f n) (all_listed n f) ∙ sym (all_suc n f)
