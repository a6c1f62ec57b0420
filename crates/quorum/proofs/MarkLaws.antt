-- Laws of a mark cell: what stands after a mark is set or removed, and how large the cell is then.
use Prim.Native.Nat.{ℕ, suc, ◌+◌, ◌-◌, ◌*◌, ◌/◌, ◌%◌, ◌^◌, ◌<◌, ◌≤◌, max}
use mathlib.Core.Path.{◌≡◌, refl, ◌∙◌, sym, ap}
use mathlib.Core.Bool.{Bool, true, false, not, ◌&&◌, cond, true≢false}
use native.Mathlib.Omega.{arith}
use native.Mathlib.Decide.{dec_lt}
use native.Mathlib.Nat.{add-div_right, add-mul-div_right, div-eq_of_lt, pow-suc, mod-lt, div-add-mod', lt_of_lt_of_le}
use lib.Dec.{eqb, ltb}
use lib.Pow.{pow_pos, pow-add, pow_mono, shr-shr}
use lib.Bits.{bit_or, or_block, or_step, or_zero_r}
use borrow.Author.Tests.{eq-eqb, ne_eqb, eqb-true, eqb-false, lt-ltb, le-ltb}
use Rattle.quorum.specs.Marks.{stands, marked, unmarked}
use Rattle.lemmas.proofs.Tests.{by_test}

-- the digit behind the test
pub digit_of : (m i : ℕ) → stands m i ≡ true → m / 2 ^ i % 2 ≡ 1
unfolding stands
digit_of m i e = eqb-true (m / 2 ^ i % 2) 1 e

pub no_digit : (m i : ℕ) → stands m i ≡ false → m / 2 ^ i % 2 ≡ 0
unfolding stands
no_digit m i e =
    let b : m / 2 ^ i % 2 < 2 = omega arith in
    let n : m / 2 ^ i % 2 ≡ 1 → ⊥ = eqb-false (m / 2 ^ i % 2) 1 e in
    omega arith

pub of_digit : (m i : ℕ) → m / 2 ^ i % 2 ≡ 1 → stands m i ≡ true
unfolding stands
of_digit m i e = eq-eqb (m / 2 ^ i % 2) 1 e

pub of_no_digit : (m i : ℕ) → m / 2 ^ i % 2 ≡ 0 → stands m i ≡ false
unfolding stands
of_no_digit m i e = ne_eqb (m / 2 ^ i % 2) 1 (omega arith)

-- two cells with the same digit at a bit agree there
same_digit : (m n i : ℕ) → m / 2 ^ i % 2 ≡ n / 2 ^ i % 2 → stands m i ≡ stands n i
unfolding stands
same_digit m n i e = ap (λ (x : ℕ). eqb x 1) e

-- a cell below 2 ^ i has no bit i
pub stands_small : (m i : ℕ) → m < 2 ^ i → stands m i ≡ false
stands_small m i h = of_no_digit m i (ap (λ (x : ℕ). x % 2) (div-eq_of_lt h))

-- a cell has no bit 32 or above
pub stands_beyond : (m i : ℕ) → m < 2 ^ 32 → 32 ≤ i → stands m i ≡ false
stands_beyond m i f h = stands_small m i (lt_of_lt_of_le f (pow_mono h))

pub stands-zero : (i : ℕ) → stands 0 i ≡ false
stands-zero i = stands_small 0 i (pow_pos i)

-- a bit below the one that is added stays
add_below : (m j k : ℕ) → stands (m + 2 ^ (j + suc k)) j ≡ stands m j
add_below m j k =
    let e : 2 ^ (j + suc k) ≡ 2 ^ suc k * 2 ^ j = pow-add 2 j (suc k) ∙ native.Mathlib.Nat.mul_comm (2 ^ j) (2 ^ suc k) in
    let q : (m + 2 ^ suc k * 2 ^ j) / 2 ^ j ≡ m / 2 ^ j + 2 ^ suc k = add-mul-div_right m (2 ^ suc k) (pow_pos j) in
    let r : (m + 2 ^ (j + suc k)) / 2 ^ j ≡ m / 2 ^ j + 2 ^ suc k = ap (λ (x : ℕ). (m + x) / 2 ^ j) e ∙ q in
    let s : 2 ^ suc k ≡ 2 ^ k * 2 = pow-suc 2 k in
    same_digit (m + 2 ^ (j + suc k)) m j (omega arith)

-- a bit above the one that is added stays, where the added bit did not stand
add_above : (m i k : ℕ) → stands m i ≡ false → stands (m + 2 ^ i) (i + suc k) ≡ stands m (i + suc k)
add_above m i k e =
    let z : m / 2 ^ i % 2 ≡ 0 = no_digit m i e in
    let q : (m + 2 ^ i) / 2 ^ i ≡ m / 2 ^ i + 1 = add-div_right m (pow_pos i) in
    let half : (m / 2 ^ i + 1) / 2 ≡ m / 2 ^ i / 2 = omega arith in
    let n : i + suc k ≡ i + (1 + k) = omega arith in
    let deep : (x : ℕ) → x / 2 ^ (i + suc k) ≡ x / 2 ^ i / 2 / 2 ^ k =
    λ x. ap (λ (y : ℕ). x / 2 ^ y) n ∙ sym (shr-shr x i (1 + k)) ∙ sym (shr-shr (x / 2 ^ i) 1 k) in
    same_digit (m + 2 ^ i) m (i + suc k)
    (ap (λ (y : ℕ). y % 2)
    (deep (m + 2 ^ i) ∙ ap (λ (y : ℕ). y / 2 / 2 ^ k) q ∙ ap (λ (y : ℕ). y / 2 ^ k) half ∙ sym (deep m)))

pub add_same : (m i : ℕ) → stands m i ≡ false → stands (m + 2 ^ i) i ≡ true
add_same m i e =
    let z : m / 2 ^ i % 2 ≡ 0 = no_digit m i e in
    let q : (m + 2 ^ i) / 2 ^ i ≡ m / 2 ^ i + 1 = add-div_right m (pow_pos i) in
    of_digit (m + 2 ^ i) i (omega arith)

pub add_other : (m i j : ℕ) → stands m i ≡ false → (j ≡ i → ⊥) → stands (m + 2 ^ i) j ≡ stands m j
add_other m i j e h = go (dec_lt j i)
  where
    go : Dec (j < i) → stands (m + 2 ^ i) j ≡ stands m j
    go (yes l) =
        let n : j + suc (i - suc j) ≡ i = omega arith in
        rw n at (add_below m j (i - suc j))
    go (no l) =
        let n : i + suc (j - suc i) ≡ j = omega arith in
        rw n at (add_above m i (j - suc i) e)

-- a cell with bit i is a cell without it and 2 ^ i
pub at_least : (m i : ℕ) → stands m i ≡ true → 2 ^ i ≤ m
at_least m i e = go (dec_lt m (2 ^ i))
  where
    go : Dec (m < 2 ^ i) → 2 ^ i ≤ m
    go (yes l) = absurd (true≢false (sym e ∙ stands_small m i l))
    go (no l) = omega arith

-- a bit that stands in a 32-bit cell is below 32
pub low_bit : (m i : ℕ) → m < 2 ^ 32 → stands m i ≡ true → i < 32
low_bit m i f e = go (dec_lt i 32)
  where
    go : Dec (i < 32) → i < 32
    go (yes l) = l
    go (no l) = absurd (true≢false (sym e ∙ stands_beyond m i f (omega arith)))

pub sub_same : (m i : ℕ) → stands m i ≡ true → stands (m - 2 ^ i) i ≡ false
sub_same m i e =
    let l : 2 ^ i ≤ m = at_least m i e in
    let q : (m - 2 ^ i + 2 ^ i) / 2 ^ i ≡ (m - 2 ^ i) / 2 ^ i + 1 = add-div_right (m - 2 ^ i) (pow_pos i) in
    let s : m - 2 ^ i + 2 ^ i ≡ m = omega arith in
    let t : m / 2 ^ i ≡ (m - 2 ^ i) / 2 ^ i + 1 = ap (λ (x : ℕ). x / 2 ^ i) (sym s) ∙ q in
    let o : m / 2 ^ i % 2 ≡ 1 = digit_of m i e in
    of_no_digit (m - 2 ^ i) i (omega arith)

pub sub_other : (m i j : ℕ) → stands m i ≡ true → (j ≡ i → ⊥) → stands (m - 2 ^ i) j ≡ stands m j
sub_other m i j e h =
    let l : 2 ^ i ≤ m = at_least m i e in
    let s : m - 2 ^ i + 2 ^ i ≡ m = omega arith in
    sym (add_other (m - 2 ^ i) i j (sub_same m i e) h) ∙ ap (λ (x : ℕ). stands x j) s

-- the two cases of setting a mark
pub marked_new : (m i : ℕ) → i < 32 → stands m i ≡ false → marked m i ≡ m + 2 ^ i
unfolding marked
marked_new m i h e = simp (lt-ltb i 32 h, e)

pub marked_old : (m i : ℕ) → stands m i ≡ true → marked m i ≡ m
unfolding marked
marked_old m i e = go (ltb i 32)
  where
    go : (b : Bool) → cond (b && not (stands m i)) (m + 2 ^ i) m ≡ m
    go true = simp e
    go false = refl

pub marked_out : (m i : ℕ) → 32 ≤ i → marked m i ≡ m
unfolding marked
marked_out m i h = simp (le-ltb i 32 h)

pub stands_marked_same : (m i : ℕ) → i < 32 → stands (marked m i) i ≡ true
stands_marked_same m i h =
    by_test (stands m i)
    (λ e. ap (λ (x : ℕ). stands x i) (marked_old m i e) ∙ e)
    (λ e. ap (λ (x : ℕ). stands x i) (marked_new m i h e) ∙ add_same m i e)

pub stands_marked_other : (m i j : ℕ) → (j ≡ i → ⊥) → stands (marked m i) j ≡ stands m j
stands_marked_other m i j n = go (dec_lt i 32)
  where
    go : Dec (i < 32) → stands (marked m i) j ≡ stands m j
    go (yes h) =
        by_test (stands m i)
        (λ e. ap (λ (x : ℕ). stands x j) (marked_old m i e))
        (λ e. ap (λ (x : ℕ). stands x j) (marked_new m i h e) ∙ add_other m i j e n)
    go (no h) = ap (λ (x : ℕ). stands x j) (marked_out m i (omega arith))

-- the two cases of removing a mark
pub unmarked_old : (m i : ℕ) → stands m i ≡ true → unmarked m i ≡ m - 2 ^ i
unfolding unmarked
unmarked_old m i e = simp e

pub unmarked_none : (m i : ℕ) → stands m i ≡ false → unmarked m i ≡ m
unfolding unmarked
unmarked_none m i e = simp e

pub stands_unmarked_same : (m i : ℕ) → stands (unmarked m i) i ≡ false
stands_unmarked_same m i =
    by_test (stands m i)
    (λ e. ap (λ (x : ℕ). stands x i) (unmarked_old m i e) ∙ sub_same m i e)
    (λ e. ap (λ (x : ℕ). stands x i) (unmarked_none m i e) ∙ e)

pub stands_unmarked_other : (m i j : ℕ) → (j ≡ i → ⊥) → stands (unmarked m i) j ≡ stands m j
stands_unmarked_other m i j n =
    by_test (stands m i)
    (λ e. ap (λ (x : ℕ). stands x j) (unmarked_old m i e) ∙ sub_other m i j e n)
    (λ e. ap (λ (x : ℕ). stands x j) (unmarked_none m i e))

-- what the machine's `or` with one bit makes is the cell with that bit set
pub or_marks : (m i : ℕ) → i < 32 → bit_or m (2 ^ i) ≡ marked m i
or_marks m i h =
    let a : ℕ = m / 2 ^ i in
    let r : ℕ = m % 2 ^ i in
    let split : a * 2 ^ i + r ≡ m = div-add-mod' m (2 ^ i) in
    let one : 1 * 2 ^ i + 0 ≡ 2 ^ i = omega arith in
    let high : bit_or a 1 ≡ a / 2 * 2 + max (a % 2) 1 = or_step a 1 ∙ ap (λ (x : ℕ). x * 2 + max (a % 2) 1) (or_zero_r (a / 2)) in
    let whole : bit_or m (2 ^ i) ≡ bit_or a 1 * 2 ^ i + r =
    sym (ap (λ (x : ℕ). bit_or x (2 ^ i)) split)
    ∙ sym (ap (λ (x : ℕ). bit_or (a * 2 ^ i + r) x) one)
    ∙ or_block i a 1 r 0 (mod-lt m (pow_pos i)) (pow_pos i)
    ∙ ap (λ (x : ℕ). bit_or a 1 * 2 ^ i + x) (or_zero_r r) in
    by_test (stands m i)
    (λ e.
    let o : a % 2 ≡ 1 = digit_of m i e in
    let keep : bit_or a 1 ≡ a = omega arith in
    whole ∙ ap (λ (x : ℕ). x * 2 ^ i + r) keep ∙ split ∙ sym (marked_old m i e))
    (λ e.
    let o : a % 2 ≡ 0 = no_digit m i e in
    let more : bit_or a 1 ≡ a + 1 = omega arith in
    let grown : (a + 1) * 2 ^ i + r ≡ m + 2 ^ i = omega arith in
    whole ∙ ap (λ (x : ℕ). x * 2 ^ i + r) more ∙ grown ∙ sym (marked_new m i h e))
