-- Why one `or` judges a whole cell: a cell is told by its bits, and a bit of an `or` stands where it stands in either.
use Prim.Native.Nat.{ℕ, zero, suc, ◌+◌, ◌*◌, ◌/◌, ◌%◌, ◌^◌, ◌<◌, max}
use mathlib.Core.Path.{◌≡◌, refl, ◌∙◌, sym, ap, ap₂}
use mathlib.Core.Bool.{Bool, true, false, not, ◌||◌, true≢false}
use native.Mathlib.Omega.{arith}
use native.Mathlib.Decide.{ℕ_discrete}
use native.Mathlib.Nat.{mod-eq_of_lt, mod-one}
use lib.Dec.{eqb}
use lib.Pow.{mod-pow-add}
use lib.Bits.{bit_or, or_shr, or_step, or_lt}
use borrow.Author.Tests.{eq-eqb, eqb-true}
use Rattle.lemmas.proofs.Tests.{by_test, same_test}
use Rattle.quorum.specs.Marks.{stands, marked, unmarked}
use Rattle.quorum.specs.Sets.{within}
use Rattle.quorum.proofs.MarkLaws.{digit_of, no_digit, of_digit, of_no_digit, stands-zero, stands_marked_other, stands_unmarked_same, stands_unmarked_other}
use Rattle.quorum.proofs.AllBelow.{all_at, all_intro}

digit_same : (a b i : ℕ) → stands a i ≡ stands b i → a / 2 ^ i % 2 ≡ b / 2 ^ i % 2
digit_same a b i e =
    by_test (stands a i)
    (λ t. digit_of a i t ∙ sym (digit_of b i (sym e ∙ t)))
    (λ t. no_digit a i t ∙ sym (no_digit b i (sym e ∙ t)))

low_same : (k a b : ℕ) → ((i : ℕ) → i < k → stands a i ≡ stands b i) → a % 2 ^ k ≡ b % 2 ^ k
low_same zero a b h = mod-one a ∙ sym (mod-one b)
low_same (suc k) a b h =
    let e : suc k ≡ 1 + k = omega arith in
    ap (λ (j : ℕ). a % 2 ^ j) e
    ∙ mod-pow-add a 1 k
    ∙ ap₂ (λ (x y : ℕ). x * 2 ^ k + y) (digit_same a b k (h k (omega arith))) (low_same k a b (λ i l. h i (omega arith)))
    ∙ sym (mod-pow-add b 1 k)
    ∙ ap (λ (j : ℕ). b % 2 ^ j) (sym e)

-- two cells with the same bits are equal
pub bits_same : (k a b : ℕ) → a < 2 ^ k → b < 2 ^ k → ((i : ℕ) → i < k → stands a i ≡ stands b i) → a ≡ b
bits_same k a b l m h = sym (mod-eq_of_lt l) ∙ low_same k a b h ∙ mod-eq_of_lt m

pub or_stands : (a b i : ℕ) → stands (bit_or a b) i ≡ (stands a i || stands b i)
or_stands a b i =
    let x : ℕ = a / 2 ^ i in
    let y : ℕ = b / 2 ^ i in
    let e : bit_or a b / 2 ^ i ≡ bit_or (x / 2) (y / 2) * 2 + max (x % 2) (y % 2) = or_shr a b i ∙ or_step x y in
    by_test (stands a i)
    (λ t.
    let d : x % 2 ≡ 1 = digit_of a i t in
    of_digit (bit_or a b) i (omega arith) ∙ sym (simp t))
    (λ t.
    let d : x % 2 ≡ 0 = no_digit a i t in
    by_test (stands b i)
    (λ u.
    let f : y % 2 ≡ 1 = digit_of b i u in
    of_digit (bit_or a b) i (omega arith) ∙ sym (simp (t, u)))
    (λ u.
    let f : y % 2 ≡ 0 = no_digit b i u in
    of_no_digit (bit_or a b) i (omega arith) ∙ sym (simp (t, u))))

or_absorbs : (p q : Bool) → (p || q) ≡ q → (not p || q) ≡ true
or_absorbs true q e = sym e
or_absorbs false q e = refl

absorbs_or : (p q : Bool) → (not p || q) ≡ true → (p || q) ≡ q
absorbs_or true q e = sym e
absorbs_or false q e = refl

pub mask_judges : (m legal : ℕ) → m < 2 ^ 32 → legal < 2 ^ 32 → eqb (bit_or m legal) legal ≡ within m legal
unfolding within
mask_judges m legal l k =
    same_test (eqb (bit_or m legal) legal) (within m legal)
    (λ e.
    let same = eqb-true (bit_or m legal) legal e in
    all_intro 32 (λ i. not (stands m i) || stands legal i)
    (λ i b.
    or_absorbs (stands m i) (stands legal i)
    (sym (or_stands m legal i) ∙ ap (λ (c : ℕ). stands c i) same)))
    (λ e.
    eq-eqb (bit_or m legal) legal
    (bits_same 32 (bit_or m legal) legal (or_lt 32 m legal l k) k
    (λ i b.
    or_stands m legal i
    ∙ absorbs_or (stands m i) (stands legal i) (all_at 32 (λ j. not (stands m j) || stands legal j) e i b))))

-- a cell with no mark, with one more legal mark, and with a mark removed
pub within-zero : (legal : ℕ) → within 0 legal ≡ true
unfolding within
within-zero legal =
    all_intro 32 (λ i. not (stands 0 i) || stands legal i) (λ i l. ap (λ (b : Bool). not b || stands legal i) (stands-zero i))

imply : (p q : Bool) → (p ≡ true → q ≡ true) → (not p || q) ≡ true
imply true q f = f refl
imply false q f = refl

pub within_at : (m legal i : ℕ) → within m legal ≡ true → i < 32 → stands m i ≡ true → stands legal i ≡ true
unfolding within
within_at m legal i w l e =
    let a = all_at 32 (λ j. not (stands m j) || stands legal j) w i l in
    sym (ap (λ (b : Bool). not b || stands legal i) e) ∙ a

pub within_intro : (m legal : ℕ) → ((i : ℕ) → i < 32 → stands m i ≡ true → stands legal i ≡ true) → within m legal ≡ true
unfolding within
within_intro m legal h =
    all_intro 32 (λ i. not (stands m i) || stands legal i) (λ i l. imply (stands m i) (stands legal i) (h i l))

pub within_marked : (m legal i : ℕ) → within m legal ≡ true → stands legal i ≡ true → within (marked m i) legal ≡ true
within_marked m legal i w e = within_intro (marked m i) legal (λ j l t. go j l t (ℕ_discrete j i))
  where
    go : (j : ℕ) → j < 32 → stands (marked m i) j ≡ true → Dec (j ≡ i) → stands legal j ≡ true
    go j l t (yes s) = ap (stands legal) s ∙ e
    go j l t (no n) = within_at m legal j w l (sym (stands_marked_other m i j n) ∙ t)

pub within_unmarked : (m legal i : ℕ) → within m legal ≡ true → within (unmarked m i) legal ≡ true
within_unmarked m legal i w = within_intro (unmarked m i) legal (λ j l t. go j l t (ℕ_discrete j i))
  where
    go : (j : ℕ) → j < 32 → stands (unmarked m i) j ≡ true → Dec (j ≡ i) → stands legal j ≡ true
    go j l t (yes s) = absurd (true≢false (sym t ∙ ap (stands (unmarked m i)) s ∙ stands_unmarked_same m i))
    go j l t (no n) = within_at m legal j w l (sym (stands_unmarked_other m i j n) ∙ t)
