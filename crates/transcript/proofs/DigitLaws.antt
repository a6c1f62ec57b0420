-- The digits of a number: its last digit follows the digits of its tenth, 32 bits have 1 to 10 of them, the logarithm counts them, and
-- below 2^64 they are those that std prints.
use Prim.Native.Nat.{ℕ, zero, suc, ◌+◌, ◌*◌, ◌/◌, ◌%◌, ◌^◌, ◌≤◌, ◌<◌}
use native.Mathlib.Omega.{arith}
use native.Mathlib.Nat.{pow-suc}
use mathlib.Core.Path.{◌≡◌, refl, ◌∙◌, ap, subst}
use mathlib.Core.Bool.{Bool, true, false}
use mathlib.Core.List.{List, [], ◌∷◌, ◌++◌}
use lib.ListN.{length, length-append}
use lib.Dec.{ltb}
use borrow.Author.Tests.{lt-ltb, le-ltb, ltb-true, ltb-false}
use Rattle.std.specs.Prelude.{codes}
use Rattle.std.specs.Fmt.{decimal}
use Rattle.std.proofs.lemmas.Fmt.{AppendsLastDigit, decimal_from_appends, length-decimal-le_succ}
use Rattle.lemmas.proofs.Tests.{by_test}
use Rattle.transcript.specs.Text.{digits_in, digits}

-- any bound above the number gives the same digits
enough_in
    : (j k n : ℕ) (small : Bool) → (ltb n 10 ≡ small) → n < suc j → n < suc k
    → ((m : ℕ) → m < j → m < k → digits_in j (ltb m 10) m ≡ digits_in k (ltb m 10) m)
    → digits_in (suc j) small n ≡ digits_in (suc k) small n
unfolding digits_in
enough_in j k n true e p q same = refl
enough_in j k n false e p q same =
    let big : 10 ≤ n = ltb-false n 10 e in
    ap (λ (l : List ℕ). l ++ ((48 + n % 10) ∷ [])) (same (n / 10) (omega arith) (omega arith))

enough : (j k n : ℕ) → n < j → n < k → digits_in j (ltb n 10) n ≡ digits_in k (ltb n 10) n
enough zero k n p q = let no : ⊥ = omega arith in absurd no
enough (suc j) zero n p q = let no : ⊥ = omega arith in absurd no
enough (suc j) (suc k) n p q = enough_in j k n (ltb n 10) refl p q (λ m. enough j k m)

pub digits_one : (n : ℕ) → n < 10 → digits n ≡ (48 + n) ∷ []
unfolding digits digits_in
digits_one n h = ap (λ (small : Bool). digits_in (suc n) small n) (lt-ltb n 10 h)

pub digits_zero : digits 0 ≡ codes "0"
digits_zero = digits_one 0 (omega arith)

pub digits_more : (n : ℕ) → 10 ≤ n → digits n ≡ digits (n / 10) ++ ((48 + n % 10) ∷ [])
unfolding digits digits_in
digits_more n h =
    ap (λ (small : Bool). digits_in (suc n) small n) (le-ltb n 10 h)
    ∙ ap (λ (l : List ℕ). l ++ ((48 + n % 10) ∷ [])) (enough n (suc (n / 10)) (n / 10) (omega arith) (omega arith))

pub one_length : (n : ℕ) → n < 10 → length (digits n) ≡ 1
one_length n h = ap length (digits_one n h)

pub more_length : (n : ℕ) → 10 ≤ n → length (digits n) ≡ length (digits (n / 10)) + 1
more_length n h = ap length (digits_more n h) ∙ length-append (digits (n / 10)) ((48 + n % 10) ∷ [])

pub digits_some : (n : ℕ) → 1 ≤ length (digits n)
digits_some n =
    by_test (ltb n 10) (λ e. omega (arith, one_length n (ltb-true n 10 e))) (λ e. omega (arith, more_length n (ltb-false n 10 e)))

-- a number below a power of ten has no more digits than the power
pub digits_most : (k n : ℕ) → n < 10 ^ suc k → length (digits n) ≤ suc k
digits_most zero n h = omega (arith, one_length n h)
digits_most (suc k) n h =
    let small : n < 10 ^ suc k * 10 = subst (λ (m : ℕ). n < m) (pow-suc 10 (suc k)) h in
    let tenth : n / 10 < 10 ^ suc k = omega arith in
    let shorter : length (digits (n / 10)) ≤ suc k = digits_most k (n / 10) tenth in
    by_test (ltb n 10) (λ e. omega (arith, one_length n (ltb-true n 10 e))) (λ e. omega (arith, more_length n (ltb-false n 10 e)))

pub digits_ten : (n : ℕ) → n < 2 ^ 32 → length (digits n) ≤ 10
digits_ten n h = digits_most 9 n (omega arith)

pow_some : (k : ℕ) → 1 ≤ 10 ^ k
pow_some zero = omega arith
pow_some (suc k) = rw pow-suc (omega (arith, pow_some k))

-- a number from a power of ten on has more digits than the power
pub digits_least : (k n : ℕ) → 10 ^ k ≤ n → suc k ≤ length (digits n)
digits_least zero n h = digits_some n
digits_least (suc k) n h =
    let large : 10 ^ k * 10 ≤ n = subst (λ (m : ℕ). m ≤ n) (pow-suc 10 k) h in
    let tenth : 10 ^ k ≤ n / 10 = omega arith in
    omega (arith, more_length n (omega (arith, pow_some k)), digits_least k (n / 10) tenth)

-- so the logarithm says how many there are
pub log_length : (n k : ℕ) → 10 ^ k ≤ n → n < 10 * 10 ^ k → length (digits n) ≡ k + 1
log_length n k p q = omega (arith, digits_least k n p, digits_most k n (rw pow-suc (omega arith)))

up_to : ℕ → ℕ → List ℕ
up_to k n = digits_in k (ltb n 10) n

appends : AppendsLastDigit up_to
unfolding up_to digits_in
appends =
    record {
      one = λ k n h. simp (lt-ltb n 10 h);
      more = λ k n h. simp (le-ltb n 10 h);
    }

pub digits_decimal : (n : ℕ) → n < 2 ^ 64 → digits n ≡ decimal n
unfolding digits up_to
digits_decimal n h =
    decimal_from_appends up_to appends (suc n) n h (omega (arith, length-decimal-le_succ n h))
