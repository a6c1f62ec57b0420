-- The answer carries the first refusal that applies, and none where none applies; where the numbers rise, the first is the
-- lowest. A refused call leaves what was lent. Both at once are `orderly`.
use Prim.Native.Nat.{ℕ, ◌<◌, ◌≤◌}
use mathlib.Core.Path.{◌≡◌, refl, ◌∙◌, sym, ap}
use mathlib.Core.Bool.{true, false, true≢false}
use mathlib.Core.List.Memᴰ
use mathlib.Core.List.{List, [], ◌∷◌, Memᴰ}
use mathlib.Core.Logic.{◌⊎◌, inl, inr}
use native.Mathlib.Omega.{arith}
use lib.Dec.{ltb}
use borrow.Author.Tests.{ltb-true}
use Rattle.lemmas.proofs.Tests.{by_test, and_left, and_right}
use Rattle.std.specs.Prelude.{Result, Ok, Err}
use Rattle.checks.specs.declared.Refusal.{Refusal}
use Rattle.checks.specs.Checks.{Checked, Must, Either, Gives, must, outcome, mapped, left_by, accepted}
use Rattle.checks.specs.Refusals.{Possible, refusal_in, refusals_in, refusals_of, numbers_of, rises, lowest}
use Rattle.checks.specs.Lowest.{LowestFirst}

-- the ways that are not open refuse nothing
closed : {A : Type 0} (c : Checked A) (rest : List Possible) → lowest (refusals_in false c rest) ≡ lowest rest
unfolding lowest
closed (Must b n c) rest = closed c rest
closed (Either t x y) rest = closed x (refusals_in false y rest) ∙ closed y rest
closed (Gives a) rest = refl

-- every other that applies is above n, and at least the first
record Above (n first m : ℕ) : Type 0 where
  above : n < m
  least : first ≤ m

lowest_first
    : (n : ℕ) (rs : List Possible) → rises n (numbers_of rs) ≡ true → (r : Possible) → Memᴰ r rs → r.applies ≡ true
    → Above n (lowest rs) r.number
unfolding lowest rises numbers_of
lowest_first n [] up r m e = absurd (Memᴰ.not-nil m)
lowest_first n (x ∷ rs) up r m e =
    go (Memᴰ.cases_cons m)
    (lowest_first x.number rs (and_right (ltb n x.number) (rises x.number (numbers_of rs)) up) r)
  where
    h : n < x.number
    h = ltb-true n x.number (and_left (ltb n x.number) (rises x.number (numbers_of rs)) up)

    go
        : (r ≡ x) ⊎ Memᴰ r rs → (Memᴰ r rs → r.applies ≡ true → Above x.number (lowest rs) r.number)
        → Above n (lowest (x ∷ rs)) r.number
    go (inl s) rest =
        let k = h in
        let same : x.number ≡ r.number = ap (λ (y : Possible). y.number) (sym s) in
        let on : x.applies ≡ true = ap (λ (y : Possible). y.applies) (sym s) ∙ e in
        rw on (record { above = omega arith; least = omega arith })
    go (inr i) rest =
        let k = h in
        let later = rest i e in
        by_test x.applies
        (λ on. rw on (record { above = omega arith; least = omega arith }))
        (λ off. rw off (record { above = omega arith; least = later.least }))

first_in
    : {A : Type 0} (c : Checked A) (rest : List Possible) → lowest rest ≡ 0
    → refusal_in (outcome c) ≡ lowest (refusals_in true c rest)
unfolding lowest must
first_in (Must true n c) rest h = first_in c rest h
first_in (Must false n c) rest h = refl
first_in (Either true x y) rest h = first_in x (refusals_in false y rest) (closed y rest ∙ h)
first_in (Either false x y) rest h = first_in y rest h ∙ sym (closed x (refusals_in true y rest))
first_in (Gives a) rest h = sym h

-- the answer carries the first refusal that applies
pub first_applies : {A : Type 0} (c : Checked A) → refusal_in (outcome c) ≡ lowest (refusals_of c)
first_applies c = first_in c [] (unfold lowest in refl)

-- an answer told in another way has the same refusal
pub refusal_mapped : {A B : Type 0} (f : A → B) (x : Result A Refusal) → refusal_in (mapped f x) ≡ refusal_in x
refusal_mapped f (Ok a) = refl
refusal_mapped f (Err n) = refl

-- and is accepted where it is
pub accepted_mapped : {A B : Type 0} (f : A → B) (x : Result A Refusal) → accepted (mapped f x) ≡ accepted x
accepted_mapped f (Ok a) = refl
accepted_mapped f (Err n) = refl

-- a refusal leaves what was lent as it was
pub left_as_it_was : {A B : Type 0} (makes : A → B) (old : B) (x : Result A Refusal) → accepted x ≡ false → left_by makes old x ≡ old
left_as_it_was makes old (Ok a) h = absurd (true≢false h)
left_as_it_was makes old (Err n) h = refl

-- All of this at once: the numbers are as expected and rise, the answer has the refusal that the checks have, and a refused
-- call leaves what was lent.
pub orderly
    : {A B L : Type 0} {c : Checked A} {expected : List ℕ} {answer : Result B Refusal} {before after : L}
    → numbers_of (refusals_of c) ≡ expected → rises 0 expected ≡ true → refusal_in answer ≡ refusal_in (outcome c)
    → (accepted answer ≡ false → after ≡ before) → LowestFirst c expected answer before after
orderly {c = c} numbers rising same left =
    let first = same ∙ first_applies c in
    record {
      numbers = numbers;
      first = first;
      least = λ r m e. rw first (lowest_first 0 (refusals_of c) (ap (rises 0) numbers ∙ rising) r m e).least;
      leaves = left;
    }
