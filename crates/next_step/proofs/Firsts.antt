-- The first of the steps that are listed for the numbers kept by tests is the step for the number that a search finds.
use Prim.Native.Nat.{ℕ, zero, suc, ◌+◌, ◌<◌, ◌≤◌}
use mathlib.Core.Path.{◌≡◌, refl, ◌∙◌, sym, ap}
use mathlib.Core.Bool.{Bool, ◌&&◌, cond}
use mathlib.Core.List.{List, [], ◌∷◌, ◌++◌, map}
use Rattle.lemmas.proofs.Tests.{by_test}
use Rattle.std.specs.Prelude.{Option, None, Some, is_some, filter, flat_map, option_map, option_and_then}
use native.Mathlib.Omega.{arith}
use Rattle.std.specs.List.{find, range_with_len}
use Rattle.std.specs.Option.{option_or}
use Rattle.std.proofs.lemmas.Iterator.Adapters.{option_map_id}
use Rattle.state.specs.declared.Step.{Step}
use Rattle.progress.specs.Next.{first}

-- one step for each number kept
first_kept : (h : ℕ → Step) (t : ℕ → Bool) (xs : List ℕ) → option_map h (find t xs) ≡ first (map h (filter t xs))
first_kept h t [] = refl
first_kept h t (x ∷ xs) = by_test (t x) (λ e. rw e refl) (λ e. rw e (first_kept h t xs))

pub found_once
    : (h : ℕ → Step) (t : ℕ → Bool) (xs : List ℕ) (r : Option ℕ) → option_map (λ x. x) r ≡ find t xs
    → option_map h r ≡ first (map h (filter t xs))
found_once h t xs r e = ap (option_map h) (sym (option_map_id r) ∙ e) ∙ first_kept h t xs

-- the numbers kept by two tests in turn
kept_twice : (t u : ℕ → Bool) (xs : List ℕ) → filter (λ x. u x && t x) xs ≡ filter t (filter u xs)
kept_twice t u [] = refl
kept_twice t u (x ∷ xs) =
    by_test (u x)
    (λ e.
    by_test (t x)
    (λ f. rw (e, f) (ap (λ ys. x ∷ ys) (kept_twice t u xs)))
    (λ f. rw (e, f) (kept_twice t u xs)))
    (λ e. rw e (kept_twice t u xs))

pub found_twice
    : (h : ℕ → Step) (t u : ℕ → Bool) (xs : List ℕ) (r : Option ℕ)
    → option_map (λ x. x) r ≡ find (λ x. u x && t x) xs → option_map h r ≡ first (map h (filter t (filter u xs)))
found_twice h t u xs r e = found_once h (λ x. u x && t x) xs r e ∙ ap (λ ys. first (map h ys)) (kept_twice t u xs)

-- several steps for each number
first_of_both : (ss ts : List Step) → option_or (first ss) (first ts) ≡ first (ss ++ ts)
first_of_both [] ts = refl
first_of_both (st ∷ ss) ts = refl

picked
    : (f : ℕ → Option Step) (x : ℕ) (rest : Option ℕ) (o : Option Step) → f x ≡ o
    → option_and_then f (cond (is_some o) (Some x) rest) ≡ option_or o (option_and_then f rest)
picked f x rest None e = refl
picked f x rest (Some st) e = e

first_of_each
    : (f : ℕ → List Step) (u : ℕ → Bool) (xs : List ℕ)
    → option_and_then (λ x. first (f x)) (find (λ x. u x && is_some (first (f x))) xs) ≡ first (flat_map f (filter u xs))
first_of_each f u [] = refl
first_of_each f u (x ∷ xs) =
    by_test (u x)
    (λ e.
    rw e
    (picked (λ y. first (f y)) x (find (λ y. u y && is_some (first (f y))) xs) (first (f x)) refl
    ∙ ap (option_or (first (f x))) (first_of_each f u xs)
    ∙ first_of_both (f x) (flat_map f (filter u xs))))
    (λ e. rw e (first_of_each f u xs))

pub found_among
    : (f : ℕ → List Step) (u : ℕ → Bool) (xs : List ℕ) (r : Option ℕ)
    → option_map (λ x. x) r ≡ find (λ x. u x && is_some (first (f x))) xs
    → option_and_then (λ x. first (f x)) r ≡ first (flat_map f (filter u xs))
found_among f u xs r e = ap (option_and_then (λ x. first (f x))) (sym (option_map_id r) ∙ e) ∙ first_of_each f u xs

-- two tests that agree on the numbers of a range keep the same of them
pub filter_same
    : (f g : ℕ → Bool) (a n : ℕ) → ((x : ℕ) → a ≤ x → x < a + n → f x ≡ g x)
    → filter f (range_with_len a n) ≡ filter g (range_with_len a n)
filter_same f g a zero same = refl
filter_same f g a (suc n) same =
    let rest : filter f (range_with_len (a + 1) n) ≡ filter g (range_with_len (a + 1) n) =
    filter_same f g (a + 1) n (λ x l m. same x (omega arith) (omega arith)) in
    rw (same a (omega arith) (omega arith), rest) refl
