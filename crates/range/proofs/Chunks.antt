-- Blocks by their cells, four at a time, and a row of cells in chunks.
use Prim.Native.Nat.{ℕ, zero, suc, ◌+◌, ◌*◌, ◌/◌, ◌<◌}
use mathlib.Core.Path.{◌≡◌, refl, ◌∙◌, sym, ap, ap₂}
use mathlib.Core.Bool.{Bool, true, ◌&&◌, and-true, and_assoc}
use mathlib.Core.List.{List, [], ◌∷◌, ◌++◌}
use native.Mathlib.Omega.{arith}
use lib.ListN.{length, take, drop}
use Rattle.std.specs.List.{zip}
use Rattle.std.specs.List.{fold, list_all}
use Rattle.std.specs.Simd.{first_chunks}
use Rattle.std.proofs.Math.Nat.{div-eq_of_lt, add-div_left}
use Rattle.std.proofs.Math.Seq.{take-append_seam, drop-append_seam}
use Rattle.std.proofs.lemmas.List.{take-append-drop, drop-drop, length-append}
use Rattle.std.proofs.lemmas.Iterator.{YieldsList}
use Rattle.std.proofs.lemmas.Iterator.Splits.{YieldsList-from_shown_while}
use native.Mathlib.Numerals.{add-one}
use Rattle.std.proofs.Common.{Option, Some, None}
use denote.Ref.{Bor}
use Rattle.std.proofs.lemmas.List.Folds.{list_all-append, list_all-map}
use Rattle.lemmas.proofs.Tests.{and_left, and_right, and_intro}
use Rattle.quorum.proofs.AllBelow.{two_each}
use Rattle.quorum.specs.Sets.{all_below}
use Rattle.state.specs.declared.Block.{Block}
use Rattle.state.specs.Block.{same_block}
use Rattle.layout.specs.Cells.{block_in}
use Rattle.range.specs.Range.{blocks_of, every_block, every_pair}
use Rattle.range.proofs.Together.{same_block_lem}

-- one test follows from another, and two tests are one after the other
pub list_all_then
    : {X : Type 0} (f g : X → Bool) → ((x : X) → f x ≡ true → g x ≡ true) → (xs : List X) → list_all f xs ≡ true
    → list_all g xs ≡ true
list_all_then f g h [] e = refl
list_all_then f g h (x ∷ xs) e =
    and_intro (g x) (list_all g xs) (h x (and_left (f x) (list_all f xs) e))
    (list_all_then f g h xs (and_right (f x) (list_all f xs) e))

pub list_all_both
    : {X : Type 0} (f g : X → Bool) (xs : List X) → list_all (λ x. f x && g x) xs ≡ (list_all f xs && list_all g xs)
list_all_both f g [] = refl
list_all_both f g (x ∷ xs) =
    ap (λ (t : Bool). f x && g x && t) (list_all_both f g xs) ∙ two_each (f x) (g x) (list_all f xs) (list_all g xs)

-- tests that are gathered with no branch
pub fold_all : {X : Type 0} (f : X → Bool) (a : Bool) (xs : List X) → fold (λ (all : Bool) (x : X). all && f x) a xs ≡ (a && list_all f xs)
fold_all f a [] = sym (and-true a)
fold_all f a (x ∷ xs) = fold_all f (a && f x) xs ∙ and_assoc a (f x) (list_all f xs)

-- blocks that are equal to others, one by one
pub same_pairs
    : (xs ys : List (List ℕ)) → length xs ≡ length ys → every_pair same_block xs ys ≡ true → blocks_of ys ≡ blocks_of xs
same_pairs [] [] l e = refl
same_pairs [] (y ∷ ys) l e = absurd (omega arith)
same_pairs (x ∷ xs) [] l e = absurd (omega arith)
same_pairs (x ∷ xs) (y ∷ ys) l e =
    let one = same_block (block_in x 0) (block_in y 0) in
    let rest = list_all (λ (p : List ℕ × List ℕ). same_block (block_in p.0 0) (block_in p.1 0)) (zip xs ys) in
    let here = same_block_lem (block_in x 0) (block_in y 0) (and_left one rest e) in
    let others = same_pairs xs ys (omega arith) (and_right one rest e) in
    λ i. sym here i ∷ others i

pub like_four
    : (p : Block → Bool) (xs ys : List (List ℕ)) → blocks_of ys ≡ blocks_of xs → every_block p xs ≡ true → every_block p ys ≡ true
like_four p xs ys e h =
    sym (list_all-map p (λ cells. block_in cells 0) ys) ∙ ap (list_all p) e ∙ list_all-map p (λ cells. block_in cells 0) xs ∙ h

-- a test of every one, by the first m chunks of n and the rest
pub in_parts
    : {X : Type 0} (q : X → Bool) (n m : ℕ) (xs : List X)
    → list_all q xs ≡ (list_all (list_all q) (first_chunks n m xs) && list_all q (drop (m * n) xs))
in_parts {X = X} q n zero xs = let e : 0 ≡ 0 * n = omega arith in ap (λ (k : ℕ). list_all q (drop k xs)) e
in_parts {X = X} q n (suc m) xs =
    let e : n + m * n ≡ suc m * n = omega arith in
    ap (list_all q) (sym (take-append-drop n xs))
    ∙ list_all-append q (take n xs) (drop n xs)
    ∙ ap (λ (t : Bool). list_all q (take n xs) && t) (in_parts q n m (drop n xs))
    ∙ sym (and_assoc (list_all q (take n xs)) (list_all (list_all q) (first_chunks n m (drop n xs))) (list_all q (drop (m * n) (drop n xs))))
    ∙ ap (λ (t : List X). list_all (list_all q) (first_chunks n (suc m) xs) && list_all q t) (drop-drop (m * n) n xs ∙ ap (λ (k : ℕ). drop k xs) e)

-- a test of the numbers below suc m, from the first on
all_first : (m : ℕ) (f : ℕ → Bool) → all_below (suc m) f ≡ (f 0 && all_below m (λ j. f (suc j)))
unfolding all_below
all_first zero f = sym (and-true (f 0))
all_first (suc m) f =
    ap (λ (t : Bool). t && f (suc m)) (all_first m f) ∙ and_assoc (f 0) (all_below m (λ j. f (suc j))) (f (suc m))

-- a test of every chunk is one of every number of a chunk
pub every_chunk
    : {X : Type 0} (q : List X → Bool) (n m : ℕ) (xs : List X)
    → list_all q (first_chunks n m xs) ≡ all_below m (λ j. q (take n (drop (j * n) xs)))
unfolding all_below
every_chunk q n zero xs = refl
every_chunk {X = X} q n (suc m) xs =
    let first : 0 ≡ 0 * n = omega arith in
    let next : (j : ℕ) → drop (j * n) (drop n xs) ≡ drop (suc j * n) xs
    = λ j. let e : n + j * n ≡ suc j * n = omega arith in drop-drop (j * n) n xs ∙ ap (λ (k : ℕ). drop k xs) e in
    ap (λ (t : Bool). q (take n xs) && t) (every_chunk q n m (drop n xs) ∙ (λ i. all_below m (λ j. q (take n (next j i)))))
    ∙ ap (λ (k : ℕ). q (take n (drop k xs)) && all_below m (λ j. q (take n (drop (suc j * n) xs)))) first
    ∙ sym (all_first m (λ j. q (take n (drop (j * n) xs))))

pub all_below_same : (n : ℕ) (f g : ℕ → Bool) → ((i : ℕ) → i < n → f i ≡ g i) → all_below n f ≡ all_below n g
unfolding all_below
all_below_same zero f g h = refl
all_below_same (suc n) f g h = ap₂ ◌&&◌ (all_below_same n f g (λ i l. h i (omega arith))) (h n (omega arith))

one_more
    : (n m : ℕ) (a b xs : List ℕ) → xs ≡ a ++ b → length a ≡ n → m ≡ suc (length b / n)
    → first_chunks n m xs ≡ a ∷ first_chunks n (length b / n) b
one_more n m a b xs e l h =
    ap₂ (λ (k : ℕ) (t : List ℕ). first_chunks n k t) h e
    ∙ (λ i. front i ∷ first_chunks n (length b / n) (back i))
  where
    front : take n (a ++ b) ≡ a
    front = ap (λ (k : ℕ). take k (a ++ b)) (sym l) ∙ take-append_seam a b

    back : drop n (a ++ b) ≡ b
    back = ap (λ (k : ℕ). drop k (a ++ b)) (sym l) ∙ drop-append_seam a b

length_chunks : (n m : ℕ) (xs : List ℕ) → length (first_chunks n m xs) ≡ m
length_chunks n zero xs = refl
length_chunks n (suc m) xs = ap suc (length_chunks n m (drop n xs))

-- what an iterator gives that takes off whole chunks, as `chunks_exact` does
module _
    {S : Type 0} (size : S → ℕ) (rest : S → List ℕ) (steps : S → Option (Bor (List ℕ)) → S → Type 0)
    (ends : (s t : S) → steps s None t → length (rest s) < size s)
    (takes
    : (s : S) (x : Bor (List ℕ)) (t : S) → steps s (Some x) t
    → (size t ≡ size s) × (rest s ≡ x.now ++ rest t) × (length x.now ≡ size s))
  where
    abbrev shown : S → List (List ℕ)
    shown s = first_chunks (size s) (length (rest s) / size s) (rest s)

    none : (s t : S) → 0 < size s → steps s None t → length (shown s) ≡ 0
    none s t p e = length_chunks (size s) (length (rest s) / size s) (rest s) ∙ div-eq_of_lt (ends s t e)

    some
        : (s : S) (x : Bor (List ℕ)) (t : S) → 0 < size s → steps s (Some x) t → (0 < size t) × (shown s ≡ x.now ∷ shown t)
    some s x t p e =
        let k = takes s x t e in
        let same : size t ≡ size s = k.0 in
        let long : length (rest s) ≡ size s + length (rest t)
        = ap length k.1 ∙ length-append x.now (rest t) ∙ ap (λ (j : ℕ). j + length (rest t)) k.2 in
        let more : length (rest s) / size s ≡ suc (length (rest t) / size s)
        = ap (λ (j : ℕ). j / size s) long ∙ add-div_left (length (rest t)) p ∙ add-one (length (rest t) / size s) in (
          omega arith,
          one_more (size s) (length (rest s) / size s) x.now (rest t) (rest s) k.1 k.2 more
              ∙ ap (λ (j : ℕ). x.now ∷ first_chunks j (length (rest t) / j) (rest t)) (sym same),
        )

    pub chunks_given : (s : S) → 0 < size s → YieldsList steps (λ x. x.now) s (shown s)
    chunks_given s h = YieldsList-from_shown_while steps (λ x. x.now) shown (λ t. 0 < size t) none some s h
