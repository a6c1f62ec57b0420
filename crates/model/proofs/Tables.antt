-- Tables: a place of one, two that are the same, one with a place changed, a test of each place, and the cells of its parts.
use Prim.Native.Nat.{ℕ, zero, suc, ◌+◌, ◌*◌, ◌<◌, ◌≤◌}
use mathlib.Core.Path.{◌≡◌, refl, ◌∙◌, sym, ap, ap₂, subst}
use mathlib.Core.Bool.{Bool, ◌&&◌, and-true, and_assoc}
use mathlib.Core.List.{List, ◌∷◌, ◌++◌, map}
use native.Mathlib.Omega.{arith}
use native.Mathlib.Nat.{add-zero}
use lib.ListN.{length, get_or, set, take, drop}
use lib.Seq.{take-add, drop-drop, get_or-set_same, get_or-set_other}
use Rattle.std.specs.List.{list_all, flat_map, range_with_len}
use Rattle.std.proofs.lemmas.List.FromFn.{length-map-range_with_len, get_or-map-range_with_len, fill_by_all}
use Rattle.std.proofs.lemmas.List.Folds.{list_all-map}
use Rattle.quorum.specs.Sets.{all_below}
use Rattle.quorum.proofs.AllBelow.{all_listed}
use Rattle.synod.specs.Slot.{updated}
use Rattle.synod.proofs.Update.{everywhere}
use Rattle.model.specs.Encoding.{table}

-- n cells of a row from a place on
abbrev pub part : List ℕ → ℕ → ℕ → List ℕ
part cells at n = take n (drop at cells)

module _ {A : Type 0} where
  -- a list with one place changed, as a function of the place
  pub got_set : (l : List A) (i : ℕ) (a d : A) → i < length l → (j : ℕ) → get_or (set l i a) j d ≡ updated (λ k. get_or l k d) i a j
  got_set l i a d h =
      everywhere (λ j x. get_or (set l i a) j d ≡ x) (λ k. get_or l k d) i a (get_or-set_same l i a d h)
      (λ j n. get_or-set_other l i j a d n)

  -- what holds at the changed place and at the others holds at every place
  pub held_set
      : (P : ℕ → A → Type 0) (l : List A) (i : ℕ) (a d : A) → i < length l → P i a → ((j : ℕ) → (j ≡ i → ⊥) → P j (get_or l j d)) → (j : ℕ)
      → P j (get_or (set l i a) j d)
  held_set P l i a d h here there j = subst (P j) (sym (got_set l i a d h j)) (everywhere P (λ k. get_or l k d) i a here there j)

  pub table_at : (n : ℕ) (f : ℕ → A) (d : A) (i : ℕ) → i < n → get_or (table n f) i d ≡ f i
  table_at n f d i h = get_or-map-range_with_len f 0 n i i d h (omega arith)

  pub table_length : (n : ℕ) (f : ℕ → A) → length (table n f) ≡ n
  table_length n f = length-map-range_with_len f 0 n

  pub table_of : (l : List A) (n : ℕ) (d : A) → length l ≡ n → table n (λ i. get_or l i d) ≡ l
  table_of l n d e = sym (fill_by_all (λ i. get_or l i d) l n d e (λ k h. refl))

  pub table_same : (n : ℕ) (f g : ℕ → A) → ((i : ℕ) → i < n → f i ≡ g i) → table n f ≡ table n g
  table_same n f g h =
      fill_by_all g (table n f) n (f 0) (table_length n f) (λ k l. table_at n f (f 0) k l ∙ h k l)

  pub table_all : (n : ℕ) (f : ℕ → A) (q : A → Bool) → list_all q (table n f) ≡ all_below n (λ i. q (f i))
  table_all n f q = list_all-map q f (range_with_len 0 n) ∙ all_listed n (λ i. q (f i))

-- a test of the numbers below n + m, and below d * n
all_more : (n m : ℕ) (f : ℕ → Bool) → all_below (n + m) f ≡ (all_below n f && all_below m (λ j. f (n + j)))
unfolding all_below
all_more n zero f = ap (λ (k : ℕ). all_below k f) (add-zero n) ∙ sym (and-true (all_below n f))
all_more n (suc m) f =
    let e : n + suc m ≡ suc (n + m) = omega arith in
    ap (λ (k : ℕ). all_below k f) e
    ∙ ap (λ (t : Bool). t && f (n + m)) (all_more n m f)
    ∙ and_assoc (all_below n f) (all_below m (λ j. f (n + j))) (f (n + m))

pub all_rows : (d n : ℕ) (f : ℕ → Bool) → all_below (d * n) f ≡ all_below d (λ i. all_below n (λ j. f (i * n + j)))
unfolding all_below
all_rows zero n f = let e : 0 * n ≡ 0 = omega arith in ap (λ (k : ℕ). all_below k f) e
all_rows (suc d) n f =
    let e : suc d * n ≡ d * n + n = omega arith in
    ap (λ (k : ℕ). all_below k f) e
    ∙ all_more (d * n) n f
    ∙ ap (λ (t : Bool). t && all_below n (λ j. f (d * n + j))) (all_rows d n f)

module _ (cells : List ℕ) where
  -- the cells one by one
  pub one_by_one
      : (n a at : ℕ) → at + a + n ≤ length cells → part cells (at + a) n ≡ map (λ i. get_or cells (at + i) 0) (range_with_len a n)
  one_by_one zero a at h = refl
  one_by_one (suc n) a at h =
      let e : suc (at + a) ≡ at + (a + 1) = omega arith in
      ap (take (suc n)) (lib.Seq.drop-cons cells (at + a) 0 (omega arith))
      ∙ ap (λ (k : ℕ). get_or cells (at + a) 0 ∷ take n (drop k cells)) e
      ∙ ap (λ (l : List ℕ). get_or cells (at + a) 0 ∷ l) (one_by_one n (a + 1) at (omega arith))

  pub part_more : (at n m k : ℕ) → at + n ≡ k → part cells at n ++ part cells k m ≡ part cells at (n + m)
  part_more at n m k e =
      ap (λ (l : List ℕ). part cells at n ++ take m l) (ap (λ (j : ℕ). drop j cells) (sym e) ∙ sym (drop-drop n at cells))
      ∙ sym (take-add n m (drop at cells))

  -- parts of one width, each where the one before it ends
  rows
      : {A : Type 0} (enc : A → List ℕ) (f : ℕ → A) (w : ℕ) (at : ℕ → ℕ) → ((i : ℕ) → at i + w ≡ at (i + 1)) → (k a : ℕ)
      → ((i : ℕ) → i < a + k → enc (f i) ≡ part cells (at i) w) → flat_map enc (map f (range_with_len a k)) ≡ part cells (at a) (k * w)
  rows enc f w at step zero a h = let e : 0 ≡ 0 * w = omega arith in ap (λ (n : ℕ). part cells (at a) n) e
  rows enc f w at step (suc k) a h =
      let e : w + k * w ≡ suc k * w = omega arith in
      ap₂ (λ (x y : List ℕ). x ++ y) (h a (omega arith)) (rows enc f w at step k (a + 1) (λ i l. h i (omega arith)))
      ∙ part_more (at a) w (k * w) (at (a + 1)) (step a)
      ∙ ap (λ (n : ℕ). part cells (at a) n) e

  -- a table whose places are such parts
  pub table_cells
      : {A : Type 0} (enc : A → List ℕ) (f : ℕ → A) (w : ℕ) (at : ℕ → ℕ) → ((i : ℕ) → at i + w ≡ at (i + 1)) → (k : ℕ)
      → ((i : ℕ) → i < k → enc (f i) ≡ part cells (at i) w) → flat_map enc (table k f) ≡ part cells (at 0) (k * w)
  table_cells enc f w at step k h = rows enc f w at step k 0 (λ i l. h i (omega arith))
