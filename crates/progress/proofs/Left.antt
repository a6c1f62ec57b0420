-- What is left, by the first of it: the step that comes first is a recall, a write or a read that is not marked; or nothing is
-- left, and all of it is marked.
use Prim.Native.Nat.{ℕ}
use mathlib.Core.Bool.{Bool, true, false, cond}
use mathlib.Core.List.Memᴰ
use mathlib.Core.List.{List, [], ◌∷◌, ◌++◌, map, Memᴰ}
use mathlib.Core.Logic.{◌⊎◌, inl, inr}
use mathlib.Core.Path.{◌≡◌, refl, ◌∙◌, sym, ap, subst}
use Rattle.lemmas.proofs.Tests.{by_test}
use Rattle.std.specs.Prelude.{filter, flat_map, Option, Some}
use Rattle.std.specs.Option.{option_or}
use Rattle.quorum.specs.Marks.{stands}
use Rattle.state.specs.declared.Server.{Server}
use Rattle.state.specs.declared.Sizes.{Sizes}
use Rattle.state.specs.declared.Step.{Step}
use Rattle.state.specs.declared.Step.TheVariants.{Recall, Write, Read}
use Rattle.progress.specs.Next.{first, unrecalled, unread, recalls_left, reads_left, left_on, rounds_left}
use Rattle.progress.proofs.Drives.{used_in, servers_in}

module _ (P : Option Step → Type 0) (h : ℕ → Step) (left : ℕ → Bool) where
  -- the steps of those numbers that pass the test
  pub by_first
      : (xs : List ℕ) (last : Option Step)
      → ((x : ℕ) → Memᴰ x xs → left x ≡ true → P (Some (h x)))
      → (((x : ℕ) → Memᴰ x xs → left x ≡ false) → P last)
      → P (option_or (first (map h (filter left xs))) last)
  by_first [] last stop none = none (λ x i. absurd (Memᴰ.not-nil i))
  by_first (x ∷ xs) last stop none = go (left x) refl (by_first xs last (λ y i. stop y (Memᴰ.tail i)))
    where
      every : left x ≡ false → ((y : ℕ) → Memᴰ y xs → left y ≡ false) → (y : ℕ) → (y ≡ x) ⊎ Memᴰ y xs → left y ≡ false
      every e rest y (inl t) = ap left t ∙ e
      every e rest y (inr i) = rest y i

      go : (b : Bool) → left x ≡ b
          → ((((y : ℕ) → Memᴰ y xs → left y ≡ false) → P last) → P (option_or (first (map h (filter left xs))) last))
          → P (option_or (first (map h (cond b (x ∷ filter left xs) (filter left xs)))) last)
      go true e rest = stop x (Memᴰ.head refl) e
      go false e rest = rest (λ k. none (λ y i. every e k y (Memᴰ.cases_cons i)))

-- the first of some steps, then of others
pub first-append
    : (xs ys : List Step) (last : Option Step) → option_or (first (xs ++ ys)) last ≡ option_or (first xs) (option_or (first ys) last)
first-append [] ys last = refl
first-append (x ∷ xs) ys last = refl

module _ (z : Sizes) (off : ℕ) (v : Server) (p s : ℕ) where
  -- nothing is left on these drives
  pub record Complete (ds : List ℕ) : Type 0 where
    pub write : (d : ℕ) → Memᴰ d ds → stands v.written d ≡ true
    pub read : (d q : ℕ) → Memᴰ d ds → Memᴰ q (servers_in z) → unread z off v p s d q ≡ false

  complete_more
      : (d : ℕ) (ds : List ℕ) → stands v.written d ≡ true → ((q : ℕ) → Memᴰ q (servers_in z) → unread z off v p s d q ≡ false)
      → Complete ds → Complete (d ∷ ds)
  complete_more d ds e here w =
      record {
        write = λ x i. written x (Memᴰ.cases_cons i);
        read = λ x q i j. seen x q j (Memᴰ.cases_cons i);
      }
    where
      written : (x : ℕ) → (x ≡ d) ⊎ Memᴰ x ds → stands v.written x ≡ true
      written x (inl t) = ap (stands v.written) t ∙ e
      written x (inr i) = w.write x i

      seen : (x q : ℕ) → Memᴰ q (servers_in z) → (x ≡ d) ⊎ Memᴰ x ds → unread z off v p s x q ≡ false
      seen x q j (inl t) = ap (λ (y : ℕ). unread z off v p s y q) t ∙ here q j
      seen x q j (inr i) = w.read x q i j

module _ (P : Option Step → Type 0) (z : Sizes) (off : ℕ) (v : Server) (p s : ℕ) where
  -- phase 0
  pub first_recall
      : (last : Option Step)
      → ((d : ℕ) → Memᴰ d (used_in z off) → unrecalled z off v p s d ≡ true → P (Some (Recall p s d)))
      → (((d : ℕ) → Memᴰ d (used_in z off) → unrecalled z off v p s d ≡ false) → P last)
      → P (option_or (first (recalls_left z off v p s)) last)
  unfolding recalls_left
  first_recall = by_first P (Recall p s) (unrecalled z off v p s) (used_in z off)

  -- drive d, in phases 1 and 2
  first_on
      : (d : ℕ) (last : Option Step)
      → (stands v.written d ≡ false → P (Some (Write p s d)))
      → (stands v.written d ≡ true → (q : ℕ) → Memᴰ q (servers_in z) → unread z off v p s d q ≡ true → P (Some (Read p s d q)))
      → (stands v.written d ≡ true → ((q : ℕ) → Memᴰ q (servers_in z) → unread z off v p s d q ≡ false) → P last)
      → P (option_or (first (left_on z off v p s d)) last)
  unfolding left_on reads_left
  first_on d last write read all =
      by_test (stands v.written d)
      (λ e. rw e (by_first P (Read p s d) (unread z off v p s d) (servers_in z) last (read e) (all e)))
      (λ e. rw e (write e))

  first_of
      : (ds : List ℕ) (last : Option Step)
      → ((d : ℕ) → Memᴰ d ds → stands v.written d ≡ false → P (Some (Write p s d)))
      → ((d q : ℕ) → Memᴰ d ds → Memᴰ q (servers_in z) → stands v.written d ≡ true → unread z off v p s d q ≡ true
      → P (Some (Read p s d q)))
      → (Complete z off v p s ds → P last)
      → P (option_or (first (flat_map (left_on z off v p s) ds)) last)
  first_of [] last write read all =
      all (record { write = λ d i. absurd (Memᴰ.not-nil i); read = λ d q i. absurd (Memᴰ.not-nil i) })
  first_of (d ∷ ds) last write read all =
      subst P (sym (first-append (left_on z off v p s d) (flat_map (left_on z off v p s) ds) last))
      (first_on d (option_or (first (flat_map (left_on z off v p s) ds)) last)
      (write d (Memᴰ.head refl))
      (λ e q j. read d q (Memᴰ.head refl) j e)
      (λ e here.
      first_of ds last
      (λ x i. write x (Memᴰ.tail i))
      (λ x q i. read x q (Memᴰ.tail i))
      (λ w. all (complete_more z off v p s d ds e here w))))

  -- phases 1 and 2
  pub first_round
      : (last : Option Step)
      → ((d : ℕ) → Memᴰ d (used_in z off) → stands v.written d ≡ false → P (Some (Write p s d)))
      → ((d q : ℕ) → Memᴰ d (used_in z off) → Memᴰ q (servers_in z) → stands v.written d ≡ true → unread z off v p s d q ≡ true
      → P (Some (Read p s d q)))
      → (Complete z off v p s (used_in z off) → P last)
      → P (option_or (first (rounds_left z off v p s)) last)
  unfolding rounds_left
  first_round = first_of (used_in z off)
