-- What stands where in an updated function: a fact holds of every place if it holds of the changed one and of the others.
use Prim.Native.Nat.{ℕ}
use mathlib.Core.Bool.{Bool, true, false, cond}
use mathlib.Core.Path.{◌≡◌, refl, sym, ap, subst}
use lib.Dec.{eqb}
use borrow.Author.Tests.{eqb-true, eqb-false, eq-eqb, ne_eqb}
use Rattle.synod.specs.Slot.{updated}

pub updated_at : {A : Type 0} (f : ℕ → A) (i : ℕ) (a : A) → updated f i a i ≡ a
unfolding updated
updated_at f i a = ap (λ b. cond b a (f i)) (eq-eqb i i refl)

pub updated_off : {A : Type 0} (f : ℕ → A) (i : ℕ) (a : A) (j : ℕ) → (j ≡ i → ⊥) → updated f i a j ≡ f j
unfolding updated
updated_off f i a j h = ap (λ b. cond b a (f j)) (ne_eqb j i h)

pub everywhere : {A : Type 0} (P : ℕ → A → Type 0) (f : ℕ → A) (i : ℕ) (a : A) → P i a
    → ((j : ℕ) → (j ≡ i → ⊥) → P j (f j)) → (j : ℕ) → P j (updated f i a j)
unfolding updated
everywhere {A} P f i a here there j = go (eqb j i) refl
  where
    go : (b : Bool) → eqb j i ≡ b → P j (cond b a (f j))
    go true e = subst (λ (k : ℕ). P k a) (sym (eqb-true j i e)) here
    go false e = there j (eqb-false j i e)

pub updated_map : {A B : Type 0} (f : A → B) (g : ℕ → A) (i : ℕ) (a : A) (j : ℕ)
    → f (updated g i a j) ≡ updated (λ k. f (g k)) i (f a) j
updated_map f g i a =
    everywhere (λ j x. f x ≡ updated (λ k. f (g k)) i (f a) j) g i a (sym (updated_at (λ k. f (g k)) i (f a)))
    (λ j h. sym (updated_off (λ k. f (g k)) i (f a) j h))

-- the same for two functions updated at one place
pub both_everywhere : {A B : Type 0} (P : ℕ → A → B → Type 0) (f : ℕ → A) (g : ℕ → B) (i : ℕ) (a : A) (b : B) → P i a b
    → ((j : ℕ) → (j ≡ i → ⊥) → P j (f j) (g j)) → (j : ℕ) → P j (updated f i a j) (updated g i b j)
unfolding updated
both_everywhere P f g i a b here there j = go (eqb j i) refl
  where
    go : (t : Bool) → eqb j i ≡ t → P j (cond t a (f j)) (cond t b (g j))
    go true e = subst (λ (k : ℕ). P k a b) (sym (eqb-true j i e)) here
    go false e = there j (eqb-false j i e)
