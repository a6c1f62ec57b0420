-- Who is in a range, and in a list of those that pass a test.
use Prim.Native.Nat.{ℕ, zero, suc, ◌+◌, ◌<◌, ◌≤◌}
use mathlib.Core.Bool.{Bool, true, false, cond}
use mathlib.Core.List.Memᴰ
use mathlib.Core.List.{List, [], ◌∷◌, Memᴰ}
use mathlib.Core.Logic.{◌⊎◌, inl, inr}
use mathlib.Core.Path.{◌≡◌, refl, ◌∙◌, ap}
use native.Mathlib.Omega.{arith}
use native.Mathlib.Decide.{ℕ_discrete}
use Rattle.lemmas.proofs.Tests.{clash}
use Rattle.std.specs.Prelude.{filter}
use Rattle.std.specs.List.{range_with_len}

pub record Between (a n d : ℕ) : Type 0 where
  pub least : a ≤ d
  pub below : d < a + n

pub numbers_between : (a n d : ℕ) → Memᴰ d (range_with_len a n) → Between a n d
numbers_between a zero d i = absurd (Memᴰ.not-nil i)
numbers_between a (suc n) d i = go (Memᴰ.cases_cons i) (numbers_between (a + 1) n d)
  where
    go : (d ≡ a) ⊎ Memᴰ d (range_with_len (a + 1) n) → (Memᴰ d (range_with_len (a + 1) n) → Between (a + 1) n d) → Between a (suc n) d
    go (inl e) rest = record { least = omega arith; below = omega arith }
    go (inr j) rest = let b = rest j in record { least = omega (arith, b.least); below = omega (arith, b.below) }

pub between_numbers : (a n d : ℕ) → a ≤ d → d < a + n → Memᴰ d (range_with_len a n)
between_numbers a zero d l m = absurd (omega arith)
between_numbers a (suc n) d l m = go (ℕ_discrete d a) (between_numbers (a + 1) n d)
  where
    go : Dec (d ≡ a) → (a + 1 ≤ d → d < a + 1 + n → Memᴰ d (range_with_len (a + 1) n)) → Memᴰ d (range_with_len a (suc n))
    go (yes e) rest = Memᴰ.head e
    go (no e) rest = Memᴰ.tail (rest (omega arith) (omega arith))

module _ (t : ℕ → Bool) where
  pub record Passed (xs : List ℕ) (d : ℕ) : Type 0 where
    pub member : Memᴰ d xs
    pub passes : t d ≡ true

  pub filter_says : (xs : List ℕ) (d : ℕ) → Memᴰ d (filter t xs) → Passed xs d
  filter_says [] d i = absurd (Memᴰ.not-nil i)
  filter_says (x ∷ xs) d i = go (t x) refl i (filter_says xs d)
    where
      later : Passed xs d → Passed (x ∷ xs) d
      later p = record { member = Memᴰ.tail p.member; passes = p.passes }

      here : t x ≡ true → (d ≡ x) ⊎ Memᴰ d (filter t xs) → (Memᴰ d (filter t xs) → Passed xs d) → Passed (x ∷ xs) d
      here e (inl s) rest = record { member = Memᴰ.head s; passes = ap t s ∙ e }
      here e (inr j) rest = later (rest j)

      go : (b : Bool) → t x ≡ b → Memᴰ d (cond b (x ∷ filter t xs) (filter t xs)) → (Memᴰ d (filter t xs) → Passed xs d)
          → Passed (x ∷ xs) d
      go true e j rest = here e (Memᴰ.cases_cons j) rest
      go false e j rest = later (rest j)

  pub says_filter : (xs : List ℕ) (d : ℕ) → Memᴰ d xs → t d ≡ true → Memᴰ d (filter t xs)
  says_filter [] d i e = absurd (Memᴰ.not-nil i)
  says_filter (x ∷ xs) d i e = go (t x) refl (Memᴰ.cases_cons i) (λ j. says_filter xs d j e)
    where
      go : (b : Bool) → t x ≡ b → (d ≡ x) ⊎ Memᴰ d xs → (Memᴰ d xs → Memᴰ d (filter t xs))
          → Memᴰ d (cond b (x ∷ filter t xs) (filter t xs))
      go true h (inl s) rest = Memᴰ.head s
      go true h (inr j) rest = Memᴰ.tail (rest j)
      go false h (inl s) rest = clash (t d) e (ap t s ∙ h)
      go false h (inr j) rest = rest j
