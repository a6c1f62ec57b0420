-- The first command that is not none: of two, and of a list of commits.
use Prim.Native.Nat.{ℕ}
use mathlib.Core.Path.{◌≡◌, refl, ◌∙◌, sym}
use mathlib.Core.List.Memᴰ
use mathlib.Core.List.{List, [], ◌∷◌, Memᴰ}
use native.Mathlib.Omega.{arith}
use Rattle.std.proofs.lemmas.Bool.Decides.{nat_tests}
use Rattle.synod.proofs.Past.{Tried}
use Rattle.history.specs.Run.{or_else}

pub or_some : (a b : ℕ) → (a ≡ 0 → ⊥) → or_else a b ≡ a
or_some a b n = grind (arith, nat_tests)

pub or_zero : (a : ℕ) → or_else a 0 ≡ a
or_zero a = grind (arith, nat_tests)

pub or_assoc : (a b c : ℕ) → or_else (or_else a b) c ≡ or_else a (or_else b c)
or_assoc a b c = grind (arith, nat_tests)

-- the command of the first commit, which stands last in the list; 0 where there is none
abbrev pub first_command : List Tried → ℕ
first_command [] = 0
first_command (t ∷ ts) = or_else (first_command ts) t.command

-- where all commits have the command v, which is not 0, the first one has it
pub first_of
    : (l : List Tried) (v : ℕ) → (v ≡ 0 → ⊥) → ((t : Tried) → Memᴰ t l → t.command ≡ v)
    → (t : Tried) → Memᴰ t l → first_command l ≡ v
first_of [] v n all t m = absurd (Memᴰ.not-nil m)
first_of (u ∷ l) v n all t m = go l u all
  where
    go : (l : List Tried) (u : Tried) → ((t : Tried) → Memᴰ t (u ∷ l) → t.command ≡ v) → first_command (u ∷ l) ≡ v
    go [] u all = all u (Memᴰ.head refl)
    go (w ∷ l) u all =
        let first = go l w (λ x i. all x (Memᴰ.tail i)) in
        or_some (first_command (w ∷ l)) u.command (λ z. n (sym first ∙ z)) ∙ first
