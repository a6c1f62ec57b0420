-- One check passed or failed, and all checks of a call taken apart.
use mathlib.Core.Path.{◌≡◌, refl}
use mathlib.Core.Bool.{Bool, true, false, cond}
use Rattle.std.specs.Prelude.{Result, Ok, Err}
use Rattle.checks.specs.declared.Refusal.{Refusal}
use Rattle.checks.specs.Checks.{Checked, Must, Either, Gives, must, outcome}

module _ {A : Type 0} where
  pub passes : (b : Bool) (n : Refusal) (rest : Result A Refusal) → b ≡ true → must b n rest ≡ rest
  unfolding must
  passes b n rest e = simp e

  pub fails : (b : Bool) (n : Refusal) (rest : Result A Refusal) → b ≡ false → must b n rest ≡ Err n
  unfolding must
  fails b n rest e = simp e

  -- what holds of the refusal, and of the rest where the condition holds, holds of both
  pub must_cases {ℓ}
      : (P : Result A Refusal → Type ℓ) (b : Bool) (n : Refusal) (rest : Result A Refusal) → P (Err n) → (b ≡ true → P rest)
      → P (must b n rest)
  unfolding must
  must_cases P true n rest stop way = way refl
  must_cases P false n rest stop way = stop

pub either-cases {ℓ} : {A : Type 0} (P : A → Type ℓ) (t : Bool) (x y : A) → (t ≡ true → P x) → (t ≡ false → P y) → P (cond t x y)
either-cases P true x y left right = left refl
either-cases P false x y left right = right refl

-- P holds of everything that the call can give, whatever its conditions
abbrev pub AllGive : {A : Type 0} → (A → Type 0) → Checked A → Type 0
AllGive P (Must b n c) = AllGive P c
AllGive P (Either t x y) = AllGive P x × AllGive P y
AllGive P (Gives a) = P a

-- and what P gives of each, Q, holds of it too
pub All-map
    : {A : Type 0} (P Q : A → Type 0) → ((a : A) → P a → Q a) → (c : Checked A) → AllGive P c → AllGive Q c
All-map P Q f (Must b n c) h = All-map P Q f c h
All-map P Q f (Either t x y) h = (All-map P Q f x h.0, All-map P Q f y h.1)
All-map P Q f (Gives a) h = f a h

pub all_give
    : {A : Type 0} (P : Result A Refusal → Type 0) → ((n : Refusal) → P (Err n)) → (c : Checked A)
    → AllGive (λ a. P (Ok a)) c → P (outcome c)
unfolding must
all_give P stop (Must true n c) h = all_give P stop c h
all_give P stop (Must false n c) h = stop n
all_give P stop (Either true x y) h = all_give P stop x h.0
all_give P stop (Either false x y) h = all_give P stop y h.1
all_give P stop (Gives a) h = h
