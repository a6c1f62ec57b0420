-- The checks that come before a kind's own rule, in their order.
use Prim.Native.Nat.{ℕ}
use mathlib.Core.Path.{◌≡◌}
use mathlib.Core.Bool.{true, false}
use mathlib.Core.List.{List}
use Rattle.lemmas.proofs.Tests.{by_test}
use Rattle.std.specs.Prelude.{Result, Err}
use Rattle.checks.specs.declared.Refusal.{Refusal}
use Rattle.checks.specs.declared.Refusal.TheVariants.{OutOfRange, BeyondRoom, NoCommand}
use Rattle.checks.specs.Checks.{must}
use Rattle.state.specs.declared.Step.{Step}
use Rattle.synod.specs.Arguments.{places_fit, command_fits}
use Rattle.layout.specs.Cells.{sizes_of, limits_of}
use Rattle.range.specs.Range.{in_range}
use Rattle.room.specs.declared.effect.Effect.{Effect}
use Rattle.room.specs.Judge.{effect_of, step_rule, judged}

module _ (r : List ℕ) (st : Step) where
  pub refused_3 : in_range r ≡ false → judged r st ≡ Err OutOfRange
  unfolding judged step_rule must
  refused_3 a = simp a

  pub refused_4 : in_range r ≡ true → places_fit (sizes_of r) st ≡ false → judged r st ≡ Err BeyondRoom
  unfolding judged step_rule must
  refused_4 a b = simp (a, b)

  pub refused_5
      : in_range r ≡ true → places_fit (sizes_of r) st ≡ true → command_fits (limits_of r) st ≡ false
      → judged r st ≡ Err NoCommand
  unfolding judged step_rule must
  refused_5 a b c = simp (a, b, c)

  pub passed
      : in_range r ≡ true → places_fit (sizes_of r) st ≡ true → command_fits (limits_of r) st ≡ true
      → judged r st ≡ effect_of (sizes_of r) r st
  unfolding judged effect_of step_rule must
  passed a b c = simp (a, b, c)

  -- what holds of the three refusals, and of the rule where the checks pass, holds of the judgement
  pub by_checks {ℓ}
      : (P : Result Effect Refusal → Type ℓ)
      → (in_range r ≡ false → P (Err OutOfRange))
      → (in_range r ≡ true → places_fit (sizes_of r) st ≡ false → P (Err BeyondRoom))
      → (in_range r ≡ true → places_fit (sizes_of r) st ≡ true → command_fits (limits_of r) st ≡ false → P (Err NoCommand))
      → (in_range r ≡ true → places_fit (sizes_of r) st ≡ true → command_fits (limits_of r) st ≡ true
      → P (effect_of (sizes_of r) r st))
      → P (judged r st)
  by_checks P three four five rest =
      by_test (in_range r)
      (λ a.
      by_test (places_fit (sizes_of r) st)
      (λ b.
      by_test (command_fits (limits_of r) st)
      (λ c. rw (passed a b c) (rest a b c))
      (λ c. rw (refused_5 a b c) (five a b c)))
      (λ b. rw (refused_4 a b) (four a b)))
      (λ a. rw (refused_3 a) (three a))
