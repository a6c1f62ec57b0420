-- A step that is good in a slot, taken on the cells: next gives it, it is answered so, and the slot is left so.
use Prim.Native.Nat.{ℕ, ◌<◌}
use mathlib.Core.Bool.{true}
use mathlib.Core.List.{List}
use mathlib.Core.Path.{◌≡◌, refl, ◌∙◌, sym, ap, subst}
use borrow.Author.Tests.{eq-eqb}
use Rattle.std.specs.Prelude.{Some, Ok}
use Rattle.checks.specs.Checks.{must}
use Rattle.state.specs.declared.Answer.{Answer}
use Rattle.state.specs.declared.Server.{Server}
use Rattle.state.specs.declared.Sizes.{Sizes}
use Rattle.state.specs.declared.Step.{Step}
use Rattle.state.specs.View.{View, view_of, view_slot}
use Rattle.synod.specs.Arguments.{places_fit, command_fits, deed_fits}
use Rattle.synod.specs.Slot.{Slot, config_of}
use Rattle.synod.proofs.Alike.{Alike}
use Rattle.synod.proofs.Machine.{ruled, after}
use Rattle.layout.specs.Cells.{sizes_of, limits_of, off_of}
use Rattle.range.specs.Range.{in_range}
use Rattle.room.specs.Judge.{seen}
use Rattle.room.specs.Step.{answered, stepped}
use Rattle.model.specs.Concerns.{concerns, concerns_at}
use Rattle.step_laws.proofs.ByRule.{answered_by_rule, slot_by_rule}
use Rattle.step_laws.proofs.OffMarks.{SwitchesNone, off_stays}
use Rattle.step_laws.proofs.Slots.{after_at}
use Rattle.step_laws.proofs.StepKeeps.{step_whole}
use Rattle.progress.specs.Next.{next_of, next_checks, next_answered}
use Rattle.progress.proofs.Good.{Matches, Own, writes, in_record, Taken}
use Rattle.progress.proofs.Setting.{Setting, here}

-- a slot that is alike
pub matches_alike
    : (z : Sizes) (off p s : ℕ) (found : ℕ → ℕ → ℕ) (σ τ : Slot) (v : Server) → p < z.servers → Alike (config_of z) σ τ
    → Matches z off p s found σ v → Matches z off p s found τ v
matches_alike z off p s found σ τ v lp like matched =
    record {
      own = sym (like p lp).own ∙ matched.own;
      blocks = λ q d lq ld h. ap (λ b. b.mbal) (sym ((like q lq).disk d ld)) ∙ matched.blocks q d lq ld h;
    }

module _ (z : Sizes) (off p s : ℕ) (found : ℕ → ℕ → ℕ) where
  brings_none : (limits : List ℕ) (w : View) → Own z off p s found w → deed_fits limits w ≡ true
  brings_none limits w (writes d) = refl
  brings_none limits w in_record = refl

  own_slot : (w : View) → Own z off p s found w → view_slot w ≡ s
  own_slot w (writes d) = refl
  own_slot w in_record = refl

  own_concerns : (w : View) → Own z off p s found w → concerns_at s w ≡ true
  own_concerns w (writes d) = eq-eqb s s refl
  own_concerns w in_record = eq-eqb s s refl

  switches_none : (w : View) → Own z off p s found w → SwitchesNone w
  switches_none w (writes d) = tt
  switches_none w in_record = tt

-- a step that is no drive step, on a room in range
module _ (r : List ℕ) (st : Step) (i : in_range r ≡ true) (switches_none : SwitchesNone (view_of st)) where
  -- the sizes and the off marks are as they were
  pub carried : (P : Sizes → ℕ → Type 0) → P (sizes_of r) (off_of r) → P (sizes_of (stepped r st)) (off_of (stepped r st))
  carried P h =
      subst (λ (z : Sizes). P z (off_of (stepped r st))) (sym (step_whole r st i).sizes)
      (subst (P (sizes_of r)) (sym (off_stays r st switches_none)) h)

  pub matches_after
      : (p s : ℕ) (found : ℕ → ℕ → ℕ) (w : Server) (a : Answer) → places_fit (sizes_of r) st ≡ true
      → command_fits (limits_of r) st ≡ true → p < (sizes_of r).servers → s < (sizes_of r).slots → concerns s st ≡ true
      → ruled (config_of (sizes_of r)) (off_of r) (seen (sizes_of r) r s) st ≡ Ok (w, a)
      → Matches (sizes_of r) (off_of r) p s found (after (seen (sizes_of r) r s) st (Ok (w, a))) w
      → Matches (sizes_of r) (off_of r) p s found (seen (sizes_of r) (stepped r st) s) w
  unfolding after_at
  matches_after p s found w a places command lp ls here rule =
      matches_alike (sizes_of r) (off_of r) p s found _ _ w lp
      (rw (here, rule) at (slot_by_rule r st i places command s ls))

module _ (cells : List ℕ) (p s : ℕ) (found : ℕ → ℕ → ℕ) (i : in_range cells ≡ true)
    (set : Setting (sizes_of cells) (off_of cells) p s found) (v : Server)
    (matched : Matches (sizes_of cells) (off_of cells) p s found (seen (sizes_of cells) cells s) v)
    (st : Step) (w : Server) (a : Answer)
    (taken : Taken (sizes_of cells) (off_of cells) p s found (seen (sizes_of cells) cells s) v st w a) where
  abbrev z : Sizes
  z = sizes_of cells

  command : command_fits (limits_of cells) st ≡ true
  unfolding command_fits
  command = brings_none z (off_of cells) p s found (limits_of cells) (view_of st) taken.view

  pub answer_is : answered cells st ≡ Ok a
  answer_is =
      answered_by_rule cells st w a i taken.places command
      (ap (λ (t : ℕ). ruled (config_of z) (off_of cells) (seen z cells t) st)
      (own_slot z (off_of cells) p s found (view_of st) taken.view)
      ∙ taken.rule)

  pub next_gives : next_answered cells p s ≡ Ok (Some st)
  unfolding next_answered next_checks next_of must
  next_gives = rw (i, here set, set.most, matched.own, taken.wish, answer_is) refl

  pub switches_is : SwitchesNone (view_of st)
  switches_is = switches_none z (off_of cells) p s found (view_of st) taken.view

  pub matches_next
      : Matches z (off_of cells) p s found (after (seen z cells s) st (Ok (w, a))) w
      → Matches z (off_of cells) p s found (seen z (stepped cells st) s) w
  unfolding concerns
  matches_next =
      matches_after cells st i switches_is p s found w a taken.places command set.server set.slot
      (own_concerns z (off_of cells) p s found (view_of st) taken.view) taken.rule
