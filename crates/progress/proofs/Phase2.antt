-- Phase 2: each step that p wishes is accepted; it commits, or lowers the potential. No block outbids p any more.
use Prim.Native.Nat.{ℕ, ◌<◌, ◌≤◌}
use mathlib.Core.List.{Memᴰ}
use mathlib.Core.Path.{◌≡◌, ◌∙◌, ap}
use native.Mathlib.Omega.{arith}
use Rattle.std.specs.Prelude.{Some}
use Rattle.state.specs.declared.Server.{Server}
use Rattle.state.specs.declared.Sizes.{Sizes}
use Rattle.state.specs.declared.Step.TheVariants.{Finish}
use Rattle.synod.specs.Arguments.{places_fit}
use Rattle.synod.specs.Changes.{meeting, marking, writing, reading}
use Rattle.synod.specs.Rules.{ruling, finish_rule, rule_of}
use Rattle.synod.specs.Slot.{Slot}
use Rattle.progress.specs.Next.{wished}
use Rattle.progress.proofs.Drives.{used_in}
use Rattle.progress.proofs.Left.{Complete}
use Rattle.progress.proofs.Accepts.{commit_accepts}
use Rattle.progress.proofs.Good.{Matches, InPhase2, Good, in_2, in_record, GoesOn, commits}
use Rattle.progress.proofs.Setting.{Setting, here, complete}
use Rattle.progress.proofs.Rounds.{goes_on}

module _ {z : Sizes} {off p s : ℕ} {found : ℕ → ℕ → ℕ} (set : Setting z off p s found) (σ : Slot) (v : Server)
    (matched : Matches z off p s found σ v) (g : InPhase2 z off p s found v) where
  one : 1 ≤ v.phase
  one = let e = g.phase in omega arith

  two : v.phase ≤ 2
  two = let e = g.phase in omega arith

  written_good : (d : ℕ) → Memᴰ d (used_in z off) → Good z off p s found (writing v d)
  unfolding writing
  written_good d i = in_2 (record { phase = g.phase; ahead = g.ahead })

  read_good
      : (d q : ℕ) → Memᴰ d (used_in z off) → q < z.servers → (q ≡ p → ⊥) → found q d < v.mbal
      → Good z off p s found (reading v ((σ q).disk d) d q)
  unfolding reading meeting marking
  read_good d q i lq n l = in_2 (record { phase = g.phase; ahead = g.ahead })

  commit_step
      : Complete z off v p s (used_in z off) → wished z off v p s ≡ Some (Finish p s) → GoesOn z off p s found σ v
  unfolding rule_of places_fit
  commit_step all wish =
      commits (Finish p s) _ v.inp
      (record {
        wish = wish;
        places = here set;
        view = in_record;
        rule =
            ap (λ y. ruling (finish_rule z.servers z.drives y p)) matched.own
            ∙ commit_accepts z.servers z.drives v p (complete set v all) g.phase;
      })

  pub goes_2 : GoesOn z off p s found σ v
  goes_2 =
      goes_on set σ v matched one two written_good read_good
      (λ d q i lq n written unread none high wish. let l = g.ahead d q i lq n in absurd (omega arith))
      commit_step
