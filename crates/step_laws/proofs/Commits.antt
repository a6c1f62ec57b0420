-- On every row, reached by a run or not, only a Finish and a Read are answered committed.
use Prim.Native.Nat.{ℕ}
use mathlib.Core.Path.{◌≡◌, refl, sym, subst}
use mathlib.Core.List.{List}
use mathlib.Core.Logic.{inl, inr}
use native.Mathlib.Omega.{arith}
use Rattle.std.specs.Prelude.{Ok}
use Rattle.checks.specs.Checks.{mapped}
use Rattle.state.specs.declared.Sizes.{Sizes}
use Rattle.state.specs.declared.Step.{Step}
use Rattle.state.specs.declared.Step.TheVariants.{Offer, Recall, Rejoin, Bid, Write, Read, Finish, Fail, DriveOff, DriveOn}
use Rattle.state.specs.Answers.{Answered, code_of}
use Rattle.state.specs.View.{view_of, view_slot}
use Rattle.synod.specs.Rules.{offer_rule, recall_rule, rejoin_rule, bid_rule, write_rule, outbid_rule, read_rule, finish_rule, ruling, rule_of}
use Rattle.synod.specs.Slot.{Slot, Config, config_of}
use Rattle.checks.proofs.CheckLaws.{AllGive, all_give}
use Rattle.synod.proofs.Rulings.{plain}
use Rattle.layout.specs.Cells.{sizes_of, off_of}
use Rattle.room.specs.Judge.{seen, rule_at, effect_of, answer_of}
use Rattle.room.specs.Step.{answered}
use Rattle.room.proofs.Checks.{by_checks}
use Rattle.step_laws.specs.Committing.{IsFinish, IsRead, FinishOrRead}
use Rattle.room.proofs.Answering.{answer_by, effect_answer}

abbrev Commits : Step → Answered → Type 0
Commits st a = code_of a ≡ 3 → FinishOrRead st

-- what a kind's own rule answers: done or outbid, but for a Finish and a Read
rule_commits : (c : Config) (off : ℕ) (σ : Slot) (st : Step) → AllGive (λ x. Commits st (Ok x.1)) (rule_of c off σ st)
unfolding rule_of offer_rule recall_rule rejoin_rule bid_rule write_rule outbid_rule read_rule finish_rule
rule_commits c off σ (Offer p s v) = λ e. absurd (omega arith)
rule_commits c off σ (Recall p s d) = λ e. absurd (omega arith)
rule_commits c off σ (Rejoin p s b) = λ e. absurd (omega arith)
rule_commits c off σ (Bid p s b) = λ e. absurd (omega arith)
rule_commits c off σ (Write p s d) = λ e. absurd (omega arith)
rule_commits c off σ (Read p s d q) =
    let is : IsRead (Read p s d q) = record { server = p; slot = s; drive = d; other = q; is = refl } in
    (λ e. inr is, (λ e. inr is, λ e. inr is))
rule_commits c off σ (Finish p s) =
    let is : IsFinish (Finish p s) = record { server = p; slot = s; is = refl } in
    (λ e. inl is, λ e. inl is)
rule_commits c off σ (Fail p) = λ e. absurd (omega arith)
rule_commits c off σ (DriveOff d) = λ e. absurd (omega arith)
rule_commits c off σ (DriveOn d) = λ e. absurd (omega arith)

effect_commits : (z : Sizes) (cells : List ℕ) (st : Step) → Commits st (mapped answer_of (effect_of z cells st))
unfolding effect_of
effect_commits z cells st =
    let σ = seen z cells (view_slot (view_of st)) in
    let x = rule_at z cells st in
    subst (Commits st) (sym (effect_answer (view_of st) _ (ruling x) (plain (config_of z) (off_of cells) σ st)))
    (all_give (λ y. Commits st (answer_by y)) (λ n e. absurd (omega arith)) x (rule_commits (config_of z) (off_of cells) σ st))

-- a committed answer is a Finish's or a Read's
pub who_commits : (cells : List ℕ) (st : Step) → code_of (answered cells st) ≡ 3 → FinishOrRead st
unfolding answered
who_commits cells st =
    by_checks cells st (λ e. Commits st (mapped answer_of e))
    (λ a e. absurd (omega arith)) (λ a b e. absurd (omega arith)) (λ a b c e. absurd (omega arith))
    (λ a b c. effect_commits (sizes_of cells) cells st)
