-- Each rule taken apart: what holds of every refusal, and of the effect where the conditions hold, holds of the rule.
use Prim.Native.Nat.{ℕ, ◌<◌, ◌≤◌}
use native.Mathlib.Omega.{arith}
use borrow.Author.Tests.{eqb-true, eqb-false, ltb-true, ltb-false, not-true}
use mathlib.Core.Bool.{true}
use mathlib.Core.Path.{◌≡◌, refl}
use mathlib.Core.Logic.{◌⊎◌, inl, inr}
use lib.Dec.{eqb}
use Rattle.ballot.specs.Ballot.{owned, next_own}
use Rattle.ballot.proofs.Laws.{next_owned, next_above}
use Rattle.quorum.specs.Marks.{stands}
use Rattle.quorum.specs.Sets.{majority}
use Rattle.state.specs.declared.Block.{Block}
use Rattle.state.specs.declared.Server.{Server}
use Rattle.state.specs.declared.Step.{Step}
use Rattle.state.specs.declared.Step.TheVariants.{Offer, Recall, Rejoin, Bid, Write, Read, Finish, Fail, DriveOff, DriveOn}
use Rattle.state.specs.declared.Answer.TheVariants.{Done, Outbid, Chosen}
use Rattle.state.specs.Server.{failed}
use Rattle.state.specs.View.{Brings, Stores, Alone, View, AtSlot, AtServer, AtDrive, view_of}
use Rattle.std.specs.Prelude.{Option, Some, None, Ok, Err}
use Rattle.checks.specs.declared.Refusal.{Refusal}
use Rattle.checks.specs.declared.Refusal.TheVariants.{BallotsSpent}
use Rattle.synod.specs.Changes.{meeting, topping, recalling, rejoining, bidding, writing, reading, proposing}
use Rattle.checks.specs.Checks.{must}
use Rattle.checks.proofs.CheckLaws.{must_cases, either-cases}
use Rattle.synod.proofs.Machine.{ruled}
use Rattle.synod.specs.Rules.{Ruling, balloting, joined, recalled_on, complete_on, command_of, recall_rule, rejoin_rule, bid_rule, write_rule, outbid_rule, learn_rule, read_rule, commit_rule, finish_rule, ruling, rule_of}
use Rattle.synod.specs.Slot.{Slot, Config}
use Rattle.lemmas.proofs.Tests.{or_either}

-- phase 1 or 2, by number
pub record Balloting (v : Server) : Type 0 where
  pub least : 1 ≤ v.phase
  pub most : v.phase ≤ 2

ballots : (v : Server) → balloting v ≡ true → Balloting v
ballots v h = by_case (or_either (eqb v.phase 1) (eqb v.phase 2) h)
  where
    by_case : (eqb v.phase 1 ≡ true) ⊎ (eqb v.phase 2 ≡ true) → Balloting v
    by_case (inl e) = let h = eqb-true v.phase 1 e in record { least = omega arith; most = omega arith }
    by_case (inr e) = let h = eqb-true v.phase 2 e in record { least = omega arith; most = omega arith }

-- phase 1, 2 or 3, by number
joins : (v : Server) → joined v ≡ true → 1 ≤ v.phase
joins v h = by_case (or_either (balloting v) (eqb v.phase 3) h)
  where
    by_case : (balloting v ≡ true) ⊎ (eqb v.phase 3 ≡ true) → 1 ≤ v.phase
    by_case (inl e) = (ballots v e).least
    by_case (inr e) = let h = eqb-true v.phase 3 e in omega arith

module _ (P : Ruling → Type 0) where
  outbid_cases : (v : Server) (found : ℕ) (next : Option ℕ) → P (Err BallotsSpent)
      → ((b : ℕ) → next ≡ Some b → P (Ok ((bidding v b), (Outbid found)))) → P (ruling (outbid_rule v found next))
  unfolding outbid_rule must
  outbid_cases v found (Some b) stop way = way b refl
  outbid_cases v found None stop way = stop

  module _ (stop : (n : Refusal) → P (Err n)) (v : Server) where
    pub recall_cases : (off : ℕ) (b : Block) (p d : ℕ) → (v.phase ≡ 0 → P (Ok ((recalling v b p d), Done)))
        → P (ruling (recall_rule off v b p d))
    unfolding recall_rule
    recall_cases off b p d way =
        must_cases P _ _ _ (stop _) (λ phase.
        must_cases P _ _ _ (stop _) (λ on.
        way (eqb-true v.phase 0 phase)))

    pub rejoin_cases : (servers drives p b : ℕ)
        → (owned servers p b ≡ true → v.phase ≡ 0 → majority drives (recalled_on v p) ≡ true → v.top < b
        → P (Ok ((rejoining v b), Done)))
        → P (ruling (rejoin_rule servers drives v p b))
    unfolding rejoin_rule
    rejoin_cases servers drives p b way =
        must_cases P _ _ _ (stop _) (λ mine.
        must_cases P _ _ _ (stop _) (λ phase.
        must_cases P _ _ _ (stop _) (λ most.
        must_cases P _ _ _ (stop _) (λ up.
        way mine (eqb-true v.phase 0 phase) most (omega (arith, ltb-true))))))

    pub bid_cases : (servers p b : ℕ)
        → (owned servers p b ≡ true → Balloting v → v.mbal < b → P (Ok ((bidding v b), Done)))
        → P (ruling (bid_rule servers v p b))
    unfolding bid_rule
    bid_cases servers p b way =
        must_cases P _ _ _ (stop _) (λ mine.
        must_cases P _ _ _ (stop _) (λ phase.
        must_cases P _ _ _ (stop _) (λ up.
        way mine (ballots v phase) (omega (arith, ltb-true)))))

    pub write_cases : (off d : ℕ) → (1 ≤ v.phase → P (Ok ((writing v d), Done))) → P (ruling (write_rule off v d))
    unfolding write_rule
    write_cases off d way =
        must_cases P _ _ _ (stop _) (λ phase.
        must_cases P _ _ _ (stop _) (λ on.
        way (joins v phase)))

    pub read_cases : (servers off : ℕ) (b : Block) (p d q : ℕ)
        → (Balloting v → stands v.written d ≡ true → b.mbal < v.mbal → P (Ok ((reading v b d q), Done)))
        → ((next : ℕ) → Balloting v → owned servers p next ≡ true → v.mbal < next → P (Ok ((bidding v next), (Outbid b.mbal))))
        → (Balloting v → (b.done ≡ 0 → ⊥) → P (ruling (learn_rule v b)))
        → P (ruling (read_rule servers off v b p d q))
    unfolding read_rule
    read_cases servers off b p d q way outbid learn =
        must_cases P _ _ _ (stop _) (λ phase.
        must_cases P _ _ _ (stop _) (λ on.
        must_cases P _ _ _ (stop _) (λ here.
        either-cases P _ _ _
        (λ some. learn (ballots v phase) (eqb-false b.done 0 (not-true (eqb b.done 0) some)))
        (λ none.
        either-cases P _ _ _
        (λ low. way (ballots v phase) here (ltb-true b.mbal v.mbal low))
        (λ high.
        outbid_cases v b.mbal (next_own servers p b.mbal) (stop BallotsSpent) (λ next e.
        let least = ltb-false b.mbal v.mbal high in
        let up = next_above servers p b.mbal next e in
        outbid next (ballots v phase) (next_owned servers p b.mbal next e) (omega arith)))))))

    pub finish_cases : (servers drives p : ℕ)
        → (v.phase ≡ 1 → majority drives (complete_on servers v p) ≡ true → (command_of v ≡ 0 → ⊥)
        → P (Ok ((proposing v (command_of v)), (Chosen (command_of v)))))
        → (v.phase ≡ 2 → majority drives (complete_on servers v p) ≡ true → P (ruling (commit_rule v)))
        → P (ruling (finish_rule servers drives v p))
    unfolding finish_rule
    finish_cases servers drives p choose commit =
        must_cases P _ _ _ (stop _) (λ phase.
        must_cases P _ _ _ (stop _) (λ most.
        either-cases P _ _ _
        (λ one.
        must_cases P _ _ _ (stop _) (λ some.
        choose (eqb-true v.phase 1 one) most (eqb-false (command_of v) 0 (not-true (eqb (command_of v) 0) some))))
        (λ other.
        let two = ballots v phase in
        let not-one = eqb-false v.phase 1 other in
        commit (omega (arith, two.least, two.most)) most)))

-- done, or refused
abbrev pub Quiet : Ruling → Type 0
Quiet (Err n) = Unit {0}
Quiet (Ok (v, a)) = a ≡ Done

-- what the view tells of the ruling: a Write is answered done, a Fail and a drive step are never refused
abbrev pub Plain : View → Ruling → Type 0
Plain (AtSlot p s (Brings c)) x = Unit {0}
Plain (AtSlot p s (Stores d)) x = Quiet x
Plain (AtSlot p s Alone) x = Unit {0}
Plain (AtServer p) x = x ≡ Ok (failed, Done)
Plain (AtDrive d on) x = x ≡ Ok (failed, Done)

pub plain : (c : Config) (off : ℕ) (σ : Slot) (st : Step) → Plain (view_of st) (ruled c off σ st)
unfolding rule_of
plain c off σ (Offer p s v) = tt
plain c off σ (Recall p s d) = tt
plain c off σ (Rejoin p s b) = tt
plain c off σ (Bid p s b) = tt
plain c off σ (Write p s d) = write_cases Quiet (λ n. tt) (σ p).own off d (λ two. refl)
plain c off σ (Read p s d q) = tt
plain c off σ (Finish p s) = tt
plain c off σ (Fail p) = refl
plain c off σ (DriveOff d) = refl
plain c off σ (DriveOn d) = refl

-- 2 Recall does not look at done
pub recall_ignores_done : (off : ℕ) (v : Server) (b : Block) (done p d : ℕ)
    → recall_rule off v (record { mbal = b.mbal; bal = b.bal; inp = b.inp; done = done }) p d ≡ recall_rule off v b p d
unfolding recall_rule recalling topping meeting
recall_ignores_done off v b done p d = refl
