-- A refused step carries the lowest number that applies and leaves the row as it was; a step to which none applies is
-- accepted.
use Prim.Native.Nat.{ℕ}
use mathlib.Core.Path.{◌≡◌, refl, ◌∙◌, sym, ap}
use mathlib.Core.Bool.{true}
use mathlib.Core.List.{List, ◌∷◌}
use Rattle.checks.specs.Checks.{outcome}
use Rattle.checks.specs.Refusals.{refusals_of, numbers_of, rises}
use Rattle.checks.specs.Lowest.{LowestFirst}
use Rattle.checks.proofs.LowestLaws.{refusal_mapped, accepted_mapped, left_as_it_was, orderly}
use Rattle.state.specs.declared.Step.{Step}
use Rattle.state.specs.declared.Step.TheVariants.{Offer, Recall, Rejoin, Bid, Write, Read, Finish, Fail, DriveOff, DriveOn}
use Rattle.state.specs.View.{view_of, view_slot}
use Rattle.synod.specs.Rules.{offer_rule, recall_rule, rejoin_rule, bid_rule, write_rule, outbid_rule, read_rule, finish_rule, rule_of}
use Rattle.synod.specs.Slot.{Slot, Config, config_of}
use Rattle.layout.specs.Cells.{sizes_of, off_of}
use Rattle.room.specs.Judge.{seen, effect_by, step_rule, judged, answer_of}
use Rattle.room.specs.Step.{settled, answered, stepped}
use Rattle.step_laws.specs.Refusals.{own_numbers, numbers_for}

-- the numbers of every kind's rule are those of the table
kind : (c : Config) (off : ℕ) (σ : Slot) (st : Step) → numbers_of (refusals_of (rule_of c off σ st)) ≡ own_numbers st
unfolding rule_of offer_rule recall_rule rejoin_rule bid_rule write_rule outbid_rule read_rule finish_rule numbers_of own_numbers
kind c off σ (Offer p s v) = refl
kind c off σ (Recall p s d) = refl
kind c off σ (Rejoin p s b) = refl
kind c off σ (Bid p s b) = refl
kind c off σ (Write p s d) = refl
kind c off σ (Read p s d q) = refl
kind c off σ (Finish p s) = refl
kind c off σ (Fail p) = refl
kind c off σ (DriveOff d) = refl
kind c off σ (DriveOn d) = refl

-- the numbers of a step's refusals are those of the table
numbers_listed : (cells : List ℕ) (st : Step) → numbers_of (refusals_of (step_rule cells st)) ≡ numbers_for st
unfolding step_rule numbers_of
numbers_listed cells st =
    ap (λ (ns : List ℕ). 3 ∷ 4 ∷ 5 ∷ ns)
    (kind (config_of (sizes_of cells)) (off_of cells) (seen (sizes_of cells) cells (view_slot (view_of st))) st)

-- and they rise, so that the first that applies is the lowest
rising : (st : Step) → rises 0 (numbers_for st) ≡ true
unfolding rises own_numbers
rising (Offer p s v) = refl
rising (Recall p s d) = refl
rising (Rejoin p s b) = refl
rising (Bid p s b) = refl
rising (Write p s d) = refl
rising (Read p s d q) = refl
rising (Finish p s) = refl
rising (Fail p) = refl
rising (DriveOff d) = refl
rising (DriveOn d) = refl

-- the lowest refusal that applies is given, and a refusal leaves every cell as it was
pub step_lowest_first
    : (cells : List ℕ) (st : Step) → LowestFirst (step_rule cells st) (numbers_for st) (answered cells st) cells (stepped cells st)
unfolding answered stepped judged
step_lowest_first cells st =
    orderly (numbers_listed cells st) (rising st)
    (refusal_mapped answer_of (judged cells st) ∙ refusal_mapped (effect_by cells st) (outcome (step_rule cells st)))
    (λ e.
    left_as_it_was (settled (sizes_of cells) cells) cells (judged cells st)
    (sym (accepted_mapped answer_of (judged cells st)) ∙ e))
