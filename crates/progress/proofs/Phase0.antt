-- Phase 0: each recall and the Rejoin that p wishes is accepted and lowers the potential.
use Prim.Native.Nat.{ℕ, ◌*◌, ◌≤◌}
use mathlib.Core.Bool.{true, false}
use mathlib.Core.List.{Memᴰ}
use mathlib.Core.Path.{◌≡◌, refl, ◌∙◌, ap}
use native.Mathlib.Omega.{arith}
use native.Mathlib.Nat.{mul-le-mul_right}
use borrow.Author.Tests.{not-true, not-false}
use Rattle.lemmas.proofs.Tests.{clash}
use Rattle.std.specs.Prelude.{Some, option_map}
use Rattle.ballot.proofs.Laws.{next_owned, next_above}
use Rattle.quorum.specs.Marks.{stands}
use Rattle.quorum.specs.Sets.{majority}
use Rattle.quorum.proofs.Larger.{majority_more}
use Rattle.quorum.proofs.MarkLaws.{stands-zero}
use Rattle.state.specs.declared.Server.{Server}
use Rattle.state.specs.declared.Sizes.{Sizes}
use Rattle.state.specs.declared.Step.TheVariants.{Recall, Rejoin}
use Rattle.state.specs.declared.Answer.TheVariants.{Done}
use Rattle.synod.specs.Arguments.{places_fit}
use Rattle.synod.specs.Changes.{read_bit, meeting, topping, marking, recalling, rejoining}
use Rattle.synod.specs.Rules.{ruling, recalled_on, recall_rule, rejoin_rule, rule_of}
use Rattle.synod.specs.Slot.{Slot}
use Rattle.synod.proofs.Machine.{after}
use Rattle.progress.specs.Used.{is_used}
use Rattle.progress.specs.Next.{unrecalled, rejoin, wished}
use Rattle.progress.proofs.Drives.{used_in, used_says, says_used, used_majority}
use Rattle.progress.proofs.Left.{first_recall}
use Rattle.progress.proofs.Potential.{pairs, outbidding, remaining, potential_in, open_most, recall_falls, outbidding_less}
use Rattle.progress.proofs.Accepts.{recall_accepts, rejoin_accepts}
use Rattle.progress.proofs.Marking.{recall_marks, recall_keeps}
use Rattle.progress.proofs.Good.{Matches, InPhase0, in_0, in_1, in_record, GoesOn, lowers, record_matches}
use Rattle.progress.proofs.Ballots.{ballot_left}
use Rattle.progress.proofs.Setting.{Setting, bit_small, here, there}

module _ {z : Sizes} {off p s : ℕ} {found : ℕ → ℕ → ℕ} (set : Setting z off p s found) (σ : Slot) (v : Server)
    (matched : Matches z off p s found σ v) (g : InPhase0 z off p s found v) where
  recall_step
      : (d : ℕ) → Memᴰ d (used_in z off) → unrecalled z off v p s d ≡ true → wished z off v p s ≡ Some (Recall p s d)
      → GoesOn z off p s found σ v
  unfolding rule_of places_fit after recalling meeting topping marking unrecalled remaining
  recall_step d i left wish =
      let u = used_says z.drives off d i in
      let b = (σ p).disk d in
      let w = recalling v b p d in
      let small = bit_small set d p u.within set.server in
      let low-b : b.mbal ≡ found p d = matched.blocks p d set.server u.within (λ one. absurd (let f = g.phase in omega arith)) in
      let fewer =
      recall_falls z off p v w d i (not-true (recalled_on v p d) left) (recall_marks v b p d small) (recall_keeps v b p d small) in
      lowers (Recall p s d) w Done
      (record {
        wish = wish;
        places = there set d u.within;
        view = in_record;
        rule = ap (λ x. ruling (recall_rule off x b p d)) matched.own ∙ recall_accepts off v b p d g.phase u.on;
      })
      (record_matches z off p s found σ v w matched (λ one. one))
      (in_0 (record { phase = g.phase; offer = g.offer; mbal = g.mbal; top = omega (arith, g.top, set.low p d set.server u.within) }))
      (omega (arith, potential_in z off p found v 0 g.phase, potential_in z off p found w 0 g.phase))

  rejoin_step
      : ((d : ℕ) → Memᴰ d (used_in z off) → unrecalled z off v p s d ≡ false) → wished z off v p s ≡ rejoin z off v p s
      → GoesOn z off p s found σ v
  unfolding rule_of places_fit after rejoining rejoin unrecalled remaining
  rejoin_step all wish =
      let left = ballot_left z.servers p v.top set.server set.fit.servers g.top in
      let b = left.ballot in
      let w = rejoining v b in
      let enough : majority z.drives (recalled_on v p) ≡ true =
      majority_more z.drives (is_used z.drives off) (recalled_on v p)
      (λ d l u. not-false (recalled_on v p d) (all d (says_used z.drives off d l u)))
      (used_majority z.drives off set.most) in
      let up = next_above z.servers p v.top b left.is in
      let fewer = outbidding_less z off p found v.mbal b (let m = g.mbal in omega arith) in
      let scaled : outbidding z off p found b * pairs z off p ≤ outbidding z off p found v.mbal * pairs z off p =
      mul-le-mul_right (pairs z off p) fewer in
      lowers (Rejoin p s b) w Done
      (record {
        wish = wish ∙ ap (option_map (Rejoin p s)) left.is;
        places = here set;
        view = in_record;
        rule =
            ap (λ x. ruling (rejoin_rule z.servers z.drives x p b)) matched.own
            ∙ rejoin_accepts z.servers z.drives v p b (next_owned z.servers p v.top b left.is) g.phase enough up;
      })
      (record_matches z off p s found σ v w matched (λ one. omega arith))
      (in_1
      (record { phase = refl; offer = g.offer; seen = λ d q i l n t. clash (stands 0 (read_bit d q)) t (stands-zero (read_bit d q)) }))
      (omega (arith, potential_in z off p found v 0 g.phase, potential_in z off p found w 1 refl, open_most z off p w))

  pub goes_0 : GoesOn z off p s found σ v
  unfolding wished
  goes_0 =
      first_recall (λ x. wished z off v p s ≡ x → GoesOn z off p s found σ v) z off v p s (rejoin z off v p s)
      recall_step rejoin_step
      (rw g.phase refl)
