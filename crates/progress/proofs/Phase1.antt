-- Phase 1: each step that p wishes is accepted; it commits, or lowers the potential.
use Prim.Native.Nat.{ℕ, suc, ◌*◌, ◌<◌, ◌≤◌}
use mathlib.Core.Bool.{true, false, not}
use mathlib.Core.List.{Memᴰ}
use mathlib.Core.Logic.{◌⊎◌, inl, inr}
use mathlib.Core.Path.{◌≡◌, refl, ◌∙◌, sym, ap, subst}
use native.Mathlib.Omega.{arith}
use native.Mathlib.Nat.{mul-le-mul_right, suc-mul}
use lib.Dec.{eqb}
use borrow.Author.Tests.{ne_eqb, not-false}
use Rattle.lemmas.proofs.Tests.{clash}
use Rattle.std.specs.Prelude.{Some}
use Rattle.ballot.proofs.Laws.{next_above}
use Rattle.quorum.specs.Marks.{stands, marked}
use Rattle.quorum.proofs.MarkLaws.{stands-zero}
use Rattle.state.specs.declared.Server.{Server}
use Rattle.state.specs.declared.Sizes.{Sizes}
use Rattle.state.specs.declared.Step.TheVariants.{Read, Finish}
use Rattle.state.specs.declared.Answer.TheVariants.{Outbid, Chosen}
use Rattle.synod.specs.Arguments.{places_fit}
use Rattle.synod.specs.Changes.{read_bit, meeting, marking, bidding, writing, reading, proposing}
use Rattle.synod.specs.Rules.{ruling, other_read, command_of, finish_rule, rule_of}
use Rattle.synod.specs.Slot.{Slot}
use Rattle.synod.proofs.Machine.{after}
use Rattle.synod.proofs.Marks.{marked_or, same_bit}
use Rattle.progress.specs.Next.{unread, wished}
use Rattle.progress.proofs.Members.{between_numbers}
use Rattle.progress.proofs.Drives.{used_in, used_says}
use Rattle.progress.proofs.Left.{Complete}
use Rattle.progress.proofs.Potential.{pairs, outbidding, remaining, potential_in, open_most, open_some, outbidding_falls}
use Rattle.progress.proofs.Accepts.{choose_accepts}
use Rattle.progress.proofs.Marking.{other_place}
use Rattle.progress.proofs.Good.{Matches, InPhase1, Good, in_1, in_2, in_record, GoesOn, lowers, record_matches}
use Rattle.progress.proofs.Ballots.{ballot_left}
use Rattle.progress.proofs.Setting.{Setting, here, complete}
use Rattle.progress.proofs.Rounds.{goes_on, outbid_taken}

module _ {z : Sizes} {off p s : ℕ} {found : ℕ → ℕ → ℕ} (set : Setting z off p s found) (σ : Slot) (v : Server)
    (matched : Matches z off p s found σ v) (g : InPhase1 z off p s found v) where
  one : 1 ≤ v.phase
  one = let e = g.phase in omega arith

  two : v.phase ≤ 2
  two = let e = g.phase in omega arith

  -- the marks after a Read that was not outbid
  seen_more
      : (d q : ℕ) → q < z.servers → found q d < v.mbal
      → (e r : ℕ) → Memᴰ e (used_in z off) → r < z.servers → (r ≡ p → ⊥) → stands (marked v.read (read_bit d q)) (read_bit e r) ≡ true
      → found r e < v.mbal
  seen_more d q lq l e r i m n h = go (marked_or v.read (read_bit d q) (read_bit e r) h)
    where
      go : (read_bit e r ≡ read_bit d q) ⊎ (stands v.read (read_bit e r) ≡ true) → found r e < v.mbal
      go (inl t) =
          let few = set.fit.servers in
          let same = same_bit e r d q (omega arith) (omega arith) t in
          subst (λ (x : ℕ). found x e < v.mbal) (sym same.1) (subst (λ (x : ℕ). found q x < v.mbal) (sym same.0) l)
      go (inr t) = g.seen e r i m n t

  written_good : (d : ℕ) → Memᴰ d (used_in z off) → Good z off p s found (writing v d)
  unfolding writing
  written_good d i = in_1 (record { phase = g.phase; offer = g.offer; seen = g.seen })

  read_good
      : (d q : ℕ) → Memᴰ d (used_in z off) → q < z.servers → (q ≡ p → ⊥) → found q d < v.mbal
      → Good z off p s found (reading v ((σ q).disk d) d q)
  unfolding reading meeting marking
  read_good d q i lq n l = in_1 (record { phase = g.phase; offer = g.offer; seen = seen_more d q lq l })

  outbid_step
      : (d q : ℕ) (i : Memᴰ d (used_in z off)) (lq : q < z.servers) → (q ≡ p → ⊥) → stands v.written d ≡ true
      → stands v.read (read_bit d q) ≡ false → eqb ((σ q).disk d).done 0 ≡ true → v.mbal ≤ found q d
      → wished z off v p s ≡ Some (Read p s d q) → GoesOn z off p s found σ v
  unfolding after bidding remaining
  outbid_step d q i lq n written unread none high wish =
      let u = used_says z.drives off d i in
      let left = ballot_left z.servers p (found q d) set.server set.fit.servers (set.low q d lq u.within) in
      let next = left.ballot in
      let w = bidding v next in
      let up = next_above z.servers p (found q d) next left.is in
      let fewer = outbidding_falls z off p found v.mbal next (omega arith) d q i lq n high up in
      let scaled : suc (outbidding z off p found next) * pairs z off p ≤ outbidding z off p found v.mbal * pairs z off p =
      mul-le-mul_right (pairs z off p) fewer in
      lowers (Read p s d q) w (Outbid ((σ q).disk d).mbal)
      (outbid_taken set σ v matched one two d i q lq n written none next high left.is wish)
      (record_matches z off p s found σ v w matched (λ k. omega arith))
      (in_1
      (record { phase = refl; offer = g.offer; seen = λ e r j m k t. clash (stands 0 (read_bit e r)) t (stands-zero (read_bit e r)) }))
      (omega (
        arith,
        potential_in z off p found v 1 g.phase,
        potential_in z off p found w 1 refl,
        open_most z off p w,
        open_some z off p v d q i lq (other_place p v d q n ∙ ap not unread),
        suc-mul (outbidding z off p found next) (pairs z off p),
      ))

  choose_step
      : Complete z off v p s (used_in z off) → wished z off v p s ≡ Some (Finish p s) → GoesOn z off p s found σ v
  unfolding rule_of places_fit after proposing unread remaining
  choose_step all wish =
      let x = command_of v in
      let w = proposing v x in
      let read : (d q : ℕ) → Memᴰ d (used_in z off) → q < z.servers → (q ≡ p → ⊥) → stands v.read (read_bit d q) ≡ true =
      λ d q i l n.
      read_of d q n (not-false (other_read v p d q) (all.read d q i (between_numbers 0 z.servers q (omega arith) (omega arith)))) in
      lowers (Finish p s) w (Chosen x)
      (record {
        wish = wish;
        places = here set;
        view = in_record;
        rule =
            ap (λ y. ruling (finish_rule z.servers z.drives y p)) matched.own
            ∙ choose_accepts z.servers z.drives v p (complete set v all) g.phase g.offer;
      })
      (record_matches z off p s found σ v w matched (λ k. omega arith))
      (in_2 (record { phase = refl; ahead = λ d q i l n. g.seen d q i l n (read d q i l n) }))
      (omega (arith, potential_in z off p found v 1 g.phase, potential_in z off p found w 2 refl, open_most z off p w))
    where
      read_of : (d q : ℕ) → (q ≡ p → ⊥) → other_read v p d q ≡ true → stands v.read (read_bit d q) ≡ true
      read_of d q n h = rw (ne_eqb q p n) at h

  pub goes_1 : GoesOn z off p s found σ v
  goes_1 = goes_on set σ v matched one two written_good read_good outbid_step choose_step
