-- What p wishes in phase 1 or 2: a Write is accepted and closes an open place; so does a Read, or it learns, or it meets a block
-- whose ballot is not lower; then comes Finish.
use Prim.Native.Nat.{ℕ, zero, suc, ◌*◌, ◌<◌, ◌≤◌}
use mathlib.Core.Bool.{true, false, not}
use mathlib.Core.List.{Memᴰ}
use mathlib.Core.Path.{◌≡◌, refl, ◌∙◌, ap}
use native.Mathlib.Omega.{arith}
use lib.Dec.{eqb, ltb}
use borrow.Author.Tests.{eqb-false, ne_eqb, ltb-true, ltb-false, le-ltb, not-true}
use Rattle.std.specs.Prelude.{Some, Ok}
use Rattle.ballot.specs.Ballot.{next_own}
use Rattle.quorum.specs.Marks.{stands}
use Rattle.state.specs.declared.Block.{Block}
use Rattle.state.specs.declared.Server.{Server}
use Rattle.state.specs.declared.Sizes.{Sizes}
use Rattle.state.specs.declared.Step.TheVariants.{Write, Read, Finish}
use Rattle.state.specs.declared.Answer.{Answer}
use Rattle.state.specs.declared.Answer.TheVariants.{Done, Outbid}
use Rattle.synod.specs.Arguments.{places_fit}
use Rattle.synod.specs.Changes.{read_bit, meeting, marking, bidding, writing, reading, agreeing}
use Rattle.synod.specs.Rules.{Ruling, ruling, balloting, other_read, write_rule, read_rule, rule_of}
use Rattle.synod.specs.Slot.{Slot, config_of}
use Rattle.synod.proofs.Machine.{ruled, after}
use Rattle.progress.specs.Next.{unread, wished}
use Rattle.progress.proofs.Drives.{used_in, servers_in, Used, used_says}
use Rattle.progress.proofs.Potential.{pairs, open_places, outbidding, remaining, potential, potential_in, open_falls}
use Rattle.progress.proofs.Accepts.{in_ballot, write_accepts, learn_accepts, read_accepts, outbid_accepts}
use Rattle.lemmas.proofs.Tests.{by_test, neither_left, neither_right}
use Rattle.progress.proofs.Members.{numbers_between}
use Rattle.progress.proofs.Left.{Complete, first_round}
use Rattle.progress.proofs.Marking.{own_place, other_place, write_closes, write_opens_none, read_closes, read_opens_none}
use Rattle.progress.proofs.Good.{Matches, Good, writes, in_record, Taken, GoesOn, commits, lowers, record_matches, block_matches}
use Rattle.progress.proofs.Setting.{Setting, bit_small, there, beside}

module _ {z : Sizes} {off p s : ℕ} {found : ℕ → ℕ → ℕ} (set : Setting z off p s found) (σ : Slot) (v : Server)
    (matched : Matches z off p s found σ v) (one : 1 ≤ v.phase) (two : v.phase ≤ 2) where
  -- phase 1 or 2
  ballots : balloting v ≡ true
  ballots = in_ballot v one two

  -- the same ballot in the same phase, with fewer open places
  same_ballot
      : (w : Server) → w.phase ≡ v.phase → w.mbal ≡ v.mbal → open_places z off p w < open_places z off p v
      → potential z off p found w < potential z off p found v
  unfolding remaining
  same_ballot w a b fewer =
      let same : outbidding z off p found w.mbal * pairs z off p ≡ outbidding z off p found v.mbal * pairs z off p =
      ap (λ (k : ℕ). outbidding z off p found k * pairs z off p) b in
      omega (arith, potential_in z off p found w v.phase a, potential_in z off p found v v.phase refl, less v.phase one)
    where
      less : (k : ℕ) → 1 ≤ k → remaining z off p k w < remaining z off p k v
      less zero l = absurd (omega arith)
      less (suc zero) l = omega (arith, fewer)
      less (suc (suc k)) l = omega (arith, fewer)

  module _ (d : ℕ) (i : Memᴰ d (used_in z off)) where
    u : Used z.drives off d
    u = used_says z.drives off d i

    write_fewer : stands v.written d ≡ false → open_places z off p (writing v d) < open_places z off p v
    write_fewer e =
        let small : d < 32 = omega (arith, u.within, set.fit.drives) in
        open_falls z off p v (writing v d) d p i set.server (own_place p v d ∙ ap not e) (write_closes p v d small)
        (write_opens_none p v d small)

    write_taken : wished z off v p s ≡ Some (Write p s d) → Taken z off p s found σ v (Write p s d) (writing v d) Done
    unfolding rule_of places_fit
    write_taken wish =
        record {
          wish = wish;
          places = there set d u.within;
          view = writes d;
          rule = ap (λ x. ruling (write_rule off x d)) matched.own ∙ write_accepts off v d ballots u.on;
        }

    write_goes
        : stands v.written d ≡ false → Good z off p s found (writing v d) → wished z off v p s ≡ Some (Write p s d)
        → GoesOn z off p s found σ v
    unfolding after writing
    write_goes e good wish =
        lowers (Write p s d) (writing v d) Done (write_taken wish) (block_matches z off p s found σ v (writing v d) matched d one) good
        (same_ballot (writing v d) refl refl (write_fewer e))

    module _ (q : ℕ) (lq : q < z.servers) (n : q ≡ p → ⊥) (written : stands v.written d ≡ true) where
      abbrev b : Block
      b = (σ q).disk d

      read_ruled : (st : Ruling) → ruling (read_rule z.servers off v b p d q) ≡ st → ruled (config_of z) off σ (Read p s d q) ≡ st
      unfolding rule_of
      read_ruled st e = ap (λ x. ruling (read_rule z.servers off x ((σ q).disk d) p d q)) matched.own ∙ e

      taken
          : (w : Server) (a : Answer) → wished z off v p s ≡ Some (Read p s d q)
          → ruling (read_rule z.servers off v b p d q) ≡ Ok (w, a) → Taken z off p s found σ v (Read p s d q) w a
      unfolding places_fit
      taken w a wish e =
          record { wish = wish; places = beside set d q u.within lq n; view = in_record; rule = read_ruled (Ok (w, a)) e }

      found_there : b.mbal ≡ found q d
      found_there = matched.blocks q d lq u.within (λ one. n)

      learn_goes : eqb b.done 0 ≡ false → wished z off v p s ≡ Some (Read p s d q) → GoesOn z off p s found σ v
      learn_goes some wish =
          commits (Read p s d q) (agreeing v b.done) b.done
          (taken _ _ wish (learn_accepts off v d ballots u.on z.servers b p q written some))

      read_fewer : stands v.read (read_bit d q) ≡ false → open_places z off p (reading v b d q) < open_places z off p v
      read_fewer e =
          let small = bit_small set d q u.within lq in
          open_falls z off p v (reading v b d q) d q i lq (other_place p v d q n ∙ ap not e) (read_closes p v b d q small n)
          (read_opens_none p v b d q small)

      module _ (none : eqb b.done 0 ≡ true) where
        read_taken
            : found q d < v.mbal → wished z off v p s ≡ Some (Read p s d q)
            → Taken z off p s found σ v (Read p s d q) (reading v b d q) Done
        read_taken l wish =
            taken _ _ wish
            (read_accepts off v d ballots u.on z.servers b p q written none (let f = found_there in omega arith))

        read_goes
            : found q d < v.mbal → stands v.read (read_bit d q) ≡ false → Good z off p s found (reading v b d q)
            → wished z off v p s ≡ Some (Read p s d q) → GoesOn z off p s found σ v
        unfolding after reading meeting marking
        read_goes l e good wish =
            let w = reading v b d q in
            lowers (Read p s d q) w Done (read_taken l wish) (record_matches z off p s found σ v w matched (λ k. k)) good
            (same_ballot w refl refl (read_fewer e))

        pub outbid_taken
            : (next : ℕ) → v.mbal ≤ found q d → next_own z.servers p (found q d) ≡ Some next
            → wished z off v p s ≡ Some (Read p s d q)
            → Taken z off p s found σ v (Read p s d q) (bidding v next) (Outbid b.mbal)
        outbid_taken next l own wish =
            taken _ _ wish
            (outbid_accepts off v d ballots u.on z.servers b p q written none next
            (le-ltb b.mbal v.mbal (let f = found_there in omega arith)) (ap (next_own z.servers p) found_there ∙ own))

  -- q is another server, and its block is not read
  record Unread (d q : ℕ) : Type 0 where
    apart : q ≡ p → ⊥
    unread : stands v.read (read_bit d q) ≡ false

  unread_says : (d q : ℕ) → unread z off v p s d q ≡ true → Unread d q
  unfolding unread
  unread_says d q h =
      let no = not-true (other_read v p d q) h in
      record {
        apart = eqb-false q p (neither_left (eqb q p) (stands v.read (read_bit d q)) no);
        unread = neither_right (eqb q p) (stands v.read (read_bit d q)) no;
      }

  -- what a Read that p wishes comes to, where a block with no done and no lower mbal is seen to
  read_goes_on
      : ((d q : ℕ) → Memᴰ d (used_in z off) → q < z.servers → (q ≡ p → ⊥) → found q d < v.mbal
      → Good z off p s found (reading v ((σ q).disk d) d q))
      → ((d q : ℕ) (i : Memᴰ d (used_in z off)) (lq : q < z.servers) → (q ≡ p → ⊥) → stands v.written d ≡ true
      → stands v.read (read_bit d q) ≡ false → eqb ((σ q).disk d).done 0 ≡ true → v.mbal ≤ found q d
      → wished z off v p s ≡ Some (Read p s d q) → GoesOn z off p s found σ v)
      → (d q : ℕ) → Memᴰ d (used_in z off) → Memᴰ q (servers_in z) → stands v.written d ≡ true → unread z off v p s d q ≡ true
      → wished z off v p s ≡ Some (Read p s d q) → GoesOn z off p s found σ v
  read_goes_on good high d q i j written left wish =
      let u = unread_says d q left in
      let r = numbers_between 0 z.servers q j in
      let lq : q < z.servers = omega (arith, r.below) in
      by_test (eqb ((σ q).disk d).done 0)
      (λ none.
      by_test (ltb (found q d) v.mbal)
      (λ l.
      let low = ltb-true (found q d) v.mbal l in
      read_goes d i q lq u.apart written none low u.unread (good d q i lq u.apart low) wish)
      (λ l. high d q i lq u.apart written u.unread none (ltb-false (found q d) v.mbal l) wish))
      (λ some. learn_goes d i q lq u.apart written some wish)

  -- all that p wishes in phase 1 or 2
  pub goes_on
      : ((d : ℕ) → Memᴰ d (used_in z off) → Good z off p s found (writing v d))
      → ((d q : ℕ) → Memᴰ d (used_in z off) → q < z.servers → (q ≡ p → ⊥) → found q d < v.mbal
      → Good z off p s found (reading v ((σ q).disk d) d q))
      → ((d q : ℕ) (i : Memᴰ d (used_in z off)) (lq : q < z.servers) → (q ≡ p → ⊥) → stands v.written d ≡ true
      → stands v.read (read_bit d q) ≡ false → eqb ((σ q).disk d).done 0 ≡ true → v.mbal ≤ found q d
      → wished z off v p s ≡ Some (Read p s d q) → GoesOn z off p s found σ v)
      → (Complete z off v p s (used_in z off) → wished z off v p s ≡ Some (Finish p s) → GoesOn z off p s found σ v)
      → GoesOn z off p s found σ v
  unfolding wished
  goes_on write good high finish =
      first_round (λ x. wished z off v p s ≡ x → GoesOn z off p s found σ v) z off v p s (Some (Finish p s))
      (λ d i e. write_goes d i e (write d i))
      (read_goes_on good high)
      finish
      (rw (ne_eqb v.phase 0 (λ e. omega (arith, one)), ballots) refl)
