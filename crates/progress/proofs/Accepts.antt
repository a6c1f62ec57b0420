-- When the rules accept, and what they answer.
use Prim.Native.Nat.{ℕ, ◌<◌, ◌≤◌}
use mathlib.Core.Bool.{true, false}
use mathlib.Core.Path.{◌≡◌, refl}
use native.Mathlib.Omega.{arith}
use lib.Dec.{eqb, ltb}
use borrow.Author.Tests.{eqb-false, eq-eqb, ne_eqb, lt-ltb}
use Rattle.lemmas.proofs.Tests.{by_test, or_right}
use Rattle.std.specs.Prelude.{Some, Ok}
use Rattle.checks.specs.Checks.{must}
use Rattle.ballot.specs.Ballot.{owned, next_own}
use Rattle.quorum.specs.Marks.{stands}
use Rattle.quorum.specs.Sets.{majority}
use Rattle.state.specs.declared.Block.{Block}
use Rattle.state.specs.declared.Server.{Server}
use Rattle.state.specs.declared.Answer.TheVariants.{Done, Outbid, Chosen, Committed}
use Rattle.synod.specs.Changes.{recalling, rejoining, bidding, writing, reading, proposing, agreeing}
use Rattle.synod.specs.Rules.{is_on, ruling, balloting, recalled_on, complete_on, command_of, recall_rule, rejoin_rule, write_rule, outbid_rule, read_rule, finish_rule}

-- phase 1 or 2
pub in_ballot : (v : Server) → 1 ≤ v.phase → v.phase ≤ 2 → balloting v ≡ true
in_ballot v least most =
    by_test (eqb v.phase 1)
    (λ e. rw e refl)
    (λ e.
    let n = eqb-false v.phase 1 e in
    or_right (eqb v.phase 1) (eqb v.phase 2) (eq-eqb v.phase 2 (omega arith)))

pub recall_accepts
    : (off : ℕ) (v : Server) (b : Block) (p d : ℕ) → v.phase ≡ 0 → is_on off d ≡ true
    → ruling (recall_rule off v b p d) ≡ Ok (recalling v b p d, Done)
unfolding recall_rule must
recall_accepts off v b p d e o = rw (e, o) refl

pub rejoin_accepts
    : (servers drives : ℕ) (v : Server) (p b : ℕ) → owned servers p b ≡ true → v.phase ≡ 0
    → majority drives (recalled_on v p) ≡ true → v.top < b
    → ruling (rejoin_rule servers drives v p b) ≡ Ok (rejoining v b, Done)
unfolding rejoin_rule must
rejoin_accepts servers drives v p b own e most up = rw (own, e, most, lt-ltb v.top b up) refl

module _ (off : ℕ) (v : Server) (d : ℕ) (e : balloting v ≡ true) (o : is_on off d ≡ true) where
  pub write_accepts : ruling (write_rule off v d) ≡ Ok (writing v d, Done)
  unfolding write_rule must
  write_accepts = rw (e, o) refl

  module _ (servers : ℕ) (b : Block) (p q : ℕ) (w : stands v.written d ≡ true) where
    pub learn_accepts : eqb b.done 0 ≡ false → ruling (read_rule servers off v b p d q) ≡ Ok (agreeing v b.done, Committed b.done)
    unfolding read_rule must
    learn_accepts some = rw (e, o, w, some) refl

    module _ (none : eqb b.done 0 ≡ true) where
      pub read_accepts : b.mbal < v.mbal → ruling (read_rule servers off v b p d q) ≡ Ok (reading v b d q, Done)
      unfolding read_rule must
      read_accepts l = rw (e, o, w, none, lt-ltb b.mbal v.mbal l) refl

      pub outbid_accepts
          : (next : ℕ) → ltb b.mbal v.mbal ≡ false → next_own servers p b.mbal ≡ Some next
          → ruling (read_rule servers off v b p d q) ≡ Ok (bidding v next, Outbid b.mbal)
      unfolding read_rule outbid_rule must
      outbid_accepts next l own = rw (e, o, w, none, l, own) refl

module _ (servers drives : ℕ) (v : Server) (p : ℕ) (most : majority drives (complete_on servers v p) ≡ true) where
  some_command : (v.offer ≡ 0 → ⊥) → eqb (command_of v) 0 ≡ false
  some_command some =
      by_test (eqb v.seeninp 0)
      (λ t. rw t (ne_eqb v.offer 0 some))
      (λ t. rw t t)

  pub choose_accepts
      : v.phase ≡ 1 → (v.offer ≡ 0 → ⊥)
      → ruling (finish_rule servers drives v p) ≡ Ok (proposing v (command_of v), Chosen (command_of v))
  unfolding finish_rule must
  choose_accepts e some = rw (most, some_command some) (rw e refl)

  pub commit_accepts : v.phase ≡ 2 → ruling (finish_rule servers drives v p) ≡ Ok (agreeing v v.inp, Committed v.inp)
  unfolding finish_rule must
  commit_accepts e = rw most (rw e refl)
