-- The drives used: each is on, and they are a majority where the on drives are.
use Prim.Native.Nat.{ℕ, zero, suc, ◌<◌, ◌≤◌}
use mathlib.Core.Bool.{Bool, true, false, not, ◌&&◌}
use mathlib.Core.List.{List, Memᴰ}
use mathlib.Core.Path.{◌≡◌, ap}
use native.Mathlib.Omega.{arith}
use lib.Dec.{ltb}
use borrow.Author.Tests.{ltb-true, lt-ltb}
use Rattle.lemmas.proofs.Tests.{by_test, clash, and_left, and_right, and_intro}
use Rattle.quorum.specs.Sets.{majority}
use Rattle.quorum.proofs.Larger.{majority_more}
use Rattle.std.specs.List.{range_with_len}
use Rattle.state.specs.declared.Sizes.{Sizes}
use Rattle.synod.specs.Rules.{is_on}
use Rattle.progress.specs.Used.{on_below, is_used, used_drives}
use Rattle.progress.proofs.Members.{numbers_between, between_numbers, filter_says, says_filter}

-- those of a room of these sizes, and its servers
abbrev pub used_in : Sizes → ℕ → List ℕ
used_in z off = used_drives z.drives off

abbrev pub servers_in : Sizes → List ℕ
servers_in z = range_with_len 0 z.servers

module _ (drives off : ℕ) where
  pub record Used (d : ℕ) : Type 0 where
    pub within : d < drives
    pub on : is_on off d ≡ true

  pub used_says : (d : ℕ) → Memᴰ d (used_drives drives off) → Used d
  unfolding is_used
  used_says d i =
      let p = filter_says (is_used drives off) (range_with_len 0 drives) d i in
      let r = numbers_between 0 drives d p.member in
      record { within = omega (arith, r.below); on = and_left (is_on off d) (not (majority drives (on_below off d))) p.passes }

  pub says_used : (d : ℕ) → d < drives → is_used drives off d ≡ true → Memᴰ d (used_drives drives off)
  says_used d l u =
      says_filter (is_used drives off) (range_with_len 0 drives) d (between_numbers 0 drives d (omega arith) (omega arith)) u

  -- the used drives below d
  used_below : ℕ → ℕ → Bool
  used_below d e = ltb e d && is_used drives off e

  -- where the on drives below n are no majority, those up to n are used
  pub early : (n d : ℕ) → majority drives (on_below off n) ≡ false → d ≤ n → is_on off d ≡ true → is_used drives off d ≡ true
  unfolding is_used
  early n d h l e =
      by_test (majority drives (on_below off d))
      (λ t.
      clash (majority drives (on_below off n))
      (majority_more drives (on_below off d) (on_below off n)
      (λ x lx i.
      let y = ltb-true x d (and_left (ltb x d) (is_on off x) i) in
      and_intro (ltb x n) (is_on off x) (lt-ltb x n (omega arith)) (and_right (ltb x d) (is_on off x) i))
      t) h)
      (λ t. and_intro (is_on off d) (not (majority drives (on_below off d))) e (ap not t))

  grows : (n : ℕ) → majority drives (on_below off n) ≡ true → majority drives (used_below n) ≡ true
  unfolding used_below
  grows zero h =
      majority_more drives (on_below off 0) (used_below 0)
      (λ d l i. absurd (let y = ltb-true d 0 (and_left (ltb d 0) (is_on off d) i) in omega arith)) h
  grows (suc n) h =
      by_test (majority drives (on_below off n))
      (λ t.
      majority_more drives (used_below n) (used_below (suc n))
      (λ d l i.
      let y = ltb-true d n (and_left (ltb d n) (is_used drives off d) i) in
      and_intro (ltb d (suc n)) (is_used drives off d) (lt-ltb d (suc n) (omega arith)) (and_right (ltb d n) (is_used drives off d) i))
      (grows n t))
      (λ t.
      majority_more drives (on_below off (suc n)) (used_below (suc n))
      (λ d l i.
      let y = ltb-true d (suc n) (and_left (ltb d (suc n)) (is_on off d) i) in
      and_intro (ltb d (suc n)) (is_used drives off d) (lt-ltb d (suc n) y)
      (early n d t (omega arith) (and_right (ltb d (suc n)) (is_on off d) i)))
      h)

  pub used_majority : majority drives (is_on off) ≡ true → majority drives (is_used drives off) ≡ true
  unfolding used_below
  used_majority h =
      majority_more drives (used_below drives) (is_used drives off)
      (λ d l i. and_right (ltb d drives) (is_used drives off d) i)
      (grows drives
      (majority_more drives (is_on off) (on_below off drives)
      (λ d l e. and_intro (ltb d drives) (is_on off d) (lt-ltb d drives l) e) h))
