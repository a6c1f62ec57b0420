-- The drives that are used, as the marks of a cell.
use Prim.Native.Nat.{ℕ, ◌<◌, ◌≤◌}
use mathlib.Core.Path.{◌≡◌, refl, ◌∙◌, sym, ap}
use mathlib.Core.Bool.{true, false, not}
use native.Mathlib.Omega.{arith}
use native.Mathlib.Decide.{dec_lt}
use native.Mathlib.Nat.{lt_of_lt_of_le}
use lib.Pow.{pow_mono}
use borrow.Author.Tests.{lt-ltb, le-ltb}
use Rattle.lemmas.proofs.Tests.{and_left, same_test}
use Rattle.quorum.specs.Marks.{stands}
use Rattle.quorum.specs.Sets.{gathered, majority}
use Rattle.quorum.proofs.Gathered.{stands_gathered, gathered_below, majority_gathered}
use Rattle.quorum.proofs.Larger.{majority_more}
use Rattle.quorum.proofs.Majorities.{majority_same}
use Rattle.quorum.proofs.MarkLaws.{stands_small}
use Rattle.std.specs.Prelude.{filter}
use Rattle.std.specs.List.{range_with_len}
use Rattle.synod.specs.Rules.{is_on}
use Rattle.progress.specs.Used.{on_below, is_used, used_drives}
use Rattle.progress.proofs.Drives.{used_majority}
use Rattle.next_step.proofs.Firsts.{filter_same}

module _ (drives off : ℕ) where
  -- whether the on drives below d are a majority is judged on the cell that they are gathered in
  pub majority_below : (d : ℕ) → majority drives (stands (gathered d (is_on off))) ≡ majority drives (on_below off d)
  majority_below d = majority_same drives (stands (gathered d (is_on off))) (on_below off d) (λ e l. at e (dec_lt e d))
    where
      at : (e : ℕ) → Dec (e < d) → stands (gathered d (is_on off)) e ≡ on_below off d e
      at e (yes b) = rw (lt-ltb e d b) (stands_gathered d (is_on off) e b)
      at e (no b) =
          let past : d ≤ e = omega arith in
          rw (le-ltb e d past) (stands_small (gathered d (is_on off)) e (lt_of_lt_of_le (gathered_below d (is_on off)) (pow_mono past)))

  -- whether drive d is used, where the on drives below it are gathered
  pub off_unused : (d : ℕ) → stands off d ≡ true → is_used drives off d ≡ false
  unfolding is_used
  off_unused d e = rw e refl

  pub on_used
      : (d below : ℕ) → below ≡ gathered d (is_on off) → stands off d ≡ false → is_used drives off d ≡ not (majority drives (stands below))
  unfolding is_used
  on_used d below so_far e =
      rw e (ap not (sym (majority_below d) ∙ sym (ap (λ (m : ℕ). majority drives (stands m)) so_far)))

  -- the used drives are a majority where the on drives are, and only there
  pub majority_used
      : (used : ℕ) → used ≡ gathered drives (is_used drives off) → majority drives (stands used) ≡ majority drives (is_on off)
  unfolding is_used
  majority_used used e =
      ap (λ (m : ℕ). majority drives (stands m)) e
      ∙ majority_gathered drives (is_used drives off)
      ∙ same_test (majority drives (is_used drives off)) (majority drives (is_on off))
      (majority_more drives (is_used drives off) (is_on off)
      (λ d l u. and_left (is_on off d) (not (majority drives (on_below off d))) u))
      (used_majority drives off)

  -- the drives whose mark stands
  pub marked_used
      : (used : ℕ) → used ≡ gathered drives (is_used drives off)
      → filter (stands used) (range_with_len 0 drives) ≡ used_drives drives off
  marked_used used e =
      filter_same (stands used) (is_used drives off) 0 drives
      (λ d l m. ap (λ (k : ℕ). stands k d) e ∙ stands_gathered drives (is_used drives off) d (omega arith))
