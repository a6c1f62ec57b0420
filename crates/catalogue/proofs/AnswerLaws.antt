-- What an answer says: the counts and the cells of an accepted call, how many and how large these are, and that a refusal
-- gives the lowest number that applies and leaves every cell.
use Prim.Native.Nat.{ℕ, ◌≤◌, ◌<◌}
use mathlib.Core.Path.{◌≡◌, refl, ◌∙◌, sym, ap, subst}
use mathlib.Core.Bool.{true, true≢false}
use mathlib.Core.List.{List, [], ◌∷◌}
use native.Mathlib.Omega.{arith}
use lib.ListN.{length, get_or}
use lib.Dec.{eqb, ltb}
use borrow.Author.Tests.{eqb-true, eqb-false, ltb-true, ltb-false}
use Rattle.lemmas.proofs.Tests.{by_test}
use Rattle.std.specs.Prelude.{Result, Ok, Err}
use Rattle.checks.specs.declared.Refusal.{Refusal}
use Rattle.checks.specs.Checks.{accepted}
use Rattle.checks.specs.Refusals.{numbers_of, rises}
use Rattle.checks.specs.Lowest.{LowestFirst}
use Rattle.checks.proofs.LowestLaws.{left_as_it_was, orderly}
use Rattle.state.specs.declared.Sizes.{Sizes}
use Rattle.layout.specs.Cells.{sizes_of}
use Rattle.range.specs.Range.{in_range}
use Rattle.catalogue.specs.Entry.{struck}
use Rattle.catalogue.specs.Fold.{pieces, start}
use Rattle.catalogue.specs.Outputs.{outputs_of}
use Rattle.catalogue.specs.Listing.{counts, taken_of, skipped_of}
use Rattle.catalogue.specs.Call.{entries_of, catalogue_checks, catalogue_of, catalogue_cells}
use Rattle.catalogue.specs.declared.Counts.{Counts}
use Rattle.catalogue.proofs.FoldLaws.{fold_length, fold_skips, fold_bounded, start_bounded}
use Rattle.catalogue.proofs.OutputLaws.{outputs_first}
use Rattle.catalogue.proofs.CallLaws.{wrong_length, out_of_range, no_server, accepts}

-- the entries of any server
module _ (z : Sizes) (room : List ℕ) (p : ℕ) where
  entries_length : length (entries_of z room p).cells ≡ pieces
  unfolding entries_of
  entries_length = fold_length start (outputs_of z room p)

  entries_bounded : (i : ℕ) → get_or (entries_of z room p).cells i 0 ≤ struck
  unfolding entries_of
  entries_bounded i = fold_bounded start (outputs_of z room p) i (start_bounded i)

  -- no more are skipped than taken
  entries_skipped : (entries_of z room p).skipped ≤ length (outputs_of z room p)
  unfolding entries_of
  entries_skipped = omega (arith, fold_skips start (outputs_of z room p))

-- the call as it was made
module _ (room : List ℕ) (server : ℕ) (out : List ℕ) where
  -- nothing applies against it, and what the counts k and n and the cells are
  pub record Accepted (k n : ℕ) : Type 0 where
    pub exact : length out ≡ pieces
    pub range : in_range room ≡ true
    pub inside : server < (sizes_of room).servers
    pub taken : k ≡ length (outputs_of (sizes_of room) room server)
    pub skipped : n ≡ (entries_of (sizes_of room) room server).skipped
    pub at_most_slots : k ≤ (sizes_of room).slots
    pub at_most_taken : n ≤ k
    pub cells : catalogue_cells room server out ≡ (entries_of (sizes_of room) room server).cells

  -- what the counts of an accepted call are
  abbrev Says : Result Counts Refusal → Type 0
  Says (Ok c) = Accepted c.taken c.skipped
  Says (Err n) = Unit {0}

  is_accepted
      : length out ≡ pieces → in_range room ≡ true → server < (sizes_of room).servers → Says (catalogue_of room server out)
  is_accepted l i h =
      let a = accepts room server out l i h in
      subst Says a.0
      (record {
        exact = l;
        range = i;
        inside = h;
        taken = refl;
        skipped = refl;
        at_most_slots = (outputs_first (sizes_of room) room server).short;
        at_most_taken = entries_skipped (sizes_of room) room server;
        cells = sym a.1;
      })

  says : Says (catalogue_of room server out)
  says =
      by_test (eqb (length out) pieces)
      (λ e.
      let l = eqb-true (length out) pieces e in
      by_test (in_range room)
      (λ i.
      by_test (ltb server (sizes_of room).servers)
      (λ h. is_accepted l i (ltb-true server (sizes_of room).servers h))
      (λ h. subst Says (no_server room server out l i (ltb-false server (sizes_of room).servers h)).0 tt))
      (λ i. subst Says (out_of_range room server out l i).0 tt))
      (λ e. subst Says (wrong_length room server out (eqb-false (length out) pieces e)).0 tt)

  is_counted : (l : Result Counts Refusal) → accepted l ≡ true → l ≡ Ok (counts (taken_of l) (skipped_of l))
  is_counted (Ok c) e = refl
  is_counted (Err n) e = absurd (true≢false (sym e))

  pub accepted_is
      : accepted (catalogue_of room server out) ≡ true
      → catalogue_of room server out ≡ Ok (counts (taken_of (catalogue_of room server out)) (skipped_of (catalogue_of room server out)))
  accepted_is = is_counted (catalogue_of room server out)

  pub accepted_says
      : accepted (catalogue_of room server out) ≡ true
      → Accepted (taken_of (catalogue_of room server out)) (skipped_of (catalogue_of room server out))
  accepted_says e = subst Says (accepted_is e) says

  -- an accepted catalogue leaves as many cells as there are pieces
  pub catalogue_length : accepted (catalogue_of room server out) ≡ true → length (catalogue_cells room server out) ≡ pieces
  catalogue_length e = ap length (accepted_says e).cells ∙ entries_length (sizes_of room) room server

  -- and none is above struck
  pub catalogue_bounded
      : accepted (catalogue_of room server out) ≡ true → (i : ℕ) → get_or (catalogue_cells room server out) i 0 ≤ struck
  catalogue_bounded e i =
      subst (λ (cells : List ℕ). get_or cells i 0 ≤ struck) (sym (accepted_says e).cells) (entries_bounded (sizes_of room) room server i)

  -- the lowest refusal that applies is given, and a refusal leaves every cell as it was
  pub catalogue_lowest_first
      : LowestFirst (catalogue_checks room server out) (2 ∷ 3 ∷ 4 ∷ []) (catalogue_of room server out) out
      (catalogue_cells room server out)
  unfolding catalogue_of catalogue_cells catalogue_checks numbers_of rises
  catalogue_lowest_first = orderly refl refl refl (left_as_it_was _ out (catalogue_of room server out))
