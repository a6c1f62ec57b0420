-- Struck numbers stay struck (SPEC, "The catalogue"): what a strike does to an entered piece, what any command does to a
-- struck one, and that no list of commands brings it back.
use Prim.Native.Nat.{ℕ}
use mathlib.Core.Path.{◌≡◌, refl, ◌∙◌, ap, ap₂}
use mathlib.Core.Bool.{Bool, true, false, not, ◌||◌, cond}
use mathlib.Core.List.{List}
use lib.ListN.{get_or, set}
use lib.Seq.{set-get_or}
use lib.Dec.{eqb}
use Rattle.lemmas.proofs.Tests.{none_right}
use Rattle.command.specs.Command.{enter, move, strike, kind_of, piece_of, hoard_of}
use Rattle.catalogue.specs.Entry.{struck, entered, applies, changed, entry}
use Rattle.catalogue.specs.Fold.{Entries, cell_of, cells_after, skipped_by, folded}
use Rattle.catalogue.proofs.FoldLaws.{fold_keeps}

-- no command does anything to a struck cell
never_applies : (kind : ℕ) → applies kind struck ≡ false
unfolding applies
never_applies kind =
    ap₂ ◌||◌
    (none_right (eqb kind enter) (eqb struck 0) refl)
    (none_right (eqb kind move || eqb kind strike) (entered struck) refl)

struck_entry : (kind hoard : ℕ) → entry kind hoard struck ≡ struck
unfolding entry
struck_entry kind hoard = ap (λ (b : Bool). cond (not b) struck (changed kind hoard)) (never_applies kind)

module _ (cells : List ℕ) (v : ℕ) where
  -- a strike of an entered piece makes its cell struck, and is not skipped
  pub strike_strikes
      : kind_of v ≡ strike → entered (cell_of cells v) ≡ true
      → (cells_after cells v ≡ set cells (piece_of v) struck) × (skipped_by cells v ≡ 0)
  unfolding applies entry cells_after skipped_by
  strike_strikes k e = (simp (k, e), simp (k, e))

  -- any command on a struck piece changes no cell, and is counted as skipped
  pub struck_skipped : cell_of cells v ≡ struck → (cells_after cells v ≡ cells) × (skipped_by cells v ≡ 1)
  unfolding entry cells_after skipped_by
  struck_skipped e =
      let n = ap (applies (kind_of v)) e ∙ never_applies (kind_of v) in
      (simp (n, set-get_or), simp n)

-- what is struck stays struck, whatever commands follow
pub struck_stays
    : (e : Entries) (vs : List ℕ) (i : ℕ) → get_or e.cells i 0 ≡ struck → get_or (folded e vs).cells i 0 ≡ struck
struck_stays =
    fold_keeps (λ (cell : ℕ). cell ≡ struck)
    (λ v cell e. ap (entry (kind_of v) (hoard_of v)) e ∙ struck_entry (kind_of v) (hoard_of v))
