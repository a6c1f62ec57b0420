-- Laws of the fold: over an append, and what it keeps of the cells and of the count.
use Prim.Native.Nat.{ℕ, zero, suc, ◌+◌, ◌≤◌}
use mathlib.Core.Path.{◌≡◌, refl, ◌∙◌}
use mathlib.Core.Bool.{Bool, true, false, cond}
use mathlib.Core.List.{List, [], ◌∷◌, ◌++◌}
use native.Mathlib.Omega.{arith}
use lib.ListN.{length, get_or, set, length-set, replicate}
use lib.Dec.{eqb}
use Rattle.command.specs.Command.{kind_of, piece_of, hoard_of, strike}
use Rattle.catalogue.specs.Entry.{struck, skips, changed, entry}
use Rattle.catalogue.specs.Fold.{pieces, Entries, cell_of, cells_after, skipped_by, applied, folded, start}

-- what is picked from two bounded numbers is bounded
pick_small : (b : Bool) (x y m : ℕ) → x ≤ m → y ≤ m → cond b x y ≤ m
pick_small true x y m h k = h
pick_small false x y m h k = k

-- the fold over an append is the fold of the folds
pub fold_append : (e : Entries) (xs ys : List ℕ) → folded e (xs ++ ys) ≡ folded (folded e xs) ys
unfolding folded
fold_append e [] ys = refl
fold_append e (x ∷ xs) ys = fold_append (applied e x) xs ys

pub after-length : (cells : List ℕ) (v : ℕ) → length (cells_after cells v) ≡ length cells
unfolding cells_after
after-length cells v = simp length-set

-- no command changes how many cells there are
pub fold_length : (e : Entries) (vs : List ℕ) → length (folded e vs).cells ≡ length e.cells
unfolding folded
fold_length e [] = refl
fold_length e (v ∷ vs) = fold_length (applied e v) vs ∙ after-length e.cells v

pub skipped_small : (cells : List ℕ) (v : ℕ) → skipped_by cells v ≤ 1
unfolding skipped_by
skipped_small cells v = pick_small (skips (kind_of v) (cell_of cells v)) 1 0 1 (omega arith) (omega arith)

-- at most every command is skipped
pub fold_skips : (e : Entries) (vs : List ℕ) → (folded e vs).skipped ≤ e.skipped + length vs
unfolding folded
fold_skips e [] = omega arith
fold_skips e (v ∷ vs) = omega (arith, fold_skips (applied e v) vs, skipped_small e.cells v)

-- a cell is as it was, struck or a hoard
entry_bounded : (kind hoard cell : ℕ) → hoard ≤ struck → cell ≤ struck → entry kind hoard cell ≤ struck
unfolding entry
entry_bounded kind hoard cell h k =
    pick_small (skips kind cell) cell (changed kind hoard) struck k
    (pick_small (eqb kind strike) struck hoard struck (omega arith) h)

-- what holds of a cell holds after a change of one cell that keeps it
set_keeps : (P : ℕ → Type 0) (l : List ℕ) (i a j : ℕ) → (P (get_or l i 0) → P a) → P (get_or l j 0) → P (get_or (set l i a) j 0)
set_keeps P [] i a j f k = k
set_keeps P (x ∷ l) zero a zero f k = f k
set_keeps P (x ∷ l) zero a (suc j) f k = k
set_keeps P (x ∷ l) (suc i) a zero f k = k
set_keeps P (x ∷ l) (suc i) a (suc j) f k = set_keeps P l i a j f k

-- what every command keeps of a cell, a list of commands keeps of each cell
pub fold_keeps
    : (P : ℕ → Type 0) → ((v cell : ℕ) → P cell → P (entry (kind_of v) (hoard_of v) cell))
    → (e : Entries) (vs : List ℕ) (i : ℕ) → P (get_or e.cells i 0) → P (get_or (folded e vs).cells i 0)
unfolding folded cells_after
fold_keeps P f e [] i h = h
fold_keeps P f e (v ∷ vs) i h =
    let cell = cell_of e.cells v in
    fold_keeps P f (applied e v) vs i
    (set_keeps P e.cells (piece_of v) (entry (kind_of v) (hoard_of v) cell) i (f v cell) h)

-- every cell stays at most struck, whatever the commands
pub fold_bounded
    : (e : Entries) (vs : List ℕ) (i : ℕ) → get_or e.cells i 0 ≤ struck → get_or (folded e vs).cells i 0 ≤ struck
fold_bounded =
    fold_keeps (λ (cell : ℕ). cell ≤ struck)
    (λ v cell h. entry_bounded (kind_of v) (hoard_of v) cell (omega arith) h)

-- as many times v is bounded as v is
same_bounded : (n v m i : ℕ) → v ≤ m → get_or (replicate n v) i 0 ≤ m
same_bounded zero v m i h = omega arith
same_bounded (suc n) v m zero h = h
same_bounded (suc n) v m (suc i) h = same_bounded n v m i h

pub start_bounded : (i : ℕ) → get_or start.cells i 0 ≤ struck
start_bounded i = same_bounded pieces _ struck i (omega arith)
