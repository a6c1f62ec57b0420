-- A row in which cells are stored: its length, the cells outside, and its parts; and that a record or a block is read from its
-- own cells alone.
use Prim.Native.Nat.{ℕ, suc, ◌+◌, ◌<◌, ◌≤◌}
use mathlib.Core.Path.{◌≡◌, refl, ◌∙◌, sym, ap}
use mathlib.Core.List.{List, [], ◌∷◌, ◌++◌}
use mathlib.Core.Logic.{◌⊎◌, ⊎_elim}
use native.Mathlib.Omega.{arith}
use native.Mathlib.Nat.{add-zero}
use lib.ListN.{length, get_or, set, take, drop}
use Rattle.std.proofs.lemmas.List.{get_or-take, get_or-drop, append_assoc, length-drop}
use borrow.Rule.Slice.PartMut.{put_mid}
use lib.Seq.{sets, sets-eq, length-sets, drop-drop, length-take-le, get_or-set_other}
use Rattle.state.specs.declared.Block.{Block}
use Rattle.state.specs.declared.Server.{Server}
use Rattle.layout.specs.Places.{server_length, block_length}
use Rattle.layout.specs.Cells.{put, put_from, server_in, server_cells, block_in, block_cells}

-- what is stored is the library's run of stores
from_sets : (xs r : List ℕ) (at k : ℕ) → put_from r at k xs ≡ sets r (at + k) xs
from_sets [] r at k = refl
from_sets (x ∷ xs) r at k =
    let next : at + (k + 1) ≡ suc (at + k) = omega arith in
    from_sets xs (set r (at + k) x) at (k + 1) ∙ ap (λ (j : ℕ). sets (set r (at + k) x) j xs) next

pub put_sets : (r : List ℕ) (at : ℕ) (xs : List ℕ) → put r at xs ≡ sets r at xs
put_sets r at [] = refl
put_sets r at (x ∷ xs) =
    let next : at + 1 ≡ suc at = omega arith in
    from_sets xs (set r at x) at 1 ∙ ap (λ (j : ℕ). sets (set r at x) j xs) next

sets_below : (xs r : List ℕ) (at j : ℕ) → j < at → get_or (sets r at xs) j 0 ≡ get_or r j 0
sets_below [] r at j h = refl
sets_below (x ∷ xs) r at j h = sets_below xs (set r at x) (suc at) j (omega arith) ∙ get_or-set_other r at j x 0 (omega arith)

sets_above : (xs r : List ℕ) (at j : ℕ) → at + length xs ≤ j → get_or (sets r at xs) j 0 ≡ get_or r j 0
sets_above [] r at j h = refl
sets_above (x ∷ xs) r at j h = sets_above xs (set r at x) (suc at) j (omega arith) ∙ get_or-set_other r at j x 0 (omega arith)

pub put-length : (r : List ℕ) (at : ℕ) (xs : List ℕ) → length (put r at xs) ≡ length r
put-length r at xs = ap length (put_sets r at xs) ∙ length-sets r at xs

-- a cell that is not stored is as it was
pub put_outside : (r : List ℕ) (at : ℕ) (xs : List ℕ) (j : ℕ) → (j < at) ⊎ (at + length xs ≤ j) → get_or (put r at xs) j 0 ≡ get_or r j 0
put_outside r at xs j h =
    ap (λ (l : List ℕ). get_or l j 0) (put_sets r at xs) ∙ ⊎_elim (sets_below xs r at j) (sets_above xs r at j) h

-- the cells from a place on, each of which is that of a record or a block
pub server_read
    : (r : List ℕ) (at : ℕ) (v : Server) → ((i : ℕ) → i < server_length → get_or r (at + i) 0 ≡ get_or (server_cells v) i 0)
    → server_in r at ≡ v
server_read r at v each =
    let f = ap (λ (j : ℕ). get_or r j 0) (sym (add-zero at)) ∙ each 0 (omega arith) in
    let a = each 1 (omega arith) in
    let b = each 2 (omega arith) in
    let c = each 3 (omega arith) in
    let d = each 4 (omega arith) in
    let e = each 5 (omega arith) in
    let g = each 6 (omega arith) in
    let k = each 7 (omega arith) in
    let l = each 8 (omega arith) in
    let m = each 9 (omega arith) in
    let n = each 10 (omega arith) in
    λ i.
    record {
      phase = f i;
      mbal = a i;
      bal = b i;
      inp = c i;
      offer = d i;
      top = e i;
      seenbal = g i;
      seeninp = k i;
      written = l i;
      read = m i;
      agreed = n i;
    }

pub Block-read
    : (r : List ℕ) (at : ℕ) (b : Block) → ((i : ℕ) → i < block_length → get_or r (at + i) 0 ≡ get_or (block_cells b) i 0)
    → block_in r at ≡ b
Block-read r at b each =
    let f = ap (λ (j : ℕ). get_or r j 0) (sym (add-zero at)) ∙ each 0 (omega arith) in
    let a = each 1 (omega arith) in
    let c = each 2 (omega arith) in
    let d = each 3 (omega arith) in
    λ i. record { mbal = f i; bal = a i; inp = c i; done = d i }

-- a record or a block is read from its own cells alone
part_cell : (r : List ℕ) (at n i j : ℕ) → i < n → at + i ≡ j → get_or (take n (drop at r)) i 0 ≡ get_or r j 0
part_cell r at n i j h e = get_or-take n (drop at r) i 0 h ∙ get_or-drop at r i 0 ∙ ap (λ (k : ℕ). get_or r k 0) e

pub server_moved : (r : List ℕ) (at : ℕ) → server_in (take server_length (drop at r)) 0 ≡ server_in r at
server_moved r at =
    let cell : (i j : ℕ) → i < server_length → at + i ≡ j → get_or (take server_length (drop at r)) i 0 ≡ get_or r j 0 = part_cell r at server_length in
    let c0 = cell 0 at (omega arith) (omega arith) in
    let c1 = cell 1 (at + 1) (omega arith) (omega arith) in
    let c2 = cell 2 (at + 2) (omega arith) (omega arith) in
    let c3 = cell 3 (at + 3) (omega arith) (omega arith) in
    let c4 = cell 4 (at + 4) (omega arith) (omega arith) in
    let c5 = cell 5 (at + 5) (omega arith) (omega arith) in
    let c6 = cell 6 (at + 6) (omega arith) (omega arith) in
    let c7 = cell 7 (at + 7) (omega arith) (omega arith) in
    let c8 = cell 8 (at + 8) (omega arith) (omega arith) in
    let c9 = cell 9 (at + 9) (omega arith) (omega arith) in
    let c10 = cell 10 (at + 10) (omega arith) (omega arith) in
    λ i. record { phase = c0 i; mbal = c1 i; bal = c2 i; inp = c3 i; offer = c4 i; top = c5 i; seenbal = c6 i; seeninp = c7 i; written = c8 i; read = c9 i; agreed = c10 i }

pub block_moved : (r : List ℕ) (at : ℕ) → block_in (take block_length (drop at r)) 0 ≡ block_in r at
block_moved r at =
    let cell : (i j : ℕ) → i < block_length → at + i ≡ j → get_or (take block_length (drop at r)) i 0 ≡ get_or r j 0 = part_cell r at block_length in
    let c0 = cell 0 at (omega arith) (omega arith) in
    let c1 = cell 1 (at + 1) (omega arith) (omega arith) in
    let c2 = cell 2 (at + 2) (omega arith) (omega arith) in
    let c3 = cell 3 (at + 3) (omega arith) (omega arith) in
    λ i. record { mbal = c0 i; bal = c1 i; inp = c2 i; done = c3 i }

-- a row in which some cells are stored is what stood before them, they, and what stood behind
pub put_parts
    : (r : List ℕ) (at : ℕ) (xs : List ℕ) → at + length xs ≤ length r
    → put r at xs ≡ take at r ++ (xs ++ drop (at + length xs) r)
put_parts r at xs h = put_sets r at xs ∙ sets-eq xs r at h ∙ append_assoc (take at r) xs (drop (at + length xs) r)

-- the cells that are copied into their part of a row at once are stored one by one
pub put_at_once
    : (r : List ℕ) (at k : ℕ) (ys xs : List ℕ) → ys ≡ xs → length ys ≡ length (take k (drop at r)) → at + k ≤ length r
    → put_mid at k r ys ≡ put r at xs
put_at_once r at k ys xs e n h =
    let whole : length xs ≡ k =
    ap length (sym e) ∙ n ∙ length-take-le k (drop at r) (omega (arith, length-drop at r)) in
    let after : at + k ≡ at + length xs = omega arith in
    ap (λ (zs : List ℕ). take at r ++ (zs ++ drop k (drop at r))) e
    ∙ ap (λ (zs : List ℕ). take at r ++ (xs ++ zs)) (drop-drop k at r ∙ ap (λ (j : ℕ). drop j r) after)
    ∙ sym (put_parts r at xs (omega arith))
