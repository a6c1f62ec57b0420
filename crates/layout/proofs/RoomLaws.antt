-- A row after a record, a block or the off marks are stored is a row of the same sizes.
use Prim.Native.Nat.{ℕ, ◌+◌, ◌*◌, ◌<◌, ◌≤◌}
use mathlib.Core.Path.{◌≡◌, ◌∙◌}
use mathlib.Core.Bool.{true, ◌&&◌}
use mathlib.Core.List.{List}
use mathlib.Core.Logic.{inl}
use native.Mathlib.Omega.{arith}
use lib.Dec.{eqb, leb}
use lib.ListN.{length, get_or, set, length-set}
use lib.Seq.{get_or-set_other}
use borrow.Author.Tests.{le-leb, eqb-true, eq-eqb}
use Rattle.lemmas.proofs.Tests.{and_left, and_right}
use Rattle.state.specs.declared.Block.{Block}
use Rattle.state.specs.declared.Server.{Server}
use Rattle.state.specs.declared.Sizes.{Sizes}
use Rattle.layout.specs.Places.{base, room_length, server_at, nth_block_at, block_at, sizes_fit, Row}
use Rattle.layout.specs.Cells.{put, sizes_of, is_row, off_at, server_cells, block_cells, put_server, put_block}
use Rattle.layout.proofs.PlaceLaws.{fit_of, of_fit, row_head, base_server, base_nth}
use Rattle.layout.proofs.CellLaws.{put-length, put_outside}

-- the test of a row and its facts say the same
pub row_says : (r : List ℕ) → is_row r ≡ true → Row (sizes_of r) r
unfolding is_row
row_says r e =
    let z = sizes_of r in
    let head = leb base (length r) in
    let exact = eqb (length r) (room_length z) in
    let front = and_left (head && sizes_fit z) exact e in
    record {
      fit = fit_of z (and_right head (sizes_fit z) front);
      exact = eqb-true (length r) (room_length z) (and_right (head && sizes_fit z) exact e);
    }

pub says_row : (r : List ℕ) → Row (sizes_of r) r → is_row r ≡ true
unfolding is_row
says_row r row =
    simp (
      le-leb base (length r) (row_head (sizes_of r) r row),
      of_fit (sizes_of r) row.fit,
      eq-eqb (length r) (room_length (sizes_of r)) row.exact,
    )

-- the sizes of a row are in the cells before its first slot
pub head_same : (r t : List ℕ) → ((i : ℕ) → i < base → get_or r i 0 ≡ get_or t i 0) → sizes_of r ≡ sizes_of t
head_same r t h =
    let a = h 0 (omega arith) in
    let b = h 1 (omega arith) in
    let c = h 2 (omega arith) in
    λ i. record { servers = a i; drives = b i; slots = c i }

put_head : (r : List ℕ) (at : ℕ) (xs : List ℕ) → base ≤ at → (i : ℕ) → i < base → get_or (put r at xs) i 0 ≡ get_or r i 0
put_head r at xs h i l = put_outside r at xs i (inl (omega arith))

module _ (z : Sizes) (r : List ℕ) (row : Row z r) where
  module _ (s p : ℕ) (v : Server) where
    pub server_length_lem : length (put_server z r s p v) ≡ length r
    unfolding put_server
    server_length_lem = put-length r (server_at z s p) (server_cells v)

    pub server_row : Row z (put_server z r s p v)
    server_row = record { fit = row.fit; exact = server_length_lem ∙ row.exact }

    pub server_head : (i : ℕ) → i < base → get_or (put_server z r s p v) i 0 ≡ get_or r i 0
    unfolding put_server
    server_head = put_head r (server_at z s p) (server_cells v) (base_server z row.fit s p)

    pub server_sizes : sizes_of (put_server z r s p v) ≡ sizes_of r
    server_sizes = head_same (put_server z r s p v) r server_head

  module _ (s d p : ℕ) (b : Block) where
    pub block_length_lem : length (put_block z r s d p b) ≡ length r
    unfolding put_block
    block_length_lem = put-length r (block_at z s d p) (block_cells b)

    pub block_row : Row z (put_block z r s d p b)
    block_row = record { fit = row.fit; exact = block_length_lem ∙ row.exact }

    pub block_head : (i : ℕ) → i < base → get_or (put_block z r s d p b) i 0 ≡ get_or r i 0
    unfolding put_block block_at
    block_head = put_head r (nth_block_at z s (d * z.servers + p)) (block_cells b) (base_nth z row.fit s (d * z.servers + p))

    pub block_sizes : sizes_of (put_block z r s d p b) ≡ sizes_of r
    block_sizes = head_same (put_block z r s d p b) r block_head

  module _ (m : ℕ) where
    pub off_row : Row z (set r off_at m)
    off_row = record { fit = row.fit; exact = length-set r off_at m ∙ row.exact }

    pub off_sizes : sizes_of (set r off_at m) ≡ sizes_of r
    off_sizes =
        let a = get_or-set_other r off_at 0 m 0 (omega arith) in
        let b = get_or-set_other r off_at 1 m 0 (omega arith) in
        let c = get_or-set_other r off_at 2 m 0 (omega arith) in
        λ i. record { servers = a i; drives = b i; slots = c i }
