-- The cells of the room that a row is are the row.
use Prim.Native.Nat.{ℕ, ◌+◌, ◌*◌, ◌<◌, ◌≤◌}
use mathlib.Core.Path.{◌≡◌, refl, ◌∙◌, sym, ap, ap₂}
use mathlib.Core.List.{List, ◌∷◌, ◌++◌}
use native.Mathlib.Omega.{arith}
use native.Mathlib.Nat.{add-zero}
use lib.ListN.{length, get_or, take}
use lib.Seq.{take-length}
use Rattle.std.specs.List.{flat_map}
use Rattle.command.specs.Command.{cabinets}
use Rattle.state.specs.declared.Sizes.{Sizes}
use Rattle.layout.specs.Places.{base, server_length, block_length, slot_length, room_length, slot_at, server_at, nth_block_at, block_at, Row}
use Rattle.layout.specs.Cells.{sizes_of, off_of, limits_of, limits_at, server_in, server_cells, server_of, block_in, block_cells, block_of}
use Rattle.layout.proofs.PlaceLaws.{row_head, server_within, block_within}
use Rattle.model.specs.Encoding.{table, slot_by, slot_cells, cells_of, room_by}
use Rattle.model.proofs.Tables.{part, one_by_one, part_more, table_cells}

-- a record and a block are their parts of the row
server_part : (cells : List ℕ) (at : ℕ) → at + server_length ≤ length cells → server_cells (server_in cells at) ≡ part cells at server_length
server_part cells at h =
    ap (λ (j : ℕ). server_cells (record (server_in cells at) { phase = get_or cells j 0 })) (sym (add-zero at))
    ∙ sym (one_by_one cells server_length 0 at (omega arith))
    ∙ ap (λ (j : ℕ). part cells j server_length) (add-zero at)

block_part : (cells : List ℕ) (at : ℕ) → at + block_length ≤ length cells → block_cells (block_in cells at) ≡ part cells at block_length
block_part cells at h =
    ap (λ (j : ℕ). block_cells (record (block_in cells at) { mbal = get_or cells j 0 })) (sym (add-zero at))
    ∙ sym (one_by_one cells block_length 0 at (omega arith))
    ∙ ap (λ (j : ℕ). part cells j block_length) (add-zero at)

module _ (z : Sizes) (cells : List ℕ) (row : Row z cells) where
  -- a slot is its part
  slot_part : (s : ℕ) → s < z.slots → slot_cells (slot_by z cells s) ≡ part cells (slot_at z s) (slot_length z)
  unfolding server_of block_of server_at block_at nth_block_at slot_length
  slot_part s h =
      let records : flat_map server_cells (table z.servers (server_of z cells s)) ≡ part cells (slot_at z s) (z.servers * server_length)
      = table_cells cells server_cells (server_of z cells s) server_length (server_at z s) (λ i. omega arith) z.servers
      (λ p l. server_part cells (server_at z s p) (let e = row.exact in omega (arith, server_within z row.fit s p h l)))
      ∙ ap (λ (k : ℕ). part cells k (z.servers * server_length)) (omega arith) in
      let drive : (d : ℕ) → d < z.drives
      → flat_map block_cells (table z.servers (block_of z cells s d)) ≡ part cells (block_at z s d 0) (z.servers * block_length)
      = λ d l. table_cells cells block_cells (block_of z cells s d) block_length (block_at z s d) (λ i. omega arith) z.servers
      (λ p m. block_part cells (block_at z s d p) (let e = row.exact in omega (arith, block_within z row.fit s d p h l m))) in
      ap₂ (λ (x y : List ℕ). x ++ y) records
      (table_cells cells (flat_map block_cells) (λ d. table z.servers (block_of z cells s d)) (z.servers * block_length) (λ d. block_at z s d 0)
      (λ d. omega arith) z.drives drive)
      ∙ part_more cells (slot_at z s) (z.servers * server_length) (z.drives * (z.servers * block_length)) (block_at z s 0 0) (omega arith)
      ∙ ap (part cells (slot_at z s)) (omega arith)

  slots_part : flat_map slot_cells (table z.slots (slot_by z cells)) ≡ part cells base (z.slots * slot_length z)
  unfolding slot_at
  slots_part =
      let first : base + 0 * slot_length z ≡ base = omega arith in
      table_cells cells slot_cells (slot_by z cells) (slot_length z) (slot_at z) (λ s. omega arith) z.slots slot_part
      ∙ ap (λ (k : ℕ). part cells k (z.slots * slot_length z)) first

  -- the row again
  pub cells_again : z ≡ sizes_of cells → cells_of (room_by z cells) ≡ cells
  unfolding cells_of room_by room_length
  cells_again e =
      let rest = z.slots * slot_length z in
      let whole : 4 + (cabinets + rest) ≡ length cells = let x = row.exact in omega arith in
      ap (λ (y : Sizes). y.servers ∷ y.drives ∷ y.slots ∷ off_of cells ∷ (limits_of cells ++ flat_map slot_cells (table z.slots (slot_by z cells)))) e
      ∙ ap₂ (λ (x y : List ℕ). x ++ (limits_of cells ++ y)) (sym (one_by_one cells 4 0 0 (omega (arith, row_head z cells row)))) slots_part
      ∙ ap (λ (x : List ℕ). part cells 0 4 ++ x) (part_more cells limits_at cabinets rest base refl)
      ∙ part_more cells 0 4 (cabinets + rest) 4 refl
      ∙ ap (λ (n : ℕ). take n cells) whole
      ∙ take-length cells
