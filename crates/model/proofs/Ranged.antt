-- A row is a room exactly where it is in range: what the range rule says of the row is what is said of the room, whatever the
-- test of a value.
use Prim.Native.Nat.{ℕ}
use mathlib.Core.Path.{◌≡◌, refl, ◌∙◌, sym, ap, ap₂}
use mathlib.Core.Bool.{Bool, true, false, ◌&&◌, cond}
use mathlib.Core.List.{List}
use Rattle.std.specs.Prelude.{is_some, Some, None}
use Rattle.std.specs.List.{list_all}
use Rattle.command.specs.Command.{limits_fit}
use Rattle.quorum.specs.Sets.{within}
use Rattle.state.specs.declared.Sizes.{Sizes}
use Rattle.layout.specs.Places.{nth_block_at, block_at}
use Rattle.layout.specs.Cells.{sizes_of, is_row, off_of, limits_of, server_of, block_of, block_in}
use Rattle.range.specs.Range.{legal_drives, masks_of, value_fits, server_fits, block_fits, servers_fit, blocks_fit, slot_fits, room_fits_by, room_fits, in_range}
use Rattle.range.proofs.Chunks.{all_below_same}
use Rattle.model.specs.Fits.{slot_fits_by, fits_by}
use Rattle.model.specs.Encoding.{table, slot_by, room_by, room_of, is_room, room_in}
use Rattle.model.specs.Promise.{RoomWhereInRange}
use Rattle.model.proofs.Tables.{table_all, all_rows}

module _ (value : ℕ → Bool) (z : Sizes) (cells : List ℕ) where
  blocks_ranged : (s : ℕ) → list_all (list_all (block_fits value)) (table z.drives (λ d. table z.servers (block_of z cells s d))) ≡ blocks_fit value z cells s
  unfolding blocks_fit block_of block_at
  blocks_ranged s =
      table_all z.drives (λ d. table z.servers (block_of z cells s d)) (list_all (block_fits value))
      ∙ all_below_same z.drives _ _ (λ d h. table_all z.servers (block_of z cells s d) (block_fits value))
      ∙ sym (all_rows z.drives z.servers (λ j. block_fits value (block_in cells (nth_block_at z s j))))

  slot_ranged : (s : ℕ) → slot_fits_by value z (slot_by z cells s) ≡ slot_fits value z cells s
  unfolding slot_fits servers_fit
  slot_ranged s = ap₂ ◌&&◌ (table_all z.servers (server_of z cells s) (server_fits value (masks_of z))) (blocks_ranged s)

  pub fits_ranged : fits_by value (room_by z cells) ≡ room_fits_by value (limits_of cells) z cells
  unfolding fits_by room_by
  fits_ranged =
      ap (λ (t : Bool). limits_fit (limits_of cells) && (within (off_of cells) (legal_drives z) && t))
      (table_all z.slots (slot_by z cells) (slot_fits_by value z)
      ∙ all_below_same z.slots _ _ (λ s h. slot_ranged s))

pub ranged : (cells : List ℕ) → is_room cells ≡ in_range cells
unfolding in_range room_fits room_by
ranged cells = ap (λ (t : Bool). is_row cells && t) (fits_ranged (value_fits (limits_of cells)) (sizes_of cells) cells)

some_where : {A : Type 0} (b : Bool) (a : A) → is_some (cond b (Some a) None) ≡ b
some_where true a = refl
some_where false a = refl

pub room_where_in_range : RoomWhereInRange
unfolding room_in
room_where_in_range cells = some_where _ (room_of cells) ∙ ranged cells
