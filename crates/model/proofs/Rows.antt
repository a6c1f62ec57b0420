-- What a row is read as has the shape of a room; where the row is in range, so is the room.
use Prim.Native.Nat.{ℕ}
use mathlib.Core.Path.{refl, ◌∙◌, sym, ap, subst}
use mathlib.Core.Bool.{Bool}
use mathlib.Core.List.{List, []}
use native.Mathlib.Omega.{arith}
use lib.ListN.{length, drop, length-drop}
use lib.Seq.{length-take-le}
use Rattle.command.specs.Command.{cabinets}
use Rattle.state.specs.declared.Block.{Block}
use Rattle.state.specs.declared.Sizes.{Sizes}
use Rattle.layout.specs.Places.{Row}
use Rattle.layout.specs.Cells.{sizes_of, limits_of, limits_at, server_of, block_of}
use Rattle.layout.proofs.PlaceLaws.{row_head}
use Rattle.layout.proofs.RoomLaws.{row_says}
use Rattle.range.specs.Range.{masks_of}
use Rattle.range.proofs.Laws.{InRange, block_fits_lem}
use Rattle.range.proofs.RecordLaws.{ServerIn, BlockIn, server_says, block_says}
use Rattle.model.specs.Encoding.{table, slot_by, room_by, room_of}
use Rattle.model.specs.Promise.{RowAgain, RowShaped}
use Rattle.model.proofs.Encodes.{cells_again}
use Rattle.model.proofs.Shapes.{SlotShape, Shape, RoomIn, of_shape}
use Rattle.model.proofs.Tables.{table_at, table_length}
use Rattle.model.proofs.Views.{slot_there, own_read, disk_read}

module _ (z : Sizes) (cells : List ℕ) where
  read_shape : (s : ℕ) → SlotShape z (slot_by z cells s)
  read_shape s =
      record {
        servers = table_length z.servers (server_of z cells s);
        drives = table_length z.drives (λ d. table z.servers (block_of z cells s d));
        rows =
            λ d h.
            ap (length {A = Block}) (table_at z.drives (λ d. table z.servers (block_of z cells s d)) [] d h)
            ∙ table_length z.servers (block_of z cells s d);
      }

  pub row_shape : Row z cells → Shape (room_by z cells)
  unfolding room_by
  row_shape row =
      record {
        fit = row.fit;
        eight = let h = row_head z cells row in length-take-le cabinets (drop limits_at cells) (omega (arith, length-drop limits_at cells));
        long = table_length z.slots (slot_by z cells);
        slots = λ s h. subst (SlotShape z) (sym (slot_there z cells s h)) (read_shape s);
      }

  pub row_holds : (value : ℕ → Bool) → InRange (limits_of cells) value z cells → RoomIn value (room_by z cells)
  unfolding room_by
  row_holds value i =
      record {
        hoards = i.hoards;
        off = i.off;
        slots =
            λ s h.
            record {
              records = λ p l. subst (ServerIn value (masks_of z)) (sym (own_read z cells s p h l)) (server_says value (masks_of z) _ (i.servers s p h l));
              blocks = λ d p k l. subst (BlockIn value) (sym (disk_read z cells s d p h k l)) (block_says value _ (block_fits_lem (limits_of cells) value z cells i s d p h k l));
            };
      }

pub row_again : RowAgain
row_again cells e = cells_again (sizes_of cells) cells (row_says cells e) refl

pub row_shaped : RowShaped
row_shaped cells e = of_shape (room_of cells) (row_shape (sizes_of cells) cells (row_says cells e))
