-- What storing an effect needs: its places are in the room. Every effect that is judged has it.
use Rattle.std.specs.Prelude.{ℕ, ◌<◌, List}
use Rattle.state.specs.declared.Sizes.{Sizes}
use Rattle.layout.specs.Places.{Row}
use Rattle.layout.specs.Cells.{sizes_of}
use Rattle.room.specs.declared.effect.Effect.{Effect}
use Rattle.room.specs.declared.effect.Effect.TheVariants as effect

pub record InSlot (z : Sizes) (cells : List ℕ) (s p : ℕ) : Type 0 where
  pub row : Row z cells
  pub slot : s < z.slots
  pub server : p < z.servers

abbrev pub ReadyAt : Sizes → List ℕ → Effect → Type 0
ReadyAt z cells (effect.Record s p v a) = InSlot z cells s p
ReadyAt z cells (effect.Block s d p v) = InSlot z cells s p × (d < z.drives)
ReadyAt z cells (effect.Failure p) = Row z cells × (p < z.servers)
ReadyAt z cells (effect.Off marks) = Row z cells

abbrev pub Ready : List ℕ → Effect → Type 0
Ready cells e = ReadyAt (sizes_of cells) cells e
