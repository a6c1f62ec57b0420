-- `range::fours::each` meets its contract: each block is tested.
use Prim.Native.Nat.{ℕ}
use mathlib.Core.List.{List}
use Rattle.std.proofs.Common.{rules}
use Rattle.std.proofs.lemmas.Iterator.{YieldsList-from_slice}
use Rattle.std.proofs.lemmas.Iterator.Search.{all_from_yields_List}
use Rattle.layout.specs.Cells.{block_in}
use Rattle.range.proofs.fours.each.Goals as goal

pub returns : goal.returns
returns g c = λ p h.
    all_from_yields_List (λ (cells : List ℕ). p (block_in cells 0)) _ _ _ c.all.ensures.ran
    (YieldsList-from_slice c.args.blocks.now c.iter.ensures.rest) (λ x b q k. search (rules, h))
