-- `range::fours::all_at_once` meets its contract: what is gathered with no branch is a test of each block.
use Prim.Native.Nat.{ℕ}
use mathlib.Core.Path.{◌∙◌}
use mathlib.Core.Bool.{Bool, true, ◌&&◌}
use mathlib.Core.List.{List}
use Rattle.std.proofs.Common.{rules}
use Rattle.std.proofs.lemmas.Iterator.{YieldsList-from_slice}
use Rattle.std.proofs.lemmas.Iterator.Consumers.{fold_from_yields_List}
use Rattle.layout.specs.Cells.{block_in}
use Rattle.range.proofs.Chunks.{fold_all}
use Rattle.range.proofs.fours.all_at_once.Goals as goal

pub returns : goal.returns
returns g c = λ p h.
    let test : List ℕ → Bool = λ cells. p (block_in cells 0) in
    fold_from_yields_List _ (λ (all : Bool) (cells : List ℕ). all && test cells) true _ c.fold.ensures.ran
    (YieldsList-from_slice c.args.four.now c.iter.ensures.rest) (λ a x b q k. search (rules, h))
    ∙ fold_all test true c.args.four.now
