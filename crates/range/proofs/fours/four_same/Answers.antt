-- `range::fours::four_same` meets its contract: each of the four is compared with its own.
use Prim.Native.Nat.{ℕ}
use mathlib.Core.Path.{◌∙◌}
use mathlib.Core.Bool.{Bool, true, ◌&&◌}
use mathlib.Core.List.{List}
use Rattle.std.proofs.Common.{rules}
use Rattle.std.specs.List.{zip}
use Rattle.std.proofs.lemmas.Iterator.{YieldsList-from_slice, YieldsList-from_zip}
use Rattle.std.proofs.lemmas.Iterator.Consumers.{fold_from_yields_List}
use Rattle.state.specs.Block.{same_block}
use Rattle.layout.specs.Cells.{block_in}
use Rattle.range.proofs.Chunks.{fold_all}
use Rattle.range.proofs.fours.four_same.Goals as goal

pub returns : goal.returns
returns c =
    let a = c.args.a.now in
    let b = c.args.b.now in
    let test : List ℕ × List ℕ → Bool = λ p. same_block (block_in p.0 0) (block_in p.1 0) in
    let judged = fold_from_yields_List _ (λ (all : Bool) (p : List ℕ × List ℕ). all && test p) true _ c.fold.ensures.ran
    (YieldsList-from_zip (YieldsList-from_slice a (cc)) (YieldsList-from_slice b (cc)))
    (λ s x r q k. search rules) in
    judged ∙ fold_all test true (zip a b)
