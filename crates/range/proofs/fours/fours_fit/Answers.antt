-- `range::fours::fours_fit` meets its contract: blank blocks are in range, and the others are judged one way or the other.
use mathlib.Core.Path.{◌≡◌, refl, ◌∙◌, sym, subst}
use mathlib.Core.Bool.{true}
use Rattle.lemmas.proofs.Tests.{and_intro}
use Rattle.command.specs.Tops.{value_by}
use Rattle.state.specs.declared.Block.{Block}
use Rattle.state.specs.Block.{blank, same_block}
use Rattle.layout.specs.Cells.{block_in}
use Rattle.range.specs.Range.{block_fits, every_block}
use Rattle.range.proofs.Together.{zero_by, same_block_lem}
use Rattle.range.proofs.Chunks.{list_all_then}
use Rattle.range.proofs.fours.fours_fit.Goals as goal

pub returns-then-all_blank : goal.returns-then-all_blank
unfolding block_fits
returns-then-all_blank c =
    let tops = c.args.tops.now.0 in
    let one = λ (b : Block) (h : same_block blank b ≡ true).
    subst (λ (x : Block). block_fits (value_by tops) x ≡ true) (same_block_lem blank b h)
    (and_intro _ _ refl (and_intro _ _ (zero_by tops) (zero_by tops))) in
    sym
    (list_all_then (every_block (same_block blank)) (every_block (block_fits (value_by tops)))
    (list_all_then (λ cells. same_block blank (block_in cells 0)) (λ cells. block_fits (value_by tops) (block_in cells 0)) (λ cells. one (block_in cells 0)))
    c.args.fours.now (sym c.all_blank.ensures ∙ c.if-all_blank.true))
