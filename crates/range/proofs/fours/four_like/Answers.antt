-- `range::fours::four_like` meets its contract: four blocks like four that are in range are, too.
use mathlib.Core.Path.{◌∙◌, sym}
use native.Mathlib.Omega.{arith}
use Rattle.command.specs.Tops.{value_by}
use Rattle.range.specs.Range.{block_fits}
use Rattle.range.proofs.Chunks.{same_pairs, like_four}
use Rattle.range.proofs.fours.four_like.Goals as goal

pub returns-then-four_same : goal.returns-then-four_same
returns-then-four_same c =
    c.if-four_same.true
    ∙ sym
    (like_four (block_fits (value_by c.args.tops.now.0)) c.args.judged.now c.args.four.now
    (same_pairs c.args.judged.now c.args.four.now (omega (arith, c.told-judged, c.told-four)) (sym c.four_same.ensures ∙ c.if-four_same.true))
    c.requires)
