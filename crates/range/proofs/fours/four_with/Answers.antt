-- `range::fours::four_with` meets its contract: the ballots, then the values, which need no look where they are 0 or v.
use mathlib.Core.Path.{◌≡◌, ◌∙◌, sym}
use mathlib.Core.Bool.{Bool, ◌&&◌}
use mathlib.Core.List.{List}
use Prim.Native.Nat.{ℕ}
use Rattle.std.proofs.Common.{rules}
use Rattle.lemmas.proofs.Tests.{none_left, and_intro, goes_on}
use Rattle.command.specs.Tops.{value_by}
use Rattle.layout.specs.Cells.{block_in}
use Rattle.range.specs.Range.{ballots_fit, values_fit, block_fits, holds_only, every_block}
use Rattle.range.proofs.Together.{only_fits}
use Rattle.range.proofs.Chunks.{list_all_then, list_all_both}
use Rattle.range.proofs.fours.four_with.Goals as goal

-- blocks are in range by their ballots and by their values
apart
    : (value : ℕ → Bool) (xs : List (List ℕ))
    → every_block (block_fits value) xs ≡ (every_block ballots_fit xs && every_block (values_fit value) xs)
unfolding block_fits
apart value xs = list_all_both (λ cells. ballots_fit (block_in cells 0)) (λ cells. values_fit value (block_in cells 0)) xs

pub returns-then-not-all_at_once : goal.returns-then-not-all_at_once
returns-then-not-all_at_once c =
    let judged = c.all_at_once.ensures ballots_fit (λ b r e. e.1) in
    sym (apart (value_by c.args.tops.now.0) c.args.four.now ∙ none_left _ _ (sym judged ∙ c.if-not-all_at_once.true))

pub returns-then-four_hold : goal.returns-then-four_hold
returns-then-four_hold c =
    let tops = c.args.tops.now.0 in
    let judged = c.all_at_once.ensures ballots_fit (λ b r e. e.1) in
    sym
    (apart (value_by tops) c.args.four.now
    ∙ and_intro _ _ (sym judged ∙ c.if-not-all_at_once.false)
    (list_all_then (λ cells. holds_only c.args.v (block_in cells 0)) (λ cells. values_fit (value_by tops) (block_in cells 0))
    (λ cells. only_fits tops c.args.v c.requires (block_in cells 0)) c.args.four.now
    (sym c.four_hold.ensures ∙ c.if-four_hold.true)))

pub returns : goal.returns
returns c =
    let judged = c.all_at_once.ensures ballots_fit (λ b r e. e.1) in
    goes_on _ _ _ (sym judged ∙ c.if-not-all_at_once.false) (c.each.ensures (values_fit (value_by c.args.tops.now.0)) (λ b r e. search rules))
    ∙ sym (apart (value_by c.args.tops.now.0) c.args.four.now)
