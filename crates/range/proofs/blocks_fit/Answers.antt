-- `range::blocks_fit` meets its contract: the fours and the rest are all blocks.
use Prim.Native.Nat.{ℕ, ◌*◌, ◌/◌}
use mathlib.Core.Path.{◌≡◌, ◌∙◌, sym, ap, ap₂}
use mathlib.Core.Bool.{Bool, ◌&&◌}
use mathlib.Core.List.{List}
use lib.ListN.{length, drop}
use Rattle.std.proofs.Common.{rules}
use Rattle.lemmas.proofs.Tests.{none_left, goes_on}
use Rattle.std.specs.List.{list_all}
use Rattle.std.specs.Simd.{first_chunks}
use Rattle.command.specs.Tops.{value_by}
use Rattle.layout.specs.Cells.{block_in}
use Rattle.range.specs.Range.{block_fits}
use Rattle.range.proofs.Chunks.{in_parts}
use Rattle.range.proofs.blocks_fit.Goals as goal

-- all blocks, where they are cut into fours and a rest
parts
    : (p : List ℕ → Bool) (all blocks rest : List (List ℕ)) (fours : List (List (List ℕ))) → blocks ≡ all
    → fours ≡ first_chunks 4 (length blocks / 4) blocks → rest ≡ drop (length blocks / 4 * 4) blocks
    → list_all p all ≡ (list_all (list_all p) fours && list_all p rest)
parts p all blocks rest fours e f r =
    ap (list_all p) (sym e) ∙ in_parts p 4 (length blocks / 4) blocks
    ∙ ap₂ (λ (x : List (List (List ℕ))) (y : List (List ℕ)). list_all (list_all p) x && list_all p y) (sym f) (sym r)

pub returns-then-fours_fit : goal.returns-then-fours_fit
returns-then-fours_fit c =
    let p = λ (cells : List ℕ). block_fits (value_by c.args.tops.now.0) (block_in cells 0) in
    goes_on _ _ _ (sym c.fours_fit.ensures ∙ c.if-fours_fit.true) (c.each.ensures (block_fits (value_by c.args.tops.now.0)) (λ b r e. search rules))
    ∙ sym (parts p _ _ _ _ c.as_chunks.ensures.front c.as_chunks-2.ensures.front c.as_chunks-2.ensures.back)

pub returns-else-fours_fit : goal.returns-else-fours_fit
returns-else-fours_fit c =
    let p = λ (cells : List ℕ). block_fits (value_by c.args.tops.now.0) (block_in cells 0) in
    c.if-fours_fit.false
    ∙ sym
    (parts p _ _ _ _ c.as_chunks.ensures.front c.as_chunks-2.ensures.front c.as_chunks-2.ensures.back
    ∙ none_left _ _ (sym c.fours_fit.ensures ∙ c.if-fours_fit.false))
