-- `range::Legal::slots_fit` meets its contract: each of the slots that the row is cut into is judged.
use Prim.Native.Nat.{ℕ, ◌*◌, ◌<◌, ◌/◌}
use mathlib.Core.Path.{◌∙◌, ap₂}
use mathlib.Core.List.{List}
use native.Mathlib.Omega.{arith}
use lib.ListN.{length}
use Rattle.std.proofs.Common.{rules, tests}
use Rattle.std.specs.List.{list_all}
use Rattle.std.specs.Simd.{first_chunks}
use Rattle.std.specs.Slice.Iter.{chunks_exact_rest, chunks_exact_size, chunks_exact_steps}
use Rattle.std.proofs.lemmas.Iterator.Search.{all_from_yields_List}
use Rattle.command.specs.Tops.{value_by}
use Rattle.layout.specs.Places.{server_length}
use Rattle.layout.proofs.PlaceLaws.{slot_some}
use Rattle.range.specs.Range.{slot_in}
use Rattle.range.proofs.Chunks.{chunks_given}
use Rattle.range.proofs.Legal.slots_fit.Goals as goal

pub returns : goal.returns
returns c =
    let test = slot_in (value_by c.args.self.now.tops.0) c.args.self.now.marks (server_length * c.args.self.now.plan.sizes.servers) in
    let whole : 0 < chunks_exact_size c.chunks_exact.result =
    omega (arith, c.chunks_exact.ensures.size, c.slot_length.ensures, slot_some c.args.self.now.plan.sizes c.args.self.now.plan.fit) in
    all_from_yields_List test _ _ _ c.all.ensures.ran
    (chunks_given chunks_exact_size chunks_exact_rest chunks_exact_steps (λ s t e. e.1.0) (λ s x t e. (e.0, e.1.0, e.1.1)) _ whole)
    (λ x b q k. search (rules, tests))
    ∙ ap₂ (λ (n : ℕ) (xs : List ℕ). list_all test (first_chunks n (length xs / n) xs)) (c.chunks_exact.ensures.size ∙ c.slot_length.ensures) c.chunks_exact.ensures.rest
