-- `Turn::round` meets its contract: `find` looks at each of the drives.
use mathlib.Core.Path.{◌≡◌, ◌∙◌, ap}
use mathlib.Core.Bool.{Bool, ◌&&◌}
use mathlib.Core.List.{List}
use native.Mathlib.Omega.{arith}
use Prim.Native.Nat.{ℕ}
use Rattle.std.proofs.Common.{rules}
use Rattle.std.specs.Option.{is_some, option_and_then}
use Rattle.std.specs.List.{range_with_len}
use Rattle.std.proofs.lemmas.Iterator.{YieldsList-from_range}
use Rattle.std.proofs.lemmas.Iterator.Search.{find_from_yields_List}
use Rattle.state.specs.declared.Step.{Step}
use Rattle.std.specs.Prelude.{flat_map}
use Rattle.quorum.specs.Marks.{stands}
use Rattle.progress.specs.Next.{first, left_on, rounds_left}
use Rattle.next_step.proofs.Firsts.{found_among}
use Rattle.next_step.proofs.UsedLaws.{marked_used}
use Rattle.next_step.proofs.Turn.round.Goals as goal

pub returns : goal.returns
unfolding rounds_left
returns c =
    let a = c.args.self.acting in
    let n = a.sizes.drives in
    let used : ℕ → Bool = stands c.args.self.used in
    let left : ℕ → List Step = left_on a.sizes a.off a.record a.server c.args.self.slot in
    let found = find_from_yields_List (λ d. used d && is_some (first (left d))) _ _ c.find.result c.find.ensures.ran (YieldsList-from_range 0 n n (search rules) (omega arith)) (λ d b q k. search rules) in
    let then : c.and_then.result ≡ option_and_then (λ d. first (left d)) c.find.result = search rules in
    then
    ∙ found_among left used (range_with_len 0 n) c.find.result found
    ∙ ap (λ ds. first (flat_map left ds)) (marked_used n a.off c.args.self.used c.args.self.uses)
