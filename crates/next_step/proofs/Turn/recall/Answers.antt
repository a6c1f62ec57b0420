-- `Turn::recall` meets its contract: `find` looks at each of the drives.
use mathlib.Core.Path.{◌≡◌, ◌∙◌, ap}
use mathlib.Core.Bool.{Bool, not, ◌&&◌}
use native.Mathlib.Omega.{arith}
use Prim.Native.Nat.{ℕ}
use Rattle.std.proofs.Common.{rules}
use Rattle.std.specs.Option.{option_map}
use Rattle.std.specs.List.{range_with_len}
use Rattle.std.proofs.lemmas.Iterator.{YieldsList-from_range}
use Rattle.std.proofs.lemmas.Iterator.Search.{find_from_yields_List}
use Rattle.state.specs.declared.Step.TheVariants.{Recall}
use Rattle.synod.specs.Rules.{recalled_on}
use Rattle.std.specs.Prelude.{filter}
use mathlib.Core.List.{map}
use Rattle.quorum.specs.Marks.{stands}
use Rattle.progress.specs.Next.{first, unrecalled, recalls_left}
use Rattle.next_step.proofs.Firsts.{found_twice}
use Rattle.next_step.proofs.UsedLaws.{marked_used}
use Rattle.next_step.proofs.Turn.recall.Goals as goal

pub returns : goal.returns
unfolding recalls_left unrecalled
returns c =
    let a = c.args.self.acting in
    let n = a.sizes.drives in
    let used : ℕ → Bool = stands c.args.self.used in
    let left : ℕ → Bool = λ d. not (recalled_on a.record a.server d) in
    let step = Recall a.server c.args.self.slot in
    let found = find_from_yields_List (λ d. used d && left d) _ _ c.find.result c.find.ensures.ran (YieldsList-from_range 0 n n (search rules) (omega arith)) (λ d b q k. search rules) in
    let mapped : c.map.result ≡ option_map step c.find.result = search rules in
    mapped
    ∙ found_twice step left used (range_with_len 0 n) c.find.result found
    ∙ ap (λ ds. first (map step (filter left ds))) (marked_used n a.off c.args.self.used c.args.self.uses)
