-- `Turn::read_on` meets its contract: `find` looks at each of the servers.
use mathlib.Core.Path.{◌≡◌, ◌∙◌}
use mathlib.Core.Bool.{Bool, not}
use native.Mathlib.Omega.{arith}
use Prim.Native.Nat.{ℕ}
use Rattle.std.proofs.Common.{rules}
use Rattle.std.specs.Option.{option_map}
use Rattle.std.specs.List.{range_with_len}
use Rattle.std.proofs.lemmas.Iterator.{YieldsList-from_range}
use Rattle.std.proofs.lemmas.Iterator.Search.{find_from_yields_List}
use Rattle.state.specs.declared.Step.TheVariants.{Read}
use Rattle.synod.specs.Rules.{other_read}
use Rattle.progress.specs.Next.{unread, reads_left}
use Rattle.next_step.proofs.Firsts.{found_once}
use Rattle.next_step.proofs.Turn.read_on.Goals as goal

pub returns : goal.returns
unfolding reads_left unread
returns c =
    let a = c.args.self.acting in
    let n = a.sizes.servers in
    let left : ℕ → Bool = λ q. not (other_read a.record a.server c.args.d q) in
    let step = Read a.server c.args.self.slot c.args.d in
    let found = find_from_yields_List left _ _ c.find.result c.find.ensures.ran (YieldsList-from_range 0 n n (search rules) (omega arith)) (λ q b f k. search rules) in
    let mapped : c.map.result ≡ option_map step c.find.result = search rules in
    mapped ∙ found_once step left (range_with_len 0 n) c.find.result found
