-- `Acting::others_read` meets its contract: `all` looks at each of the servers.
use mathlib.Core.Path.{◌∙◌}
use native.Mathlib.Omega.{arith}
use borrow.Author.Rules.{rules}
use Rattle.std.proofs.lemmas.Iterator.{YieldsList-from_range}
use Rattle.std.proofs.lemmas.Iterator.Search.{all_from_yields_List}
use Rattle.quorum.proofs.AllBelow.{all_listed}
use Rattle.synod.specs.Rules.{other_read}
use Rattle.drives.proofs.Acting.others_read.Goals as goal

pub returns : goal.returns
returns c =
    let a = c.args.self in
    let test = other_read a.record a.server c.args.d in
    all_from_yields_List test _ _ c.all.result c.all.ensures.ran (YieldsList-from_range 0 a.sizes.servers a.sizes.servers (search rules) (omega arith)) (λ q r f k. search rules)
    ∙ all_listed a.sizes.servers test
