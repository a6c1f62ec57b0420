-- `Acting::recalled` meets its contract: the read marks have none of drive 32 or above.
use Prim.Native.Nat.{◌<◌, ◌^◌}
use mathlib.Core.Path.{◌∙◌}
use native.Mathlib.Omega.{arith}
use borrow.Author.Rules.{rules}
use Rattle.quorum.proofs.Gathered.{gathered_small}
use Rattle.quorum.proofs.MarkLaws.{stands_beyond}
use Rattle.synod.specs.Changes.{read_bit}
use Rattle.synod.specs.Rules.{recalled_on}
use Rattle.drives.proofs.Acting.recalled.Goals as goal

pub returns : goal.returns
returns c =
    let a = c.args.self in
    let set = recalled_on a.record a.server in
    let small : a.record.read < 2 ^ 32 = omega arith in
    c.gather.ensures set (λ d r l is. search rules)
    ∙ gathered_small a.sizes.drives set (λ d h. stands_beyond a.record.read (read_bit d a.server) small (omega arith))
