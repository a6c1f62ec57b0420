-- `Acting::complete` meets its contract: the written marks have none of drive 32 or above.
use Prim.Native.Nat.{◌<◌, ◌^◌}
use mathlib.Core.Path.{◌∙◌, ap}
use mathlib.Core.Bool.{Bool, ◌&&◌}
use native.Mathlib.Omega.{arith}
use borrow.Author.Rules.{rules}
use Rattle.quorum.proofs.Gathered.{gathered_small}
use Rattle.quorum.proofs.MarkLaws.{stands_beyond}
use Rattle.synod.specs.Rules.{complete_on, others_read}
use Rattle.drives.proofs.Acting.complete.Goals as goal

pub returns : goal.returns
returns c =
    let a = c.args.self in
    let set = complete_on a.sizes.servers a.record a.server in
    let small : a.record.written < 2 ^ 32 = omega arith in
    c.gather.ensures set (λ d r l is. search rules)
    ∙ gathered_small a.sizes.drives set
    (λ d h. ap (λ (b : Bool). b && others_read a.sizes.servers a.record a.server d) (stands_beyond a.record.written d small h))
