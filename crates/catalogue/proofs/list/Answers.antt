-- `catalogue::list` meets its contract: each turn takes one output more, and what is left makes the same entries.
use Rattle.std.proofs.Common.{arith}
use Rattle.catalogue.proofs.ListLaws.{left_first, left_next}
use Rattle.catalogue.proofs.list.Goals as goal

pub loop-k-init : goal.loop-k-init
loop-k-init c = left_first _ _ _ _ c.requires.1

pub loop-k-preserved : goal.loop-k-preserved
loop-k-preserved c =
    left_next c.loop-k.invariant _ _ _ _ _ _ (omega arith) c.server.ensures c.output.ensures c.in-Some.is
    c.apply.ensures.0 c.from-skipped.ensures c.apply.ensures.1
