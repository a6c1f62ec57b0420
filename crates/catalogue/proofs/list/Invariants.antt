-- What is still to be taken makes the same entries from here as the whole from zeros.
use Prim.Native.Nat.{◌-◌}
use Rattle.catalogue.proofs.ListLaws.{Left}
use Rattle.catalogue.proofs.list.Given as goal

abbrev pub invariant-loop-k : goal.invariant-loop-k
invariant-loop-k l = Left l.room.sizes l.room.cells.now l.p l.out l.k l.skipped

abbrev pub decreases-loop-k : goal.decreases-loop-k
decreases-loop-k l = l.room.sizes.slots - l.k
