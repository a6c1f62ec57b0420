-- `steps` meets its contract. The invariant is `Going`.
use Rattle.std.specs.Iterator.Adapters.{enumerate_source, enumerate_count}
use Rattle.rehearsal.proofs.Going.{Going}
use Rattle.rehearsal.proofs.steps.Given as goal

abbrev pub invariant-loop-index : goal.invariant-loop-index
invariant-loop-index l =
    (goal.iterator-loop-index).can_next l.index-iterator
    × (goal.iterator-loop-index).is_finite l.index-iterator
    × Going l.records l.initial.room l.initial.text (enumerate_source l.index-iterator).0.now l.room l.text (enumerate_count l.index-iterator)
