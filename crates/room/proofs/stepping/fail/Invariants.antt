-- `room::stepping::fail` meets its contract: the slots passed so far have the record zeroed.
use mathlib.Core.Path.{◌≡◌}
use Rattle.room.specs.Step.{failed_below}
use Rattle.room.proofs.stepping.fail.Given as goal

abbrev pub invariant-loop-s : goal.invariant-loop-s
invariant-loop-s l =
    (l.room.sizes ≡ l.fn.room.sizes)
    × (l.room.cells.ghost_name ≡ l.fn.room.cells.ghost_name)
    × (l.room.cells.now ≡ failed_below l.fn.room.sizes l.p l.s l.fn.room.cells.now)
