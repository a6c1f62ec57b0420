-- `free_slots::asking::first_free` meets its contract: what the search of the slots answers is the first that is free.
use mathlib.Core.Path.{◌≡◌}
use mathlib.Core.Bool.{true, false}
use Rattle.std.proofs.Common.{rules}
use Rattle.std.proofs.lemmas.Iterator.{first_from_Range}
use Rattle.free_slots.specs.Ask.{free_at, lowest_free}
use Rattle.free_slots.proofs.AskLaws.{first_found}
use Rattle.free_slots.proofs.asking.first_free.Goals as goal

pub returns : goal.returns
unfolding free_at lowest_free
returns c =
    let room = c.args.room.now in
    let free = free_at room.sizes room.cells.now c.args.p in
    first_found free room.sizes.slots c.find.result
    (first_from_Range _ _ _ _ (λ s. free s ≡ true) (λ s. free s ≡ false) c.find.ensures.ran
    (λ s q k. search rules) (λ s q k. search rules))
