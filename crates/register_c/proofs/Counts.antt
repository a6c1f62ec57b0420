-- The packing of a catalogue loses nothing: both counts can be had back from its answer.
use Prim.Native.Nat.{ℕ, ◌+◌, ◌*◌, ◌/◌, ◌%◌, ◌≤◌}
use mathlib.Core.Bool.{true}
use mathlib.Core.List.{List}
use mathlib.Core.Path.{◌≡◌, subst⁻¹}
use native.Mathlib.Omega.{arith}
use Rattle.checks.specs.Checks.{accepted}
use Rattle.range.proofs.Laws.{range_says}
use Rattle.catalogue.specs.Call.{catalogue_of}
use Rattle.catalogue.specs.Listing.{taken_of, skipped_of}
use Rattle.catalogue.proofs.AnswerLaws.{accepted_is, accepted_says}
use Rattle.packing.specs.Packing.{packed}
use Rattle.register_c.specs.Packing.{packed_listing}

-- an accepted catalogue's answer: the word 0, and the two counts
pub record Counts (taken skipped answer : ℕ) : Type 0 where
  pub word : answer / 4294967296 ≡ 0
  pub upper : answer / 256 ≡ taken
  pub lower : answer % 256 ≡ skipped

-- there are at most 16 slots, so at most 16 commands are taken, and no more skipped
few : (taken skipped : ℕ) → taken ≤ 16 → skipped ≤ taken → Counts taken skipped (packed 0 (taken * 256 + skipped))
few taken skipped a b = record { word = omega arith; upper = omega arith; lower = omega arith }

pub counts_back
    : (room : List ℕ) (server : ℕ) (out : List ℕ)
    → accepted (catalogue_of room server out) ≡ true
    → Counts (taken_of (catalogue_of room server out)) (skipped_of (catalogue_of room server out))
    (packed_listing (catalogue_of room server out))
counts_back room server out e =
    let answer = catalogue_of room server out in
    let a = accepted_says room server out e in
    let fit = (range_says room a.range).row.fit in
    let slots = fit.slots in
    let most = a.at_most_slots in
    subst⁻¹ (λ l. Counts (taken_of answer) (skipped_of answer) (packed_listing l))
    (accepted_is room server out e)
    (few (taken_of answer) (skipped_of answer) (omega arith) a.at_most_taken)
