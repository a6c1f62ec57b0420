-- 01's sample records, and the records whose answer turns on the order of the checks.
use mathlib.Core.List.{[], ◌∷◌}
use mathlib.Core.Path.{◌≡◌, refl}
use native.Mathlib.Omega.{arith}
use Rattle.std.specs.Prelude.{Ok, Err}
use Rattle.checks.specs.declared.Refusal.TheVariants.{CutShort, Malformed}
use Rattle.state.specs.declared.Step.TheVariants.{Offer, Rejoin, Finish}
use Rattle.checks.specs.Checks.{must}
use Rattle.record.specs.Fields.{mask_of, step_of, StepFits}
use Rattle.record.specs.Map.{map_of, fields_length, record_length, asks_more, malformed, zero_among}
use Rattle.record.specs.Read.{low_number, values_at, read_checks, reading_of}
use Rattle.record.specs.Write.{low_first, field_bytes, bytes_of, record_of_fields, record_of}

pub record Samples : Type 0 where
  pub offer : record_of (Offer 0 0 66825) ≡ 16 ∷ 1 ∷ 9 ∷ 5 ∷ 1 ∷ 0 ∷ []
  pub rejoin : record_of (Rejoin 0 0 1) ≡ 16 ∷ 3 ∷ 1 ∷ 0 ∷ 0 ∷ 0 ∷ []
  pub no_field : reading_of (0 ∷ 1 ∷ []) ≡ Ok (Offer 0 0 0, 2)
  pub beyond : reading_of (3 ∷ 7 ∷ 2 ∷ 1 ∷ 9 ∷ []) ≡ Ok (Finish 2 1, 4)
  pub no_byte : reading_of [] ≡ Err CutShort
  pub high_bit : reading_of (32 ∷ []) ≡ Err Malformed
  pub no_kind : reading_of (3 ∷ []) ≡ Err CutShort
  pub unknown_kind : reading_of (0 ∷ 11 ∷ []) ≡ Err Malformed
  pub lacking : reading_of (4 ∷ 7 ∷ []) ≡ Err Malformed
  pub short : reading_of (3 ∷ 7 ∷ 0 ∷ []) ≡ Err CutShort
  pub zero : reading_of (3 ∷ 7 ∷ 0 ∷ 0 ∷ []) ≡ Err Malformed
  pub largest : StepFits (Offer 255 255 4294967295)

pub samples : Samples
unfolding mask_of step_of map_of fields_length record_length asks_more malformed zero_among low_first field_bytes bytes_of
    record_of_fields record_of low_number values_at read_checks reading_of must
samples =
    record {
      offer = refl;
      rejoin = refl;
      no_field = refl;
      beyond = refl;
      no_byte = refl;
      high_bit = refl;
      no_kind = refl;
      unknown_kind = refl;
      lacking = refl;
      short = refl;
      zero = refl;
      largest = omega arith;
    }
