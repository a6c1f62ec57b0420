-- A step that is refused has the word and the number of any other call that is refused.
use mathlib.Core.Path.{◌≡◌, refl}
use Rattle.std.specs.Prelude.{Err}
use Rattle.checks.specs.declared.Refusal.{Refusal}
use Rattle.packing.specs.Packing.{packed_number}
use Rattle.register_c.specs.Packing.{packed_answer}

pub refused_alike : (refusal : Refusal) → packed_answer (Err refusal) ≡ packed_number (Err refusal)
refused_alike refusal = refl
