-- What is read of an input and written for it, where the bytes that a reader has left and those that a writer holds are
-- known. Of the standard streams and of files they are not.
use Rattle.std.specs.Prelude.{ℕ, ◌≤◌, List, length, Option, IfSome}
use Rattle.std.specs.Io.{StartsWith}
use Rattle.std.specs.Io.KnownBytes.{Consumes, Appends}
use Rattle.rehearsal.specs.Rehearsal.{input_max, rehearsal}

-- these bytes were read: all that were taken, or the first of an input that is too long, of which more is taken and dropped
pub record HasRead (before after : Option (List ℕ)) (bytes : List ℕ) : Type 0 where
  pub first : IfSome before (λ xs. StartsWith xs bytes)
  pub all : length bytes ≤ input_max → Consumes before after bytes

-- the text of the bytes that were read is written behind what was written before
pub record Rehearses (before after old new : Option (List ℕ)) : Type 0 where
  pub bytes : List ℕ
  pub reads : HasRead before after bytes
  pub writes : Appends old new (rehearsal bytes)
