-- What the definitions of a record say at the five fields, as the code has them.
use Prim.Native.Nat.{ℕ, ◌+◌, ◌*◌, ◌/◌, ◌%◌, ◌<◌}
use mathlib.Core.List.{List, [], ◌∷◌}
use mathlib.Core.Path.{◌≡◌, sym}
use native.Mathlib.Nat.{div-div-eq-div-mul, mod-lt}
use native.Mathlib.Omega.{arith}
use lib.Dec.{lit<}
use lib.ListN.{take}
use lib.Seq.{sets}
use Rattle.std.specs.Int.{w32, to_le_bytes}
use Rattle.record.specs.Map.{fields_length, record_length}
use Rattle.record.specs.Write.{low_first, field_bytes}
use Rattle.record.proofs.Bytes.{put_more, take_bit, byte_first, word_first}

pub record_length_lem : (m : ℕ)
    → record_length m ≡ 2 + m % 2 + m / 2 % 2 + m / 4 % 2 + m / 8 % 2 + m / 16 % 2 * 4
unfolding record_length fields_length
record_length_lem m = simp div-div-eq-div-mul (omega arith)

-- a field stored, and then the others where it ends
put_field : (l : List ℕ) (at w v m : ℕ) (ws vs field : List ℕ) → field ≡ low_first w v
    → sets (sets l at (take (m % 2 * w) field)) (at + m % 2 * w) (field_bytes ws (m / 2) vs)
    ≡ sets l at (field_bytes (w ∷ ws) m (v ∷ vs))
unfolding field_bytes
put_field l at w v m ws vs field e =
    rw (e, take_bit w (m % 2) v (mod-lt m (lit< tt))) (sym (put_more l at (m % 2 * w) v (field_bytes ws (m / 2) vs)))

pub put_byte : (l : List ℕ) (at m v : ℕ) (ws vs : List ℕ) → v < 256
    → sets l at (field_bytes (1 ∷ ws) m (v ∷ vs))
    ≡ sets (sets l at (take (m % 2 * 1) (v ∷ []))) (at + m % 2 * 1) (field_bytes ws (m / 2) vs)
put_byte l at m v ws vs h = sym (put_field l at 1 v m ws vs (v ∷ []) (byte_first v h))

pub put_word : (l : List ℕ) (at m v : ℕ)
    → sets l at (field_bytes (4 ∷ []) m (v ∷ [])) ≡ sets l at (take (m % 2 * 4) (to_le_bytes w32 v))
unfolding field_bytes
put_word l at m v = sym (put_field l at 4 v m [] [] (to_le_bytes w32 v) (word_first v))
