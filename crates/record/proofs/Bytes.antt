-- A number and its bytes, low first; bytes stored in a buffer.
use Prim.Native.Nat.{ℕ, zero, suc, ◌-◌, ◌+◌, ◌*◌, ◌<◌, ◌≤◌, ◌%◌, ◌/◌, ◌^◌}
use mathlib.Core.List.{List, [], ◌∷◌, ◌++◌, append_assoc}
use mathlib.Core.Path.{◌≡◌, refl, ◌∙◌, sym, ap, ap₂}
use native.Mathlib.Nat.{zero-add, zero-mul, one-mul, pow-suc, div-div-eq-div-mul}
use native.Mathlib.Omega.{arith}
use borrow.Rule.Slice.PartMut.{put_mid}
use lib.Dec.{lit<}
use lib.ListN.{length, take, drop, set, replicate}
use lib.Seq.{drop-drop, take_all, get_or-drop, sets, sets-eq}
use Rattle.std.specs.Int.{w32, from_le_bytes, to_le_bytes}
use Rattle.record.specs.Read.{low_number, Bytes}
use Rattle.record.specs.Write.{low_first}

pub low_none : (s : List ℕ) → low_number (take 0 s) ≡ 0
unfolding low_number
low_none s = refl

-- what the library makes of four bytes
pub low_word : (bytes : List ℕ) → length bytes ≡ 4 → from_le_bytes w32 bytes ≡ low_number bytes
unfolding low_number
low_word [] h = absurd (omega arith)
low_word (a ∷ []) h = absurd (omega arith)
low_word (a ∷ b ∷ []) h = absurd (omega arith)
low_word (a ∷ b ∷ c ∷ []) h = absurd (omega arith)
low_word (a ∷ b ∷ c ∷ d ∷ []) h = omega arith
low_word (a ∷ b ∷ c ∷ d ∷ e ∷ s) h = absurd (omega arith)

pub low_zeros : (n : ℕ) → low_number (replicate n 0) ≡ 0
unfolding low_number
low_zeros zero = refl
low_zeros (suc n) = omega (arith, low_zeros n)

pub low_length : (w v : ℕ) → length (low_first w v) ≡ w
unfolding low_first
low_length zero v = refl
low_length (suc w) v = ap suc (low_length w (v / 256))

-- a number stored, and then more bytes where it ends
pub put_more : (l : List ℕ) (at w v : ℕ) (more : List ℕ)
    → sets l at (low_first w v ++ more) ≡ sets (sets l at (low_first w v)) (at + w) more
unfolding low_first
put_more l at zero v more = ap (λ (i : ℕ). sets l i more) (omega arith)
put_more l at (suc w) v more =
    put_more (set l at (v % 256)) (suc at) w (v / 256) more
    ∙ ap (λ (i : ℕ). sets (sets (set l at (v % 256)) (suc at) (low_first w (v / 256))) i more) (omega arith)

-- bytes that are copied into a buffer at once
put_once : (l : List ℕ) (at k : ℕ) (ys : List ℕ) → length ys ≡ k → at + k ≤ length l → put_mid at k l ys ≡ sets l at ys
put_once l at k ys e h =
    let after : at + k ≡ at + length ys = omega arith in
    ap (λ (zs : List ℕ). take at l ++ (ys ++ zs)) (drop-drop k at l ∙ ap (λ (j : ℕ). drop j l) after)
    ∙ sym (append_assoc (take at l) ys (drop (at + length ys) l))
    ∙ sym (sets-eq ys l at (omega arith))

-- a field that is copied to its place, where its bit stands
pub put_field_once : (l : List ℕ) (at n b : ℕ) (field : List ℕ) → b ≡ 1 → length field ≡ n → at + b * n ≤ length l
    → put_mid at (at + n - at) l field ≡ sets l at (take (b * n) field)
put_field_once l at n b field one e h =
    let k : at + n - at ≡ n = omega arith in
    let whole : take (b * n) field ≡ field = rw (one, one-mul n) (take_all n field (omega arith)) in
    let fits : at + n ≤ length l = rw (one, one-mul n) at h in
    rw (k, whole) (put_once l at n field e fits)

pub byte_first : (v : ℕ) → v < 256 → v ∷ [] ≡ low_first 1 v
unfolding low_first
byte_first v h = let same : v % 256 ≡ v = omega arith in rw same refl

pub word_first : (v : ℕ) → to_le_bytes w32 v ≡ low_first 4 v
unfolding low_first
word_first v = simp div-div-eq-div-mul

-- the bytes of a field with its bit
pub take_bit : (w b v : ℕ) → b < 2 → take (b * w) (low_first w v) ≡ low_first (b * w) v
unfolding low_first
take_bit w zero v h = rw (zero-mul w) refl
take_bit w (suc zero) v h = rw (one-mul w) (take_all w (low_first w v) (omega (arith, low_length w v)))
take_bit w (suc (suc b)) v h = absurd (omega arith)

-- bytes stored from the first place on stand before what was beyond them
pub stored_first : (bytes l : List ℕ) → length bytes ≤ length l → sets l 0 bytes ≡ bytes ++ drop (length bytes) l
stored_first bytes l h =
    sets-eq bytes l 0 (omega arith) ∙ ap (λ (n : ℕ). bytes ++ drop n l) (zero-add (length bytes))

pub bytes_take : (n : ℕ) (s : List ℕ) → Bytes s → Bytes (take n s)
bytes_take zero s h i = lit< tt
bytes_take (suc n) [] h i = lit< tt
bytes_take (suc n) (b ∷ s) h zero = h 0
bytes_take (suc n) (b ∷ s) h (suc i) = bytes_take n s (λ j. h (suc j)) i

pub bytes_drop : (n : ℕ) (s : List ℕ) → Bytes s → Bytes (drop n s)
bytes_drop n s h i = rw get_or-drop (h (n + i))

-- the bytes of a number that fits stand for it
pub low_back : (w v : ℕ) → v < 256 ^ w → low_number (low_first w v) ≡ v
unfolding low_first low_number
low_back zero v h = omega arith
low_back (suc w) v h =
    let less : v / 256 < 256 ^ w = omega (arith, pow-suc 256 w) in
    omega (arith, low_back w (v / 256) less)

-- the number of some bytes has those bytes again
pub low_again : (bytes : List ℕ) → Bytes bytes → low_first (length bytes) (low_number bytes) ≡ bytes
unfolding low_first low_number
low_again [] h = refl
low_again (b ∷ bs) h =
    let byte = h 0 in
    let low : (b + 256 * low_number bs) % 256 ≡ b = omega arith in
    let high : (b + 256 * low_number bs) / 256 ≡ low_number bs = omega arith in
    ap₂ ◌∷◌ low (ap (low_first (length bs)) high ∙ low_again bs (λ i. h (suc i)))

pub low_bound : (bytes : List ℕ) → Bytes bytes → low_number bytes < 256 ^ length bytes
unfolding low_number
low_bound [] h = lit< tt
low_bound (b ∷ bs) h =
    omega (arith, h 0, low_bound bs (λ i. h (suc i)), pow-suc 256 (length bs))
