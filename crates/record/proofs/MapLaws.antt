-- Laws of the map byte, over any number of fields.
use Prim.Native.Nat.{ℕ, ◌+◌, ◌*◌, ◌/◌, ◌%◌, ◌^◌, ◌<◌, min}
use mathlib.Core.Bool.{not}
use mathlib.Core.List.{List, [], ◌∷◌}
use mathlib.Core.Path.{◌≡◌, refl, ◌∙◌, sym, ap, ap₂}
use native.Mathlib.Nat.{mod-lt, two-pow-succ}
use native.Mathlib.Omega.{arith}
use borrow.Author.Tests.{ltb-true, ltb-false, eq-eqb, ne_eqb, eqb-true}
use lib.Bits.{bit_and, bit_or, and_step, and_zero_r, or_step}
use lib.Dec.{eqb, ltb, lit<}
use lib.ListN.{length, length-append}
use Rattle.lemmas.proofs.Tests.{by_test, same_test}
use Rattle.record.specs.Map.{bit_of, marks_of, map_of, fields_length, record_length, widths, asks_more}
use Rattle.record.specs.Write.{low_first, field_bytes, bytes_of}
use Rattle.record.proofs.Bytes.{low_length}

pub bit_small : (mask v : ℕ) → bit_of (mask % 2) v < 2
bit_small mask v =
    by_test (eqb v 0)
    (λ e. rw e (lit< tt))
    (λ e. rw e (mod-lt mask (lit< tt)))

pub map_small : (mask : ℕ) (vs : List ℕ) → map_of mask vs < 2 ^ length vs
unfolding map_of
map_small mask [] = lit< tt
map_small mask (v ∷ vs) = omega (arith, bit_small mask v, map_small (mask / 2) vs, two-pow-succ (length vs))

-- of the fields that are not 0, those that the mask has
pub marks_in_mask : (mask : ℕ) (vs : List ℕ) → bit_and mask (marks_of vs) ≡ map_of mask vs
unfolding marks_of map_of
marks_in_mask mask [] = and_zero_r mask
marks_in_mask mask (v ∷ vs) =
    let half : (bit_of 1 v + 2 * marks_of vs) / 2 ≡ marks_of vs = omega (arith, bit_small 1 v) in
    let low : (bit_of 1 v + 2 * marks_of vs) % 2 ≡ bit_of 1 v = omega (arith, bit_small 1 v) in
    let bit : min (mask % 2) (bit_of 1 v) ≡ bit_of (mask % 2) v =
    by_test (eqb v 0) (λ e. rw e (omega arith)) (λ e. rw e (omega arith)) in
    let digits = rw (half, low, bit, marks_in_mask (mask / 2) vs) at (and_step mask (bit_of 1 v + 2 * marks_of vs)) in
    omega arith

-- one operation tells whether a map asks for a field that the mask lacks
pub asks_beyond : (ws : List ℕ) (m mask : ℕ) → m < 2 ^ length ws → not (eqb (bit_or m mask) mask) ≡ asks_more ws m mask
unfolding asks_more
asks_beyond [] m mask h = let none : m ≡ 0 = omega arith in rw none (ap not (eq-eqb mask mask refl))
asks_beyond (w ∷ ws) m mask h =
    let digits = or_step m mask in
    let small : m / 2 < 2 ^ length ws = omega (arith, two-pow-succ (length ws)) in
    by_test (ltb (mask % 2) (m % 2))
    (λ e.
    let above = ltb-true (mask % 2) (m % 2) e in
    rw e (ap not (ne_eqb (bit_or m mask) mask (λ same. omega arith))))
    (λ e.
    let within = ltb-false (mask % 2) (m % 2) e in
    let others : eqb (bit_or m mask) mask ≡ eqb (bit_or (m / 2) (mask / 2)) (mask / 2) =
    same_test (eqb (bit_or m mask) mask) (eqb (bit_or (m / 2) (mask / 2)) (mask / 2))
    (λ same. let s = eqb-true (bit_or m mask) mask same in eq-eqb (bit_or (m / 2) (mask / 2)) (mask / 2) (omega arith))
    (λ same.
    let s = eqb-true (bit_or (m / 2) (mask / 2)) (mask / 2) same in
    eq-eqb (bit_or m mask) mask (omega arith)) in
    rw e (ap not others ∙ asks_beyond ws (m / 2) (mask / 2) small))

pub fields-length : (ws vs : List ℕ) (m : ℕ) → length ws ≡ length vs
    → length (field_bytes ws m vs) ≡ fields_length ws m
unfolding field_bytes fields_length
fields-length [] vs m e = refl
fields-length (w ∷ ws) [] m e = absurd (omega arith)
fields-length (w ∷ ws) (v ∷ vs) m e =
    length-append (low_first (m % 2 * w) v) (field_bytes ws (m / 2) vs)
    ∙ ap₂ ◌+◌ (low_length (m % 2 * w) v) (fields-length ws vs (m / 2) (omega arith))

pub bytes-length : (m kind : ℕ) (vs : List ℕ) → length vs ≡ 5 → length (bytes_of m kind vs) ≡ record_length m
unfolding bytes_of record_length
bytes-length m kind vs e = omega (arith, fields-length widths vs m (sym e))
