-- A map that marks exactly the fields that are not 0: the map that is written, and the map of what is read.
use Prim.Native.Nat.{ℕ, zero, suc, ◌+◌, ◌*◌, ◌/◌, ◌%◌, ◌^◌, ◌<◌, ◌≤◌}
use mathlib.Core.Bool.{Bool, false, ◌&&◌, ◌||◌, and-false, cond}
use mathlib.Core.List.{List, [], ◌∷◌, ◌++◌, append_assoc}
use mathlib.Core.Path.{◌≡◌, refl, ◌∙◌, sym, ap, ap₂, subst}
use native.Mathlib.Nat.{mod-lt, two-pow-succ, one-mul, zero-mul, mul-le-mul_right, one-le-pow, pow-le-pow_right, lt_of_lt_of_le}
use native.Mathlib.Omega.{arith}
use borrow.Author.Tests.{le-ltb, ltb-false, eqb-true, eqb-false, ne_eqb}
use lib.Dec.{eqb, ltb, lit<}
use lib.ListN.{length, take, drop, length-take, length-drop}
use lib.Seq.{length-take-le, take_at, drop_at, drop-drop, take-add}
use Rattle.lemmas.proofs.Tests.{by_test, neither_left, neither_right}
use Rattle.record.specs.Map.{bit_of, marks_of, map_of, fields_length, asks_more, zero_among}
use Rattle.record.specs.Read.{low_number, values_at, Bytes}
use Rattle.record.specs.Write.{low_first, field_bytes}
use Rattle.record.proofs.Bytes.{low_length, low_back, low_again, low_bound, low_none, bytes_take, bytes_drop}
use Rattle.record.proofs.MapLaws.{bit_small}

-- a field's bit stands exactly where the field is not 0
abbrev pub Marks : ℕ → List ℕ → Type 0
Marks m [] = Unit {0}
Marks m (v ∷ vs) = (m % 2 ≡ bit_of 1 v) × Marks (m / 2) vs

-- a field that the mask lacks is 0
abbrev pub Keeps : ℕ → List ℕ → Type 0
Keeps mask [] = Unit {0}
Keeps mask (v ∷ vs) = (mask % 2 ≡ 0 → v ≡ 0) × Keeps (mask / 2) vs

-- the fields, with 0 for one that the mask lacks
abbrev pub kept : ℕ → List ℕ → List ℕ
kept mask [] = []
kept mask (v ∷ vs) = cond (eqb (mask % 2) 1) v 0 ∷ kept (mask / 2) vs

-- each field fits its width
abbrev pub Fit : List ℕ → List ℕ → Type 0
Fit [] vs = Unit {0}
Fit (w ∷ ws) [] = Unit {0}
Fit (w ∷ ws) (v ∷ vs) = (v < 256 ^ w) × Fit ws vs

bit_is_zero : (has v : ℕ) → v ≡ 0 → bit_of has v ≡ 0
bit_is_zero has v e = rw e

bit_is_has : (has v : ℕ) → (v ≡ 0 → ⊥) → bit_of has v ≡ has
bit_is_has has v e = rw (ne_eqb v 0 e)

-- goes by whether a number is 0
by_zero : {X : Type 0} (v : ℕ) → (v ≡ 0 → X) → ((v ≡ 0 → ⊥) → X) → X
by_zero v yes-case no-case = by_test (eqb v 0) (λ e. yes-case (eqb-true v 0 e)) (λ e. no-case (eqb-false v 0 e))

map_head : (mask v : ℕ) (vs : List ℕ) → map_of mask (v ∷ vs) % 2 ≡ bit_of (mask % 2) v
unfolding map_of
map_head mask v vs = omega (arith, bit_small mask v)

map_tail : (mask v : ℕ) (vs : List ℕ) → map_of mask (v ∷ vs) / 2 ≡ map_of (mask / 2) vs
unfolding map_of
map_tail mask v vs = omega (arith, bit_small mask v)

-- a map that asks for no more than the mask has is no longer
pub asked-length : (ws : List ℕ) (m mask : ℕ) → asks_more ws m mask ≡ false → fields_length ws m ≤ fields_length ws mask
unfolding asks_more fields_length
asked-length [] m mask a = omega arith
asked-length (w ∷ ws) m mask a =
    let more = asks_more ws (m / 2) (mask / 2) in
    let within = ltb-false (mask % 2) (m % 2) (neither_left (ltb (mask % 2) (m % 2)) more a) in
    let beyond = neither_right (ltb (mask % 2) (m % 2)) more a in
    omega (arith, mul-le-mul_right w within, asked-length ws (m / 2) (mask / 2) beyond)

-- ---- a field that the mask lacks is not looked at

-- what holds for either value of a bit holds for the first bit of a mask
by_bit : (P : ℕ → Type 0) (mask : ℕ) → P 0 → P 1 → P (mask % 2)
by_bit P mask lacks has = go (mask % 2) (mod-lt mask (lit< tt))
  where
    go : (b : ℕ) → b < 2 → P b
    go zero h = lacks
    go (suc zero) h = has
    go (suc (suc b)) h = absurd (omega arith)

-- a map asks for more than the marks of the fields exactly where a field is 0 whose bit stands
pub asks_zero : (ws vs : List ℕ) (m : ℕ) → length ws ≡ length vs → asks_more ws m (marks_of vs) ≡ zero_among m vs
unfolding asks_more marks_of zero_among
asks_zero [] [] m e = refl
asks_zero [] (v ∷ vs) m e = absurd (omega arith)
asks_zero (w ∷ ws) [] m e = absurd (omega arith)
asks_zero (w ∷ ws) (v ∷ vs) m e =
    let half : (bit_of 1 v + 2 * marks_of vs) / 2 ≡ marks_of vs = omega (arith, bit_small 1 v) in
    let low : (bit_of 1 v + 2 * marks_of vs) % 2 ≡ bit_of 1 v = omega (arith, bit_small 1 v) in
    rw (half, low, asks_zero ws vs (m / 2) (omega arith))
    (ap (λ (b : Bool). b || zero_among (m / 2) vs)
    (by_bit (λ (b : ℕ). ltb (bit_of 1 v) b ≡ (eqb b 1 && eqb v 0)) m (le-ltb (bit_of 1 v) 0 (omega arith))
    (by_test (eqb v 0) (λ z. rw z refl) (λ ne. rw ne refl))))

no_bit : (v : ℕ) → bit_of 0 v ≡ 0
no_bit v = by_zero v (bit_is_zero 0 v) (bit_is_has 0 v)

pub kept_same : (mask : ℕ) (vs : List ℕ) → Keeps mask vs → kept mask vs ≡ vs
kept_same mask [] k = refl
kept_same mask (v ∷ vs) k =
    ap₂ ◌∷◌
    (by_bit (λ (b : ℕ). (b ≡ 0 → v ≡ 0) → cond (eqb b 1) v 0 ≡ v) mask (λ z. sym (z refl)) (λ z. refl) k.0)
    (kept_same (mask / 2) vs k.1)

pub kept_map : (mask : ℕ) (vs : List ℕ) → map_of mask (kept mask vs) ≡ map_of mask vs
unfolding map_of
kept_map mask [] = refl
kept_map mask (v ∷ vs) =
    ap₂ (λ (b m : ℕ). b + 2 * m)
    (by_bit (λ (b : ℕ). bit_of b (cond (eqb b 1) v 0) ≡ bit_of b v) mask (sym (no_bit v)) refl)
    (kept_map (mask / 2) vs)

pub kept_bytes : (ws vs : List ℕ) (mask : ℕ) → field_bytes ws (map_of mask vs) (kept mask vs) ≡ field_bytes ws (map_of mask vs) vs
unfolding field_bytes low_first
kept_bytes [] vs mask = refl
kept_bytes (w ∷ ws) [] mask = refl
kept_bytes (w ∷ ws) (v ∷ vs) mask =
    rw (map_head mask v vs, map_tail mask v vs)
    (ap₂ ◌++◌
    (by_bit (λ (b : ℕ). low_first (bit_of b v * w) (cond (eqb b 1) v 0) ≡ low_first (bit_of b v * w) v) mask
    (rw (no_bit v, zero-mul w))
    refl)
    (kept_bytes ws vs (mask / 2)))

-- ---- what is written

pub map_marks : (mask : ℕ) (vs : List ℕ) → Keeps mask vs → Marks (map_of mask vs) vs
map_marks mask [] k = tt
map_marks mask (v ∷ vs) k = (
  by_zero v
      (λ e. map_head mask v vs ∙ bit_is_zero (mask % 2) v e ∙ sym (bit_is_zero 1 v e))
      (λ ne.
      let odd : mask % 2 ≡ 1 = one_of (mask % 2) (mod-lt mask (lit< tt)) (λ e. ne (k.0 e)) in
      map_head mask v vs ∙ bit_is_has (mask % 2) v ne ∙ odd ∙ sym (bit_is_has 1 v ne)),
  subst (λ (m : ℕ). Marks m vs) (sym (map_tail mask v vs)) (map_marks (mask / 2) vs k.1),
)
  where
    one_of : (b : ℕ) → b < 2 → (b ≡ 0 → ⊥) → b ≡ 1
    one_of b h ne = omega arith

pub asks_no_more : (ws vs : List ℕ) (mask : ℕ) → length ws ≡ length vs → asks_more ws (map_of mask vs) mask ≡ false
unfolding asks_more
asks_no_more [] vs mask e = refl
asks_no_more (w ∷ ws) [] mask e = absurd (omega arith)
asks_no_more (w ∷ ws) (v ∷ vs) mask e =
    rw (map_head mask v vs, map_tail mask v vs, le-ltb (mask % 2) (bit_of (mask % 2) v) (at_most v))
    (asks_no_more ws vs (mask / 2) (omega arith))
  where
    at_most : (v : ℕ) → bit_of (mask % 2) v ≤ mask % 2
    at_most v =
        by_zero v
        (λ e. rw (bit_is_zero (mask % 2) v e) (omega arith))
        (λ ne. rw (bit_is_has (mask % 2) v ne) (omega arith))

pub none_zero : (m : ℕ) (vs : List ℕ) → Marks m vs → zero_among m vs ≡ false
unfolding zero_among
none_zero m [] k = refl
none_zero m (v ∷ vs) k =
    by_zero v
    (λ e. rw (k.0 ∙ bit_is_zero 1 v e) (none_zero (m / 2) vs k.1))
    (λ ne. rw (ne_eqb v 0 ne, and-false) (none_zero (m / 2) vs k.1))

-- one field, with its bit: what was written is read
field_back : (w v b : ℕ) → b ≡ bit_of 1 v → v < 256 ^ w → low_number (low_first (b * w) v) ≡ v
unfolding low_number low_first
field_back w v b e h =
    by_zero v
    (λ z. rw (e ∙ bit_is_zero 1 v z, zero-mul w, z))
    (λ ne. rw (e ∙ bit_is_has 1 v ne, one-mul w) (low_back w v h))

-- the fields that were written from a place on are read from it
pub values_back : (ws vs : List ℕ) (m : ℕ) (s : List ℕ) (at : ℕ) (rest : List ℕ)
    → length ws ≡ length vs → Fit ws vs → Marks m vs
    → drop at s ≡ field_bytes ws m vs ++ rest
    → values_at ws m s at ≡ vs
unfolding values_at field_bytes
values_back [] [] m s at rest e fit k there = refl
values_back [] (v ∷ vs) m s at rest e fit k there = absurd (omega arith)
values_back (w ∷ ws) [] m s at rest e fit k there = absurd (omega arith)
values_back (w ∷ ws) (v ∷ vs) m s at rest e fit k there =
    let size = m % 2 * w in
    let field = low_first size v in
    let long = low_length size v in
    let more = field_bytes ws (m / 2) vs ++ rest in
    let split : drop at s ≡ field ++ more = there ∙ append_assoc field (field_bytes ws (m / 2) vs) rest in
    let here = ap (take size) split ∙ take_at field more size long in
    let beyond = sym (drop-drop size at s) ∙ ap (drop size) split ∙ drop_at field more size long in
    ap₂ ◌∷◌
    (ap low_number here ∙ field_back w v (m % 2) k.0 fit.0)
    (values_back ws vs (m / 2) s (at + m % 2 * w) rest (omega arith) fit.1 k.1 beyond)

-- ---- what is read

-- one field, with its bit: a field that is read is 0 exactly where its bit does not stand
field_mark : (w b : ℕ) (s : List ℕ) → b < 2 → (eqb b 1 && eqb (low_number (take (b * w) s)) 0) ≡ false
    → b ≡ bit_of 1 (low_number (take (b * w) s))
unfolding low_number
field_mark w zero s h e = rw (zero-mul w)
field_mark w (suc zero) s h e = rw e
field_mark w (suc (suc b)) s h e = absurd (omega arith)

-- one field: its bit is that of the map where the kind has the field
bit_again : (b has v : ℕ) → b ≡ bit_of 1 v → b ≤ has → has < 2 → bit_of has v ≡ b
bit_again b has v e h small =
    by_zero v
    (λ z. bit_is_zero has v z ∙ sym (e ∙ bit_is_zero 1 v z))
    (λ ne. let one = e ∙ bit_is_has 1 v ne in bit_is_has has v ne ∙ omega arith)

-- one field, with its bit: it fits its width
field_fit : (w b : ℕ) (s : List ℕ) → b < 2 → Bytes s → low_number (take (b * w) s) < 256 ^ w
field_fit w zero s h bytes = rw (zero-mul w, low_none s) (one-le-pow w 256 (lit< tt))
field_fit w (suc zero) s h bytes =
    let short : length (take w s) ≤ w = omega (arith, length-take w s) in
    rw (one-mul w)
    (lt_of_lt_of_le (low_bound (take w s) (bytes_take w s bytes)) (pow-le-pow_right (lit< tt) short))
field_fit w (suc (suc b)) s h bytes = absurd (omega arith)

pub values_mark : (ws : List ℕ) (m : ℕ) (s : List ℕ) (at : ℕ)
    → zero_among m (values_at ws m s at) ≡ false → Marks m (values_at ws m s at)
unfolding zero_among values_at
values_mark [] m s at e = tt
values_mark (w ∷ ws) m s at e =
    let v = low_number (take (m % 2 * w) (drop at s)) in
    let others = values_at ws (m / 2) s (at + m % 2 * w) in
    let here = neither_left (eqb (m % 2) 1 && eqb v 0) (zero_among (m / 2) others) e in
    let beyond = neither_right (eqb (m % 2) 1 && eqb v 0) (zero_among (m / 2) others) e in
    (field_mark w (m % 2) (drop at s) (mod-lt m (lit< tt)) here, values_mark ws (m / 2) s (at + m % 2 * w) beyond)

pub values_fit_lem : (ws : List ℕ) (m : ℕ) (s : List ℕ) (at : ℕ) → Bytes s → Fit ws (values_at ws m s at)
unfolding values_at
values_fit_lem [] m s at bytes = tt
values_fit_lem (w ∷ ws) m s at bytes = (
  field_fit w (m % 2) (drop at s) (mod-lt m (lit< tt)) (bytes_drop at s bytes),
  values_fit_lem ws (m / 2) s (at + m % 2 * w) bytes,
)

pub map_again : (ws vs : List ℕ) (m mask : ℕ) → length ws ≡ length vs → m < 2 ^ length vs
    → Marks m vs → asks_more ws m mask ≡ false → map_of mask vs ≡ m
unfolding asks_more map_of
map_again [] [] m mask e h k a = omega arith
map_again [] (v ∷ vs) m mask e h k a = absurd (omega arith)
map_again (w ∷ ws) [] m mask e h k a = absurd (omega arith)
map_again (w ∷ ws) (v ∷ vs) m mask e h k a =
    let more = asks_more ws (m / 2) (mask / 2) in
    let within = ltb-false (mask % 2) (m % 2) (neither_left (ltb (mask % 2) (m % 2)) more a) in
    let beyond = neither_right (ltb (mask % 2) (m % 2)) more a in
    let small : m / 2 < 2 ^ length vs = omega (arith, two-pow-succ (length vs)) in
    omega (
      arith,
      bit_again (m % 2) (mask % 2) v k.0 within (mod-lt mask (lit< tt)),
      map_again ws vs (m / 2) (mask / 2) (omega arith) small k.1 beyond,
    )

pub values_keep : (ws vs : List ℕ) (m mask : ℕ) → length ws ≡ length vs
    → Marks m vs → asks_more ws m mask ≡ false → Keeps mask vs
unfolding asks_more
values_keep [] [] m mask e k a = tt
values_keep [] (v ∷ vs) m mask e k a = absurd (omega arith)
values_keep (w ∷ ws) [] m mask e k a = tt
values_keep (w ∷ ws) (v ∷ vs) m mask e k a =
    let more = asks_more ws (m / 2) (mask / 2) in
    let within = ltb-false (mask % 2) (m % 2) (neither_left (ltb (mask % 2) (m % 2)) more a) in
    let beyond = neither_right (ltb (mask % 2) (m % 2)) more a in (
      (λ lacks. by_zero v (λ z. z) (λ ne. let one = k.0 ∙ bit_is_has 1 v ne in absurd (omega arith))),
      values_keep ws vs (m / 2) (mask / 2) (omega arith) k.1 beyond,
    )

pub bytes_again : (ws : List ℕ) (m : ℕ) (s : List ℕ) (at : ℕ) → Bytes s → at + fields_length ws m ≤ length s
    → field_bytes ws m (values_at ws m s at) ≡ take (fields_length ws m) (drop at s)
unfolding field_bytes values_at fields_length
bytes_again [] m s at b h = refl
bytes_again (w ∷ ws) m s at b h =
    let k = m % 2 * w in
    let n = fields_length ws (m / 2) in
    let here = take k (drop at s) in
    let long : length here ≡ k = length-take-le k (drop at s) (omega (arith, length-drop at s)) in
    let again = low_again here (bytes_take k (drop at s) (bytes_drop at s b)) in
    ap₂ ◌++◌ (rw long at again) (bytes_again ws (m / 2) s (at + k) b (omega arith))
    ∙ sym (take-add k n (drop at s) ∙ ap (λ (r : List ℕ). here ++ take n r) (drop-drop k at s))
