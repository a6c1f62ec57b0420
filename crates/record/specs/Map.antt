-- The map byte, and what it says of the fields that follow (SPEC, "Step records"). Each definition goes through the
-- fields in the order of their bits: the low bit of a map is the first field's, its half is the map of the others.
use Rattle.std.specs.Prelude.{ℕ, ◌≡◌, ◌+◌, ◌*◌, ◌/◌, ◌%◌, ◌<◌, ◌≤◌, Bool, false, ◌&&◌, ◌||◌, cond, List, [], ◌∷◌, eqb, ltb, Result, MatchResult}
use Rattle.checks.specs.declared.Refusal.{Refusal}
use Rattle.checks.specs.declared.Refusal.TheVariants.{Malformed}
use Rattle.record.specs.Fields.{mask_of}

-- how many bytes each field takes
abbrev pub widths : List ℕ
widths = 1 ∷ 1 ∷ 1 ∷ 1 ∷ 4 ∷ []

-- the bit of a field v: has is 1 where the kind has the field, else 0
abbrev pub bit_of : ℕ → ℕ → ℕ
bit_of has v = cond (eqb v 0) 0 has

-- the bits of the fields that are not 0
unfoldable pub marks_of : List ℕ → ℕ
marks_of [] = 0
marks_of (v ∷ vs) = bit_of 1 v + 2 * marks_of vs

-- the map of these fields, of a kind that has the fields of the mask
unfoldable pub map_of : ℕ → List ℕ → ℕ
map_of mask [] = 0
map_of mask (v ∷ vs) = bit_of (mask % 2) v + 2 * map_of (mask / 2) vs

-- how many bytes the fields take that a map asks for
unfoldable pub fields_length : List ℕ → ℕ → ℕ
fields_length [] map = 0
fields_length (w ∷ ws) map = map % 2 * w + fields_length ws (map / 2)

-- with the map byte and the kind byte
unfoldable pub record_length : ℕ → ℕ
record_length map = 2 + fields_length widths map

-- a bit of the map stands whose field the kind lacks
unfoldable pub asks_more : List ℕ → ℕ → ℕ → Bool
asks_more [] map mask = false
asks_more (w ∷ ws) map mask = ltb (mask % 2) (map % 2) || asks_more ws (map / 2) (mask / 2)

-- the kind is none of the ten
abbrev pub unknown : ℕ → Bool
unknown kind = eqb kind 0 || ltb 10 kind

-- the result is the map that a byte is, or a refusal where it is none
abbrev pub IsMap : ℕ → Result ℕ Refusal → Type 0
IsMap byte r = MatchResult r (λ map. (map ≡ byte) × (map < 32)) (λ refusal. (refusal ≡ Malformed) × (32 ≤ byte))

-- no record of this kind has this map
unfoldable pub malformed : ℕ → ℕ → Bool
malformed map kind = unknown kind || asks_more widths map (mask_of kind)

-- a bit of the map stands whose field is 0
unfoldable pub zero_among : ℕ → List ℕ → Bool
zero_among map [] = false
zero_among map (v ∷ vs) = (eqb (map % 2) 1 && eqb v 0) || zero_among (map / 2) vs
