-- Commands (SPEC, "The commands").
use Rattle.std.specs.Prelude.{ℕ, ◌/◌, ◌%◌, Bool, ◌&&◌, ◌||◌, List, [], ◌∷◌, get_or, eqb, leb}
use Rattle.std.specs.List.{list_all}

abbrev pub kind_of : ℕ → ℕ
kind_of v = v / 65536

abbrev pub piece_of : ℕ → ℕ
piece_of v = v / 256 % 256

abbrev pub hoard_of : ℕ → ℕ
hoard_of v = v % 256

abbrev pub enter : ℕ
enter = 1

abbrev pub move : ℕ
move = 2

abbrev pub strike : ℕ
strike = 3

-- there are eight cabinets, each with the largest hoard of its pieces as its limit
abbrev pub cabinets : ℕ
cabinets = 8

-- limits that a room may have: each is a hoard, 1 to 255
unfoldable pub limits_fit : List ℕ → Bool
limits_fit limits = list_all (λ limit. leb 1 limit && leb limit 255) limits

-- 01's limits of cabinets 0 to 7
abbrev pub cabinet_limits : List ℕ
cabinet_limits = 255 ∷ 255 ∷ 200 ∷ 200 ∷ 120 ∷ 120 ∷ 60 ∷ 60 ∷ []

-- the largest hoard of a piece's cabinet, by a table of eight limits
unfoldable pub limit_of : List ℕ → ℕ → ℕ
limit_of limits piece = get_or limits (piece / 8) 0

-- the hoards that a command of this kind may have
unfoldable pub hoard_fits : List ℕ → ℕ → ℕ → ℕ → Bool
hoard_fits limits kind piece hoard =
    ((eqb kind enter || eqb kind move) && leb 1 hoard && leb hoard (limit_of limits piece))
    || (eqb kind strike && eqb hoard 0)

-- v is a command by a table of eight limits; zero is none
unfoldable pub is_command : List ℕ → ℕ → Bool
is_command limits v = leb (piece_of v) 63 && hoard_fits limits (kind_of v) (piece_of v) (hoard_of v)
