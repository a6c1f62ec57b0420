-- The table by which all cells of a room are judged. That it says what `is_command` says is the law `value_by_table`.
use Rattle.std.specs.Prelude.{ℕ, zero, suc, ◌+◌, ◌/◌, ◌%◌, Bool, ◌&&◌, ◌||◌, cond, List, [], ◌∷◌, get_or, eqb, leb, ltb}
use Rattle.command.specs.Command.{enter, move, hoard_of}

-- a limit as far as a hoard, which is one byte, can reach it
abbrev pub byte_of : ℕ → ℕ
byte_of limit = cond (ltb limit 255) limit 255

-- the largest hoard of the commands with v / 2048 ≡ w: w / 32 is their kind and w % 32 their cabinet, if there is one
unfoldable pub top_of : List ℕ → ℕ → ℕ
top_of limits w = cond ((eqb (w / 32) enter || eqb (w / 32) move) && ltb (w % 32) 8) (byte_of (get_or limits (w % 32) 0)) 0

-- f at i and at the n - 1 numbers after it
unfoldable pub listed : (ℕ → ℕ) → ℕ → ℕ → List ℕ
listed f i zero = []
listed f i (suc n) = f i ∷ listed f (i + 1) n

abbrev pub tops_of : List ℕ → List ℕ
tops_of limits = listed (top_of limits) 0 96

-- v is 0, or a strike of a piece below 64, or enter or move by the table
unfoldable pub value_by : List ℕ → ℕ → Bool
value_by tops v =
    eqb v 0
    || cond (leb 196608 v) (eqb (hoard_of v) 0 && eqb (v / 16384) 12) (leb 1 (hoard_of v) && leb (hoard_of v) (get_or tops (v / 2048) 0))
