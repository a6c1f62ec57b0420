-- A mark cell is a 32-bit number read bit by bit (SPEC, "The room in memory").
use Rattle.std.specs.Prelude.{ℕ, ◌+◌, ◌-◌, ◌/◌, ◌%◌, ◌^◌, Bool, not, ◌&&◌, cond, eqb, ltb}

-- bit i of the mark cell m stands
unfoldable pub stands : ℕ → ℕ → Bool
stands m i = eqb (m / 2 ^ i % 2) 1

-- the cell with bit i set; a cell has no bit 32 or above to set
unfoldable pub marked : ℕ → ℕ → ℕ
marked m i = cond (ltb i 32 && not (stands m i)) (m + 2 ^ i) m

-- the cell with bit i removed
unfoldable pub unmarked : ℕ → ℕ → ℕ
unmarked m i = cond (stands m i) (m - 2 ^ i) m
