-- Sets of drives, their size, and majority (SPEC, "The room in memory").
use Rattle.std.specs.Prelude.{ℕ, zero, suc, ◌+◌, ◌*◌, ◌^◌, ◌<◌, ◌≡◌, Bool, true, not, ◌&&◌, ◌||◌, cond, eqb, ltb}
use Rattle.quorum.specs.Marks.{stands}

-- f holds of every number below n
unfoldable pub all_below : ℕ → (ℕ → Bool) → Bool
all_below zero f = true
all_below (suc n) f = all_below n f && f n

-- how many drives below n the set has
unfoldable pub size : ℕ → (ℕ → Bool) → ℕ
size zero set = 0
size (suc n) set = size n set + cond (set n) 1 0

-- the mark cell in which exactly the bits of the set stand, below n
unfoldable pub gathered : ℕ → (ℕ → Bool) → ℕ
gathered zero set = 0
gathered (suc n) set = gathered n set + cond (set n) (2 ^ n) 0

-- what a test answers of a number below 32, which may be a bit of a cell, is what the set says
abbrev pub Tells : (ℕ → Bool → Type 0) → (ℕ → Bool) → Type 0
Tells answers set = (d : ℕ) (r : Bool) → d < 32 → answers d r → r ≡ set d

-- more than half of the drives, or exactly half of them with drive 0 in the set; without drives there is no drive 0
unfoldable pub majority : ℕ → (ℕ → Bool) → Bool
majority drives set =
    ltb drives (2 * size drives set) || (eqb drives (2 * size drives set) && (ltb 0 drives && set 0))

-- every bit that stands in a mark cell stands in the cell of legal marks too
unfoldable pub within : ℕ → ℕ → Bool
within m legal = all_below 32 (λ i. not (stands m i) || stands legal i)
