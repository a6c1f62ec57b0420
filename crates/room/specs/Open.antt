-- Open (SPEC, "The room in memory", "Who can bring which number"): 1 sizes, 2 length, of
-- the row and of the limits, 18 limits; old cells are not heeded.
use Rattle.std.specs.Prelude.{ℕ, ◌-◌, ⊤, ◌&&◌, List, ◌∷◌, ◌++◌, length, replicate, eqb, Result}
use Rattle.command.specs.Command.{cabinets, limits_fit}
use Rattle.checks.specs.declared.Refusal.{Refusal}
use Rattle.checks.specs.declared.Refusal.TheVariants.{SizesUnfit, WrongLength, LimitsUnfit}
use Rattle.checks.specs.Checks.{Checked, Must, Gives, outcome, left_by}
use Rattle.state.specs.declared.Sizes.{Sizes}
use Rattle.layout.specs.Places.{base, sizes_fit, room_length}

unfoldable pub open_checks : Sizes → List ℕ → List ℕ → Checked ⊤
open_checks z limits cells =
    Must (sizes_fit z) SizesUnfit
    (Must (eqb (length cells) (room_length z) && eqb (length limits) cabinets) WrongLength
    (Must (limits_fit limits) LimitsUnfit
    (Gives tt)))

-- what open answers
unfoldable pub opening : Sizes → List ℕ → List ℕ → Result ⊤ Refusal
opening z limits cells = outcome (open_checks z limits cells)

-- a room just opened: N, D, S, no off mark, the limits, and every other cell 0
unfoldable pub opened_cells : Sizes → List ℕ → List ℕ
opened_cells z limits = z.servers ∷ z.drives ∷ z.slots ∷ 0 ∷ (limits ++ replicate (room_length z - base) 0)

-- the row afterwards: the room, or as it was where the call is refused
unfoldable pub opened : Sizes → List ℕ → List ℕ → List ℕ
opened z limits cells = left_by (λ _. opened_cells z limits) cells (opening z limits cells)
