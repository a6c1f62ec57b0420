-- Ask (SPEC, "Ask and Put"): 3 the room, 4 the server, 17 no slot is free. It changes no cell.
use Rattle.std.specs.Prelude.{ℕ, zero, suc, Bool, cond, List, ltb, Option, Some, None, Result, Ok, Err}
use Rattle.checks.specs.declared.Refusal.{Refusal}
use Rattle.checks.specs.declared.Refusal.TheVariants.{OutOfRange, BeyondRoom, NoSlotFree}
use Rattle.checks.specs.Checks.{Checked, Must, Gives, outcome}
use Rattle.state.specs.declared.Sizes.{Sizes}
use Rattle.state.specs.Server.{is_free}
use Rattle.layout.specs.Cells.{sizes_of, server_of}
use Rattle.range.specs.Range.{in_range}

-- slot s is free for server p
unfoldable pub free_at : Sizes → List ℕ → ℕ → ℕ → Bool
free_at z cells p s = is_free (server_of z cells s p)

-- the first of the n numbers from s on at which f holds; the one after them where none does
unfoldable pub first_from : (ℕ → Bool) → ℕ → ℕ → ℕ
first_from f s zero = s
first_from f s (suc n) = cond (f s) s (first_from f (suc s) n)

-- the lowest slot that is free for server p; the number of slots where none is
unfoldable pub lowest_free : Sizes → List ℕ → ℕ → ℕ
lowest_free z cells p = first_from (free_at z cells p) 0 z.slots

-- the same; none where no slot is free
abbrev pub first_free : Sizes → List ℕ → ℕ → Option ℕ
first_free z cells p = cond (ltb (lowest_free z cells p) z.slots) (Some (lowest_free z cells p)) None

unfoldable pub ask_checks : List ℕ → ℕ → Checked ℕ
ask_checks cells p =
    Must (in_range cells) OutOfRange
    (Must (ltb p (sizes_of cells).servers) BeyondRoom
    (Must (ltb (lowest_free (sizes_of cells) cells p) (sizes_of cells).slots) NoSlotFree
    (Gives (lowest_free (sizes_of cells) cells p))))

-- what ask answers: the slot
unfoldable pub asked : List ℕ → ℕ → Result ℕ Refusal
asked cells p = outcome (ask_checks cells p)

-- the slot that is named; a refusal names none
abbrev pub slot_named : Result ℕ Refusal → ℕ
slot_named (Ok s) = s
slot_named (Err refusal) = 0
