-- The sizes of a room, and the places that it has (SPEC, "The room in memory").
use Rattle.std.specs.Prelude.{ℕ, Bool, ◌&&◌, ltb}
use Rattle.state.specs.declared.Sizes.{Sizes}

abbrev pub sizes : ℕ → ℕ → ℕ → Sizes
sizes servers drives slots = record { servers = servers; drives = drives; slots = slots }

-- server p and slot s are in the room
abbrev pub in_room : Sizes → ℕ → ℕ → Bool
in_room z p s = ltb p z.servers && ltb s z.slots

abbrev pub drive_fits : Sizes → ℕ → Bool
drive_fits z d = ltb d z.drives
