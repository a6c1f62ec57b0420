-- What a room may hold (SPEC, "The room in memory"): its shape, which is how long its lists are, and apart from it what they
-- hold.
use Rattle.std.specs.Prelude.{ℕ, Bool, ◌&&◌, length, ◌==◌}
use Rattle.std.specs.List.{list_all}
use Rattle.command.specs.Command.{cabinets, limits_fit}
use Rattle.quorum.specs.Sets.{within}
use Rattle.state.specs.declared.Sizes.{Sizes}
use Rattle.layout.specs.Places.{sizes_fit}
use Rattle.range.specs.Range.{legal_drives, masks_of, value_fits, server_fits, block_fits}
use Rattle.model.specs.Room.{SlotState, Room}

-- a record of each server, and of each drive a block of each server
unfoldable pub slot_shaped : Sizes → SlotState → Bool
slot_shaped z v =
    (length v.servers == z.servers)
    && ((length v.drives == z.drives) && list_all (λ blocks. length blocks == z.servers) v.drives)

-- sizes that fit, the limit of each cabinet, and as many slots as the sizes say
unfoldable pub shaped : Room → Bool
shaped r =
    sizes_fit r.sizes
    && ((length r.limits == cabinets) && ((length r.slots == r.sizes.slots) && list_all (slot_shaped r.sizes) r.slots))

-- the records and blocks of a slot are in range; value says what may be held in the place of a command
abbrev pub slot_fits_by : (ℕ → Bool) → Sizes → SlotState → Bool
slot_fits_by value z v =
    list_all (server_fits value (masks_of z)) v.servers && list_all (list_all (block_fits value)) v.drives

-- the limits, the off marks and the slots of a room are in range, by the same test
unfoldable pub fits_by : (ℕ → Bool) → Room → Bool
fits_by value r =
    limits_fit r.limits
    && (within r.off (legal_drives r.sizes) && list_all (slot_fits_by value r.sizes) r.slots)

-- a room is in range by its own limits: what is held in the place of a command is 0 or one
abbrev pub fits : Room → Bool
fits r = fits_by (value_fits r.limits) r
