-- Laws of the range rule: the order of its tests, and what it says of each record and block, whatever the test of a value;
-- that a value is 0 or a command by the room's limits is one such test.
use Prim.Native.Nat.{ℕ, ◌+◌, ◌*◌, ◌<◌}
use mathlib.Core.Path.{◌≡◌, ◌∙◌, sym, ap₂, subst}
use mathlib.Core.Bool.{Bool, true, false, ◌&&◌}
use mathlib.Core.List.{List}
use Rattle.lemmas.proofs.Tests.{and_left, and_right, and_intro, none_left, none_right}
use Rattle.command.specs.Command.{limits_fit}
use Rattle.quorum.specs.Sets.{all_below, within}
use Rattle.quorum.proofs.AllBelow.{all_at, all_intro}
use Rattle.state.specs.declared.Sizes.{Sizes}
use Rattle.layout.specs.Places.{nth_block_at, block_at, Row}
use Rattle.layout.specs.Cells.{sizes_of, is_row, off_of, limits_of, server_of, block_of, block_in}
use Rattle.layout.proofs.PlaceLaws.{nth_of}
use Rattle.layout.proofs.RoomLaws.{row_says, says_row}
use Rattle.range.specs.Range.{legal_drives, masks_of, value_fits, server_fits, block_fits, servers_fit, blocks_fit, slot_fits, room_fits_by, room_fits, in_range}

-- a row that is no room, and one that is
pub no_row : (r : List ℕ) → is_row r ≡ false → in_range r ≡ false
unfolding in_range
no_row r e = simp e

pub row_in : (r : List ℕ) → is_row r ≡ true → in_range r ≡ room_fits (limits_of r) (sizes_of r) r
unfolding in_range
row_in r e = simp e

-- a row with a limit that is no hoard is not in range
pub unfit_limits : (r : List ℕ) → limits_fit (limits_of r) ≡ false → in_range r ≡ false
unfolding in_range room_fits
unfit_limits r e = none_right (is_row r) _ (none_left (limits_fit (limits_of r)) _ e)

-- a row whose parts are in range by a test of a value, part by part
pub record InRange (limits : List ℕ) (value : ℕ → Bool) (z : Sizes) (r : List ℕ) : Type 0 where
  pub row : Row z r
  pub hoards : limits_fit limits ≡ true
  pub off : within (off_of r) (legal_drives z) ≡ true
  pub servers : (s p : ℕ) → s < z.slots → p < z.servers → server_fits value (masks_of z) (server_of z r s p) ≡ true
  pub nths : (s k : ℕ) → s < z.slots → k < z.drives * z.servers → block_fits value (block_in r (nth_block_at z s k)) ≡ true

module _ (limits : List ℕ) (value : ℕ → Bool) (z : Sizes) (r : List ℕ) where
  pub block_fits_lem
      : InRange limits value z r → (s d p : ℕ) → s < z.slots → d < z.drives → p < z.servers
      → block_fits value (block_of z r s d p) ≡ true
  unfolding block_of block_at
  block_fits_lem i s d p h l k = i.nths s (d * z.servers + p) h (nth_of z i.row.fit d p l k)

  pub cells_say : Row z r → room_fits_by value limits z r ≡ true → InRange limits value z r
  unfolding slot_fits servers_fit blocks_fit
  cells_say row e =
      let hoards = limits_fit limits in
      let off = within (off_of r) (legal_drives z) in
      let slots = all_below z.slots (slot_fits value z r) in
      let rest = and_right hoards (off && slots) e in
      let slot = all_at z.slots (slot_fits value z r) (and_right off slots rest) in
      record {
        row = row;
        hoards = and_left hoards (off && slots) e;
        off = and_left off slots rest;
        servers =
            λ s p h l.
            all_at z.servers (λ q. server_fits value (masks_of z) (server_of z r s q))
            (and_left (servers_fit value z r s) (blocks_fit value z r s) (slot s h)) p l;
        nths =
            λ s k h l.
            all_at (z.drives * z.servers) (λ j. block_fits value (block_in r (nth_block_at z s j)))
            (and_right (servers_fit value z r s) (blocks_fit value z r s) (slot s h)) k l;
      }

  say_cells : InRange limits value z r → room_fits_by value limits z r ≡ true
  unfolding slot_fits servers_fit blocks_fit
  say_cells i =
      let off = within (off_of r) (legal_drives z) in
      let slots = all_below z.slots (slot_fits value z r) in
      and_intro (limits_fit limits) (off && slots) i.hoards
      (and_intro off slots i.off
      (all_intro z.slots (slot_fits value z r)
      (λ s h.
      and_intro (servers_fit value z r s) (blocks_fit value z r s)
      (all_intro z.servers (λ q. server_fits value (masks_of z) (server_of z r s q)) (λ p l. i.servers s p h l))
      (all_intro (z.drives * z.servers) (λ j. block_fits value (block_in r (nth_block_at z s j))) (λ k l. i.nths s k h l)))))

-- a row in range, by the room's own test of a value
abbrev pub Ranged : List ℕ → Sizes → List ℕ → Type 0
Ranged limits = InRange limits (value_fits limits)

pub range_says : (r : List ℕ) → in_range r ≡ true → Ranged (limits_of r) (sizes_of r) r
unfolding in_range room_fits
range_says r e =
    let limits = limits_of r in
    let z = sizes_of r in
    let fits = room_fits_by (value_fits limits) limits z r in
    cells_say limits (value_fits limits) z r (row_says r (and_left (is_row r) fits e)) (and_right (is_row r) fits e)

pub Says-range
    : (limits : List ℕ) (z : Sizes) (r : List ℕ) → limits ≡ limits_of r → z ≡ sizes_of r → Ranged limits z r
    → in_range r ≡ true
unfolding room_fits
Says-range limits z r l e i =
    let row = says_row r (subst (λ (y : Sizes). Row y r) e i.row) in
    row_in r row ∙ ap₂ (λ (k : List ℕ) (y : Sizes). room_fits k y r) (sym l) (sym e) ∙ say_cells limits (value_fits limits) z r i
