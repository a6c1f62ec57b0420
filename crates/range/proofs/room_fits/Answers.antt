-- `range::room_fits` meets its contract: the limits, the off marks, then the slots, by the masks and the table that the code has.
use Prim.Native.Nat.{ℕ, ◌*◌, ◌-◌}
use mathlib.Core.Path.{◌≡◌, ◌∙◌, sym, ap}
use mathlib.Core.Bool.{Bool}
use mathlib.Core.List.{List}
use native.Mathlib.Omega.{arith}
use lib.ListN.{length, take, drop}
use Rattle.lemmas.proofs.Tests.{none_left, goes_on}
use Rattle.std.specs.List.{list_all}
use Rattle.std.proofs.lemmas.List.{take_all, length-drop}
use Rattle.command.specs.Command.{limits_fit}
use Rattle.command.specs.Tops.{tops_of, value_by}
use Rattle.quorum.specs.Sets.{all_below, within}
use Rattle.state.specs.declared.Sizes.{Sizes}
use Rattle.layout.specs.Places.{base, server_length, slot_length, Row}
use Rattle.layout.specs.Cells.{off_of, limits_of}
use Rattle.layout.proofs.PlaceLaws.{row_head}
use Rattle.range.specs.declared.Masks.{Masks}
use Rattle.range.specs.Range.{legal_drives, masks_of, value_fits, slot_fits, room_fits, chunks, slot_in}
use Rattle.range.proofs.Together.{by_table}
use Rattle.range.proofs.Slots.{slots_as_rule}
use Rattle.range.proofs.room_fits.Goals as goal

-- what the test of the off marks has judged: by the masks that the code has
off : (z : Sizes) (k : Masks) (marks : ℕ) (x : Bool) → k ≡ masks_of z → x ≡ within marks k.drives → x ≡ within marks (legal_drives z)
off z k marks x e judged = judged ∙ ap (λ (m : Masks). within marks m.drives) e

-- what the test of the limits has judged: those that were read
hoards_fit : (limits read : List ℕ) (x : Bool) → read ≡ limits → x ≡ limits_fit read → x ≡ limits_fit limits
hoards_fit limits read x e judged = judged ∙ ap limits_fit e

-- the slots of the row, judged each as a row of its own and by the table of the limits
slots
    : (limits : List ℕ) (z : Sizes) (row tops : List ℕ) (k : Masks) (y : Sizes) (x : Bool) → Row z row → tops ≡ tops_of limits
    → k ≡ masks_of z → y ≡ z
    → x ≡ list_all (slot_in (value_by tops) k (server_length * y.servers)) (chunks (slot_length y) (take (length row - base) (drop base row)))
    → x ≡ all_below z.slots (slot_fits (value_fits limits) z row)
slots limits z row tops k y x r e f h judged =
    let whole : take (length row - base) (drop base row) ≡ drop base row
    = take_all (length row - base) (drop base row) (omega (arith, length-drop base row)) in
    judged
    ∙ (λ i. list_all (slot_in (value_by (e i)) (f i) (server_length * (h i).servers)) (chunks (slot_length (h i)) (whole i)))
    ∙ slots_as_rule (value_by (tops_of limits)) z row r
    ∙ ap (λ (value : ℕ → Bool). all_below z.slots (slot_fits value z row)) (by_table limits)

pub slice_bounds-slots_fit-count : goal.slice_bounds-slots_fit-count
slice_bounds-slots_fit-count c = row_head c.args.room.now.sizes c.args.room.now.cells.now c.args.room.now.row

pub slice_bounds-slots_fit-start : goal.slice_bounds-slots_fit-start
slice_bounds-slots_fit-start c = row_head c.args.room.now.sizes c.args.room.now.cells.now c.args.room.now.row

pub returns-then-not-fit : goal.returns-then-not-fit
unfolding room_fits
returns-then-not-fit c =
    let room = c.args.room.now in
    let hoards = hoards_fit (limits_of room.cells.now) _ _ c.limits-limits.ensures c.fit.ensures in
    sym (none_left _ _ (sym hoards ∙ c.if-not-fit.true))

pub returns-then-only_legal : goal.returns-then-only_legal
unfolding room_fits
returns-then-only_legal c =
    let room = c.args.room.now in
    let cells = room.cells.now in
    let same = c.plan-plan.ensures in
    let masks = c.masks_of.ensures ∙ ap masks_of same in
    let judged = off room.sizes c.masks_of.result (off_of cells) _ masks
    (c.only_legal.ensures ∙ ap (λ (m : ℕ). within m c.masks_of.result.drives) c.off.ensures) in
    let hoards = hoards_fit (limits_of cells) _ _ c.limits-limits.ensures c.fit.ensures in
    goes_on _ _ _ (sym hoards ∙ c.if-not-fit.false)
    (goes_on _ _ _ (sym judged ∙ c.if-only_legal.true)
    (slots (limits_of cells) room.sizes cells _ _ _ _ room.row (c.tops.ensures ∙ ap tops_of c.limits-limits.ensures) masks same c.slots_fit.ensures))

pub returns-else-only_legal : goal.returns-else-only_legal
unfolding room_fits
returns-else-only_legal c =
    let room = c.args.room.now in
    let cells = room.cells.now in
    let masks = c.masks_of.ensures ∙ ap masks_of c.plan-plan.ensures in
    let judged = off room.sizes c.masks_of.result (off_of cells) _ masks
    (c.only_legal.ensures ∙ ap (λ (m : ℕ). within m c.masks_of.result.drives) c.off.ensures) in
    let hoards = hoards_fit (limits_of cells) _ _ c.limits-limits.ensures c.fit.ensures in
    goes_on _ _ _ (sym hoards ∙ c.if-not-fit.false)
    (c.if-only_legal.false ∙ sym (none_left _ _ (sym judged ∙ c.if-only_legal.false)))
