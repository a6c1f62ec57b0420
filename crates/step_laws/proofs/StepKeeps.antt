-- A step on a room in range leaves it in range, with its sizes, its limits and its length; a refused one leaves it. What may be
-- held in the place of a command is any test of a value that 0 and the step's own command pass; that it is 0 or a command by the
-- room's limits is one such test.
use Prim.Native.Nat.{ℕ}
use mathlib.Core.Path.{◌≡◌, refl, ◌∙◌, sym, subst}
use mathlib.Core.Bool.{Bool, true}
use mathlib.Core.List.{List}
use lib.ListN.{length}
use Rattle.std.specs.Prelude.{Ok}
use Rattle.checks.specs.Checks.{left_by}
use Rattle.state.specs.declared.Answer.{Answer}
use Rattle.state.specs.declared.Server.{Server}
use Rattle.state.specs.declared.Sizes.{Sizes}
use Rattle.state.specs.declared.Step.{Step}
use Rattle.state.specs.View.{view_of}
use Rattle.synod.specs.Arguments.{places_fit, command_fits}
use Rattle.synod.proofs.Places.{in_view}
use Rattle.layout.specs.Cells.{limits_of, sizes_of}
use Rattle.range.specs.Range.{value_fits, in_range}
use Rattle.range.proofs.Laws.{InRange, range_says, Says-range}
use Rattle.range.proofs.RecordLaws.{zero_fits}
use Rattle.model.specs.Room.{Room}
use Rattle.model.specs.Encoding.{cells_of, room_by}
use Rattle.model.proofs.Again.{cells_limits, cells_in}
use Rattle.model.proofs.Rows.{row_holds}
use Rattle.model.proofs.Shapes.{Shape, RoomIn}
use Rattle.model.proofs.Slots.{brought, brought_fits, stored_shape, stored_held}
use Rattle.model.proofs.Views.{stored_in}
use Rattle.room.specs.Judge.{effect_of}
use Rattle.room.specs.Step.{settled, stepped}
use Rattle.room.proofs.Bridge.{room, says, shape, record_in, by_effect, by_step}

-- a room of the sizes and with the limits that it claims, in range by a test of a value
pub record WholeBy (limits : List ℕ) (value : ℕ → Bool) (z : Sizes) (r : List ℕ) : Type 0 where
  pub range : InRange limits value z r
  pub sizes : sizes_of r ≡ z
  pub table : limits_of r ≡ limits

-- and by its limits
abbrev pub Whole : List ℕ → Sizes → List ℕ → Type 0
Whole limits = WholeBy limits (value_fits limits)

pub whole_of : (r : List ℕ) → in_range r ≡ true → Whole (limits_of r) (sizes_of r) r
whole_of r e = record { range = range_says r e; sizes = refl; table = refl }

-- the cells of a room that fits
cells_whole : (value : ℕ → Bool) (r : Room) → Shape r → RoomIn value r → WholeBy r.limits value r.sizes (cells_of r)
unfolding cells_of
cells_whole value r i k =
    record {
      range = subst (λ (l : List ℕ). InRange l value r.sizes (cells_of r)) (cells_limits r i) (cells_in r i value k);
      sizes = refl;
      table = cells_limits r i;
    }

module _ (value : ℕ → Bool) (nought : value 0 ≡ true) (r : List ℕ) (w : InRange (limits_of r) value (sizes_of r) r) (st : Step) where
  module _ (b : places_fit (sizes_of r) st ≡ true) (f : value (brought (view_of st)) ≡ true) where
    -- the cells of the room that its rule makes
    made_whole : (v : Server) (x : Answer) → says r st ≡ Ok (v, x) → WholeBy (limits_of r) value (sizes_of r) (cells_of (stored_in (room r st) (view_of st) v))
    unfolding room_by
    made_whole v x e =
        let k = row_holds (sizes_of r) r value w in
        let a = in_view (sizes_of r) st b in
        let s = shape r st w.row b in
        cells_whole value (stored_in (room r st) (view_of st) v) (stored_shape (room r st) s (view_of st) v a)
        (stored_held (room r st) s value nought k (view_of st) v a (record_in r st w.row b value nought k f v x e))

    effect_whole : WholeBy (limits_of r) value (sizes_of r) (left_by (settled (sizes_of r) r) r (effect_of (sizes_of r) r st))
    effect_whole =
        by_effect r st w.row b (WholeBy (limits_of r) value (sizes_of r))
        (λ n e. record { range = w; sizes = refl; table = refl })
        made_whole

  -- a step leaves the room in range by the test, where a command that the room takes from it passes
  pub step_keeps : (command_fits (limits_of r) st ≡ true → value (brought (view_of st)) ≡ true) → WholeBy (limits_of r) value (sizes_of r) (stepped r st)
  step_keeps f =
      by_step r st (WholeBy (limits_of r) value (sizes_of r)) (record { range = w; sizes = refl; table = refl })
      (λ i b c v x e. made_whole b (f c) v x e)

-- what is stored, for sizes and limits that are known to be the row's
pub effect_kept_by
    : (limits : List ℕ) (value : ℕ → Bool) → value 0 ≡ true → (z : Sizes) (r : List ℕ) → WholeBy limits value z r → (st : Step)
    → places_fit z st ≡ true → value (brought (view_of st)) ≡ true
    → WholeBy limits value z (left_by (settled z r) r (effect_of z r st))
effect_kept_by limits value nought z r w =
    subst
    (λ (l : List ℕ). InRange l value z r → (st : Step) → places_fit z st ≡ true → value (brought (view_of st)) ≡ true
    → WholeBy l value z (left_by (settled z r) r (effect_of z r st))) w.table
    (subst
    (λ (y : Sizes). InRange (limits_of r) value y r → (st : Step) → places_fit y st ≡ true → value (brought (view_of st)) ≡ true
    → WholeBy (limits_of r) value y (left_by (settled y r) r (effect_of y r st))) w.sizes
    (λ i st b f. effect_whole value nought r i st b f))
    w.range

-- and by the room's limits
pub effect_kept
    : (limits : List ℕ) (z : Sizes) (r : List ℕ) → Whole limits z r → (st : Step) → places_fit z st ≡ true → command_fits limits st ≡ true
    → Whole limits z (left_by (settled z r) r (effect_of z r st))
effect_kept limits z r w st b c = effect_kept_by limits (value_fits limits) (zero_fits limits) z r w st b (brought_fits limits st c)

-- a room in range is left in range, with its sizes, its limits and its length
pub step_whole : (r : List ℕ) (st : Step) → in_range r ≡ true → Whole (limits_of r) (sizes_of r) (stepped r st)
step_whole r st i =
    step_keeps (value_fits (limits_of r)) (zero_fits (limits_of r)) r (range_says r i) st (brought_fits (limits_of r) st)

pub step_in_range : (r : List ℕ) (st : Step) → in_range r ≡ true → in_range (stepped r st) ≡ true
step_in_range r st i =
    let w = step_whole r st i in
    Says-range (limits_of r) (sizes_of r) (stepped r st) (sym w.table) (sym w.sizes) w.range

pub step_length : (r : List ℕ) (st : Step) → in_range r ≡ true → length (stepped r st) ≡ length r
step_length r st i =
    let w = step_whole r st i in
    w.range.row.exact ∙ sym (whole_of r i).range.row.exact

-- no step alters the limits, in any row at all
pub step_limits : (r : List ℕ) (st : Step) → limits_of (stepped r st) ≡ limits_of r
step_limits r st =
    by_step r st (λ l. limits_of l ≡ limits_of r) refl
    (λ i b c v x e.
    (made_whole (value_fits (limits_of r)) (zero_fits (limits_of r)) r (range_says r i) st b (brought_fits (limits_of r) st c) v x e).table)
