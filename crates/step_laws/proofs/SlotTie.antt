-- Each slot of the cells that are left is alike the slot that the machine of one slot makes.
use Prim.Native.Nat.{ℕ, ◌<◌}
use mathlib.Core.Path.{◌≡◌, ◌∙◌, sym, ap, subst}
use mathlib.Core.Bool.{true, true≢false}
use mathlib.Core.List.{List}
use borrow.Author.Tests.{eqb-true}
use Rattle.lemmas.proofs.Tests.{by_test}
use Rattle.std.specs.Prelude.{Ok, Err}
use Rattle.checks.specs.Checks.{left_by}
use Rattle.state.specs.declared.Sizes.{Sizes}
use Rattle.state.specs.declared.Step.{Step}
use Rattle.state.specs.View.{View, AtSlot, AtServer, AtDrive, view_of, view_slot}
use Rattle.synod.specs.Arguments.{places_fit}
use Rattle.synod.specs.Rules.{Ruling}
use Rattle.synod.specs.Slot.{Slot, config_of}
use Rattle.synod.proofs.Alike.{Alike, alike_same, alike_then, after_alike}
use Rattle.synod.proofs.Machine.{ruled, after}
use Rattle.synod.proofs.Places.{in_view}
use Rattle.synod.proofs.Rulings.{Plain}
use Rattle.layout.specs.Places.{Row}
use Rattle.layout.specs.Cells.{sizes_of, off_of}
use Rattle.room.specs.Judge.{seen, effect_of}
use Rattle.room.specs.Step.{settled}
use Rattle.model.specs.Concerns.{concerns_at, concerns}
use Rattle.model.specs.Room.{Room, seen_at}
use Rattle.model.specs.Encoding.{cells_of, room_by}
use Rattle.model.proofs.Decodes.{own_again, disk_again}
use Rattle.model.proofs.Shapes.{Shape}
use Rattle.model.proofs.Slots.{stored_seen, stored_shape}
use Rattle.model.proofs.Views.{stored_in}
use Rattle.room.proofs.Bridge.{room, says, shape, plainly, seen_alike, by_effect}
use Rattle.step_laws.proofs.Slots.{after_at}
use Rattle.step_laws.proofs.Heads.{headed, headed_row, headed_behind, off_behind, seen_behind, left_seen}

-- the rule says the same at each slot that the view concerns
one_rule : (σ : ℕ → Slot) (w : View) (f : Slot → Ruling) → ((τ : Slot) → Plain w (f τ)) → (t : ℕ) → concerns_at t w ≡ true → f (σ (view_slot w)) ≡ f (σ t)
one_rule σ (AtSlot p s k) f plainly t e = ap (λ (u : ℕ). f (σ u)) (eqb-true s t e)
one_rule σ (AtServer p) f plainly t e = plainly (σ 0) ∙ sym (plainly (σ t))
one_rule σ (AtDrive d on) f plainly t e = absurd (true≢false (sym e))

-- a slot of a room, and that of its cells
cells_seen : (r : Room) (i : Shape r) (t : ℕ) → t < r.sizes.slots → Alike (config_of r.sizes) (seen_at r t) (seen r.sizes (cells_of r) t)
cells_seen r i t h p l = record { own = sym (own_again r i t p h l); disk = λ d k. sym (disk_again r i t d p h k l) }

module _ (r : List ℕ) (st : Step) (row : Row (sizes_of r) r) (b : places_fit (sizes_of r) st ≡ true) where
  abbrev z : Sizes
  z = sizes_of r

  abbrev σ : ℕ → Slot
  σ = seen z r

  abbrev rule : Slot → Ruling
  rule τ = ruled (config_of z) (off_of r) τ st

  same : (t : ℕ) (x : Ruling) → says r st ≡ x → concerns t st ≡ true → rule (σ t) ≡ x
  unfolding concerns
  same t x e k = sym (one_rule σ (view_of st) rule (plainly r st) t k) ∙ e

  room_seen : (t : ℕ) → t < z.slots → Alike (config_of z) (σ t) (seen_at (room r st) t)
  room_seen t h p l = let like = seen_alike z r t h p l in record { own = sym like.own; disk = λ d k. sym (like.disk d k) }

  own_tie
      : (t : ℕ) → t < z.slots → Alike (config_of z) (after_at z (off_of r) t (σ t) st) (seen z (left_by (settled z r) r (effect_of z r st)) t)
  unfolding after_at after concerns room_by
  own_tie t h =
      by_effect r st row b (λ l. Alike (config_of z) (after_at z (off_of r) t (σ t) st) (seen z l t))
      (λ n e. by_test (concerns t st) (λ k. rw (k, same t (Err n) e k) (alike_same (config_of z) (σ t))) (λ k. rw k (alike_same (config_of z) (σ t))))
      (λ v x e.
      let u = stored_in (room r st) (view_of st) v in
      let made = stored_seen (room r st) (shape r st row b) (view_of st) v x (in_view z st b) (subst (Plain (view_of st)) e (plainly r st (σ (view_slot (view_of st))))) t h in
      alike_then
      (by_test (concerns t st)
      (λ k. rw (k, same t (Ok (v, x)) e k) (after_alike (room_seen t h) st (Ok (v, x))))
      (λ k. rw k (room_seen t h)))
      (subst (λ (τ : Slot). Alike (config_of z) τ (seen z (cells_of u) t)) made
      (cells_seen u (stored_shape (room r st) (shape r st row b) (view_of st) v (in_view z st b)) t h)))

-- the same for every row that is as long as a room of the sizes z, whatever sizes stand in its head
pub slot_tie
    : (z : Sizes) (r : List ℕ) → Row z r → (st : Step) → places_fit z st ≡ true → (t : ℕ) → t < z.slots
    → Alike (config_of z) (after_at z (off_of r) t (seen z r t) st) (seen z (left_by (settled z r) r (effect_of z r st)) t)
slot_tie z r row st b t h =
    let e = headed_behind z r in
    subst (λ (τ : Slot). Alike (config_of z) (after_at z (off_of r) t (seen z r t) st) τ) (sym (left_seen z row.fit st t e))
    (rw (off_behind e, seen_behind z row.fit e t) (own_tie (headed z r) st (headed_row z r row) b t h))
