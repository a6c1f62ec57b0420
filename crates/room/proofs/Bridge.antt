-- For every row and every step, the step on the room that the row is says what the step on the row says.
use Prim.Native.Nat.{ℕ, ◌<◌}
use mathlib.Core.Path.{◌≡◌, refl, ◌∙◌, sym, ap, subst}
use mathlib.Core.Bool.{Bool, true, false}
use mathlib.Core.List.{List}
use Rattle.std.specs.Prelude.{Result, Ok, Err}
use Rattle.checks.specs.declared.Refusal.{Refusal}
use Rattle.checks.specs.declared.Refusal.TheVariants.{OutOfRange, BeyondRoom, NoCommand}
use Rattle.checks.specs.Checks.{must, mapped, left_by, outcome}
use Rattle.state.specs.declared.Answer.{Answer}
use Rattle.state.specs.declared.Server.{Server}
use Rattle.state.specs.declared.Sizes.{Sizes}
use Rattle.state.specs.declared.Step.{Step}
use Rattle.state.specs.View.{Brings, Stores, Alone, View, AtSlot, AtServer, AtDrive, view_of, view_slot}
use Rattle.synod.specs.Arguments.{places_fit, command_fits}
use Rattle.synod.specs.Rules.{Ruling, off_after}
use Rattle.synod.specs.Slot.{Slot, config_of}
use Rattle.synod.proofs.Alike.{Alike, ruled_alike}
use Rattle.synod.proofs.Machine.{ruled}
use Rattle.synod.proofs.Places.{InView, in_view}
use Rattle.synod.proofs.Rulings.{Plain, plain}
use Rattle.layout.specs.Places.{Fit, Row}
use Rattle.layout.specs.Cells.{sizes_of, limits_of, off_of}
use Rattle.range.specs.Range.{masks_of, in_range}
use Rattle.range.proofs.RecordLaws.{ServerIn}
use Rattle.range.proofs.Laws.{range_says}
use Rattle.model.specs.Room.{Room, seen_at}
use Rattle.model.specs.Next.{next}
use Rattle.model.specs.Encoding.{cells_of, room_by, room_of}
use Rattle.model.proofs.Encodes.{cells_again}
use Rattle.model.proofs.NextLaws.{into, next_ruled}
use Rattle.model.proofs.Ranged.{ranged}
use Rattle.model.proofs.Rows.{row_shape}
use Rattle.model.proofs.RulesKeep.{Keeps}
use Rattle.model.proofs.Shapes.{Shape, RoomIn}
use Rattle.model.proofs.Slots.{brought, rule_held}
use Rattle.model.proofs.Stores.{record_put, marks_stored}
use Rattle.model.proofs.Views.{own_read, disk_read, stored_in}
use Rattle.room.specs.declared.effect.Effect.{Effect}
use Rattle.room.specs.Judge.{seen, effect_at, effect_by, effect_of, judged, answer_of}
use Rattle.room.specs.Step.{settled, answered, stepped}
use Rattle.room.specs.ByNext.{next_on, answers, leaves}
use Rattle.room.proofs.Answering.{answer_by, effect_answer}
use Rattle.room.proofs.Checks.{by_checks}
use Rattle.room.proofs.Effects.{written_put, failure_put}

-- a slot of the room that a row is read as, and that of the row
pub seen_alike
    : (z : Sizes) (cells : List ℕ) (s : ℕ) → s < z.slots → Alike (config_of z) (seen_at (room_by z cells) s) (seen z cells s)
seen_alike z cells s h p l = record { own = own_read z cells s p h l; disk = λ d k. disk_read z cells s d p h k l }

-- the slot that a view names is in the room
view_slot_in : (z : Sizes) → Fit z → (w : View) → InView z w → view_slot w < z.slots
view_slot_in z f (AtSlot p s (Brings c)) i = i.slot
view_slot_in z f (AtSlot p s (Stores d)) i = i.slot
view_slot_in z f (AtSlot p s Alone) i = i.slot
view_slot_in z f (AtServer p) i = f.one_slot
view_slot_in z f (AtDrive d on) i = f.one_slot

into_answer : (f : Server → Room) (x : Ruling) → answer_by x ≡ mapped (λ y. y.1) (into f x)
into_answer f (Ok x) = refl
into_answer f (Err n) = refl

module _ (cells : List ℕ) (st : Step) where
  abbrev pub z : Sizes
  z = sizes_of cells

  abbrev pub room : Room
  room = room_of cells

  abbrev pub here : ℕ
  here = view_slot (view_of st)

  -- what the rule says of the cells
  abbrev pub says : Ruling
  says = ruled (config_of z) (off_of cells) (seen z cells here) st

  -- and the room that it makes
  abbrev gives : Result (Room × Answer) Refusal
  gives = into (stored_in room (view_of st)) says

  pub plainly : (τ : Slot) → Plain (view_of st) (ruled (config_of z) (off_of cells) τ st)
  plainly τ = plain (config_of z) (off_of cells) τ st

  -- a row of the sizes in its head, in range or not, and a step whose places are in the room
  module _ (row : Row z cells) (b : places_fit z st ≡ true) where
    pub shape : Shape room
    shape = row_shape z cells row

    -- the rule says the same of the room
    same_ruling : ruled (config_of z) (off_of cells) (seen_at room here) st ≡ says
    same_ruling = ruled_alike z (off_of cells) (seen_alike z cells here (view_slot_in z row.fit (view_of st) (in_view z st b))) st b

    -- the record of the rule is in range where the room is, by any test of a value that 0 and the command of the step pass
    pub record_in
        : (value : ℕ → Bool) → value 0 ≡ true → RoomIn value room → value (brought (view_of st)) ≡ true → (v : Server) (x : Answer)
        → says ≡ Ok (v, x) → ServerIn value (masks_of z) v
    unfolding room_by
    record_in value nought k f v x e = subst (Keeps value z) (same_ruling ∙ e) (rule_held room shape value nought k st b f)

    -- what is stored are the cells of the room that is made
    stored_cells
        : (w : View) (v : Server) (x : Answer) → InView z w
        → settled z (cells_of room) (effect_at w (off_after (off_of cells) w) (v, x)) ≡ cells_of (stored_in room w v)
    unfolding settled room_by
    stored_cells (AtSlot p s (Brings k)) v x i = record_put room shape s p v i.slot i.server
    stored_cells (AtSlot p s (Stores d)) v x i = written_put room shape s d p v i.slot i.drive i.server
    stored_cells (AtSlot p s Alone) v x i = record_put room shape s p v i.slot i.server
    stored_cells (AtServer p) v x i = failure_put room shape p i
    stored_cells (AtDrive d on) v x i = marks_stored room shape _

    effect_cells : (v : Server) (x : Answer) → says ≡ Ok (v, x) → left_by (settled z cells) cells (effect_of z cells st) ≡ cells_of (stored_in room (view_of st) v)
    unfolding effect_of
    effect_cells v x e =
        ap (λ (y : Ruling). left_by (settled z cells) cells (mapped (effect_by cells st) y)) e
        ∙ ap (λ (r : List ℕ). settled z r (effect_by cells st (v, x))) (sym (cells_again z cells row refl))
        ∙ stored_cells (view_of st) v x (in_view z st b)

    -- what holds of the row, where the rule refuses, and of the cells of the room that is made, holds of what is left
    pub by_effect
        : (P : List ℕ → Type 0) → ((n : Refusal) → says ≡ Err n → P cells) → ((v : Server) (x : Answer) → says ≡ Ok (v, x) → P (cells_of (stored_in room (view_of st) v)))
        → P (left_by (settled z cells) cells (effect_of z cells st))
    unfolding effect_of
    by_effect P refused made = go says refl
      where
        go : (x : Ruling) → says ≡ x → P (left_by (settled z cells) cells (effect_of z cells st))
        go (Err n) e = subst (λ (y : Ruling). P (left_by (settled z cells) cells (mapped (effect_by cells st) y))) (sym e) (refused n e)
        go (Ok (v, x)) e = subst P (sym (effect_cells v x e)) (made v x e)

    left_here : left_by (λ x. cells_of x.0) cells gives ≡ left_by (settled z cells) cells (effect_of z cells st)
    left_here =
        by_effect (λ l. left_by (λ x. cells_of x.0) cells gives ≡ l)
        (λ n e. ap (λ (y : Ruling). left_by (λ x. cells_of x.0) cells (into (stored_in room (view_of st)) y)) e)
        (λ v x e. ap (λ (y : Ruling). left_by (λ x. cells_of x.0) cells (into (stored_in room (view_of st)) y)) e)

  three : in_range cells ≡ false → outcome (next_on cells st) ≡ Err OutOfRange
  unfolding next_on must
  three a = simp (ranged cells, a)

  -- in a row in range the room decides
  goes_on : in_range cells ≡ true → outcome (next_on cells st) ≡ outcome (next room st)
  unfolding next_on must
  goes_on a = simp (ranged cells, a)

  four : in_range cells ≡ true → places_fit z st ≡ false → outcome (next_on cells st) ≡ Err BeyondRoom
  unfolding must room_by
  four a b = goes_on a ∙ next_ruled room st ∙ simp b

  five : in_range cells ≡ true → places_fit z st ≡ true → command_fits (limits_of cells) st ≡ false → outcome (next_on cells st) ≡ Err NoCommand
  unfolding must room_by
  five a b c = goes_on a ∙ next_ruled room st ∙ simp (b, c)

  row_of : in_range cells ≡ true → Row z cells
  row_of a = (range_says cells a).row

  acted
      : (a : in_range cells ≡ true) (b : places_fit z st ≡ true) → command_fits (limits_of cells) st ≡ true
      → outcome (next_on cells st) ≡ gives
  unfolding must room_by
  acted a b c =
      goes_on a ∙ next_ruled room st ∙ simp (b, c) (ap (into (stored_in room (view_of st))) (same_ruling (row_of a) b))

  -- and of what a step leaves
  pub by_step
      : (P : List ℕ → Type 0) → P cells
      → ((a : in_range cells ≡ true) (b : places_fit z st ≡ true) (c : command_fits (limits_of cells) st ≡ true) (v : Server) (x : Answer)
      → says ≡ Ok (v, x) → P (cells_of (stored_in room (view_of st) v)))
      → P (stepped cells st)
  unfolding stepped
  by_step P same made =
      by_checks cells st (λ e. P (left_by (settled z cells) cells e))
      (λ a. same)
      (λ a b. same)
      (λ a b c. same)
      (λ a b c. by_effect (row_of a) b P (λ n e. same) (λ v x e. made a b c v x e))

  -- the answer is the same
  pub same_answer : answered cells st ≡ answers cells st
  unfolding answered answers effect_of
  same_answer =
      by_checks cells st (λ e. mapped answer_of e ≡ answers cells st)
      (λ a. sym (ap (mapped (λ x. x.1)) (three a)))
      (λ a b. sym (ap (mapped (λ x. x.1)) (four a b)))
      (λ a b c. sym (ap (mapped (λ x. x.1)) (five a b c)))
      (λ a b c.
      effect_answer (view_of st) _ says (plainly (seen z cells here))
      ∙ into_answer (stored_in room (view_of st)) says
      ∙ sym (ap (mapped (λ x. x.1)) (acted a b c)))

  -- and so are the cells that it leaves
  pub same_cells : stepped cells st ≡ leaves cells st
  unfolding stepped leaves
  same_cells =
      by_checks cells st (λ e. left_by (settled z cells) cells e ≡ leaves cells st)
      (λ a. sym (ap (left_by (λ x. cells_of x.0) cells) (three a)))
      (λ a b. sym (ap (left_by (λ x. cells_of x.0) cells) (four a b)))
      (λ a b c. sym (ap (left_by (λ x. cells_of x.0) cells) (five a b c)))
      (λ a b c. sym (ap (left_by (λ x. cells_of x.0) cells) (acted a b c) ∙ left_here (row_of a) b))

module _ (cells : List ℕ) (st : Step) where
  -- what is answered and left by a judgement is what next gives
  by_judgement
      : (x : Result Effect Refusal) → x ≡ judged cells st
      → (mapped answer_of x ≡ answers cells st) × (left_by (settled (sizes_of cells) cells) cells x ≡ leaves cells st)
  unfolding answered stepped
  by_judgement x e =
      (ap (mapped answer_of) e ∙ same_answer cells st, ap (left_by (settled (sizes_of cells) cells) cells) e ∙ same_cells cells st)

  pub refused_next : (n : Refusal) → Err n ≡ judged cells st → (Err n ≡ answers cells st) × (cells ≡ leaves cells st)
  refused_next n e = by_judgement (Err n) e

  pub done_next
      : (f : Effect) → Ok f ≡ judged cells st
      → (Ok (answer_of f) ≡ answers cells st) × (settled (sizes_of cells) cells f ≡ leaves cells st)
  done_next f e = by_judgement (Ok f) e
