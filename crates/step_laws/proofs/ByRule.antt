-- A step whose numbers fit is answered what its rule answers, and leaves each slot as the machine of one slot says.
use Prim.Native.Nat.{ℕ, ◌<◌}
use mathlib.Core.Path.{◌≡◌, ◌∙◌, sym, ap, subst}
use mathlib.Core.Bool.{true}
use mathlib.Core.List.{List}
use Rattle.std.specs.Prelude.{Ok}
use Rattle.checks.specs.Checks.{mapped, left_by}
use Rattle.state.specs.declared.Answer.{Answer}
use Rattle.state.specs.declared.Server.{Server}
use Rattle.state.specs.declared.Step.{Step}
use Rattle.state.specs.View.{view_of, view_slot}
use Rattle.synod.specs.Arguments.{places_fit, command_fits}
use Rattle.synod.specs.Slot.{config_of}
use Rattle.synod.proofs.Alike.{Alike}
use Rattle.synod.proofs.Machine.{ruled}
use Rattle.synod.proofs.Rulings.{plain}
use Rattle.layout.specs.Cells.{sizes_of, limits_of, off_of}
use Rattle.range.specs.Range.{in_range}
use Rattle.range.proofs.Laws.{range_says}
use Rattle.room.specs.Judge.{seen, effect_of, answer_of}
use Rattle.room.specs.Step.{settled, answered, stepped}
use Rattle.room.proofs.Checks.{passed}
use Rattle.step_laws.proofs.Slots.{after_at}
use Rattle.step_laws.proofs.SlotTie.{slot_tie}
use Rattle.room.proofs.Answering.{answer_by, effect_answer}

pub answered_by_rule
    : (r : List ℕ) (st : Step) (w : Server) (a : Answer) → in_range r ≡ true → places_fit (sizes_of r) st ≡ true
    → command_fits (limits_of r) st ≡ true
    → ruled (config_of (sizes_of r)) (off_of r) (seen (sizes_of r) r (view_slot (view_of st))) st ≡ Ok (w, a)
    → answered r st ≡ Ok a
unfolding answered effect_of
answered_by_rule r st w a i places command e =
    let σ = seen (sizes_of r) r (view_slot (view_of st)) in
    ap (mapped answer_of) (passed r st i places command)
    ∙ effect_answer (view_of st) _ (ruled (config_of (sizes_of r)) (off_of r) σ st) (plain (config_of (sizes_of r)) (off_of r) σ st)
    ∙ ap answer_by e

pub slot_by_rule
    : (r : List ℕ) (st : Step) → in_range r ≡ true → places_fit (sizes_of r) st ≡ true → command_fits (limits_of r) st ≡ true
    → (t : ℕ) → t < (sizes_of r).slots
    → Alike (config_of (sizes_of r)) (after_at (sizes_of r) (off_of r) t (seen (sizes_of r) r t) st)
    (seen (sizes_of r) (stepped r st) t)
unfolding stepped
slot_by_rule r st i places command t h =
    let z = sizes_of r in
    subst (λ e. Alike (config_of z) (after_at z (off_of r) t (seen z r t) st) (seen z (left_by (settled z r) r e) t))
    (sym (passed r st i places command))
    (slot_tie z r (range_says r i).row st places t h)
