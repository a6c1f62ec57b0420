-- No call alters the limits of a room, and so no run does: in any row at all.
use Prim.Native.Nat.{ℕ}
use mathlib.Core.Path.{◌≡◌, refl, ◌∙◌}
use mathlib.Core.List.{List, [], ◌∷◌}
use Rattle.checks.specs.Checks.{left_by}
use Rattle.state.specs.declared.Step.TheVariants.{Offer}
use Rattle.synod.specs.Arguments.{places_fit, command_fits}
use Rattle.layout.specs.Cells.{sizes_of, limits_of}
use Rattle.room.specs.Step.{settled}
use Rattle.free_slots.specs.Put.{put_cells}
use Rattle.free_slots.proofs.PutLaws.{by_put}
use Rattle.step_laws.proofs.StepKeeps.{effect_kept, whole_of, step_limits}
use Rattle.history.specs.Calls.{Call, Steps, Asks, Puts, called}
use Rattle.history.specs.Run.{ran}

pub call_limits : (r : List ℕ) (c : Call) → limits_of (called r c) ≡ limits_of r
unfolding put_cells
call_limits r (Steps st) = step_limits r st
call_limits r (Asks p) = refl
call_limits r (Puts p s v) =
    by_put r p s v (λ e. limits_of (left_by (settled (sizes_of r) r) r e) ≡ limits_of r)
    (λ n h. refl)
    (λ a b c d.
    unfold places_fit command_fits in
    (effect_kept (limits_of r) (sizes_of r) r (whole_of r a) (Offer p s v) b c).table)

pub run_limits : (r : List ℕ) (calls : List Call) → limits_of (ran r calls) ≡ limits_of r
unfolding ran
run_limits r [] = refl
run_limits r (c ∷ cs) = run_limits (called r c) cs ∙ call_limits r c
