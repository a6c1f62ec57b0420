-- Demand 3: from a room just opened, for all sizes and limits that open accepts, every old content of the row and every list
-- of calls.
use Prim.Native.Nat.{ℕ, ◌<◌}
use mathlib.Core.Path.{◌≡◌, refl, ◌∙◌, sym, ap, subst}
use mathlib.Core.Bool.{true}
use mathlib.Core.List.{List}
use native.Mathlib.Omega.{arith}
use lib.ListN.{length, take, length-take}
use Rattle.command.specs.Command.{cabinets, limits_fit}
use Rattle.checks.specs.Checks.{accepted}
use Rattle.std.specs.Prelude.{Ok}
use Rattle.state.specs.declared.Sizes.{Sizes}
use Rattle.layout.specs.Places.{Fit}
use Rattle.layout.proofs.PlaceLaws.{fit_of}
use Rattle.room.specs.Open.{opening, opened, opened_cells}
use Rattle.room.proofs.OpenLaws.{open_accepted}
use Rattle.history.specs.Calls.{Call}
use Rattle.history.specs.Run.{history, first_output}
use Rattle.history.proofs.Always.{always_map}
use Rattle.history.proofs.Opened.{opens}
use Rattle.history.proofs.Runs.{Shown, tells}
use Rattle.catalogue.specs.Fold.{folded, start}
use Rattle.catalogue.specs.Outputs.{output_at, leading, outputs_of}
use Rattle.catalogue.specs.Call.{entries_of, counted}
use Rattle.catalogue.specs.Listing.{counts, taken_of, skipped_of}
use Rattle.catalogue.proofs.OutputLaws.{leading_prefix}
use Rattle.catalogue.proofs.CallLaws.{accepts}
use Rattle.register.specs.OneHistory.{commands_of, AllShow, OneHistory}

-- a room whose outputs are those of the run shows the run's first commands
module _ (z : Sizes) (first : ℕ → ℕ) (room : List ℕ) (s : Shown z first room) where
  taken_prefix : (p : ℕ) → p < z.servers → outputs_of z room p ≡ take (length (outputs_of z room p)) (leading first 0 z.slots)
  unfolding outputs_of output_at
  taken_prefix p l =
      leading_prefix (output_at z room p) first 0 z.slots
      (λ t a b n. s.outputs t p (omega arith) l n)

  pub shows : AllShow z (leading first 0 z.slots) room
  unfolding entries_of
  shows p l out exact =
      let list = leading first 0 z.slots in
      let same = s.sizes in
      let call = accepts room p out exact s.range (subst (λ (y : Sizes). p < y.servers) (sym same) l) in
      let prefix = taken_prefix p l in
      let k = length (outputs_of z room p) in
      let answer =
      sym call.0
      ∙ ap (λ (y : Sizes). Ok (counted y room p)) same
      ∙ ap (λ (l : List ℕ). Ok (counts k (folded start l).skipped)) prefix in
      record {
        k = k;
        some = let n = ap length prefix ∙ length-take k list in omega arith;
        takes = prefix;
        accepted = ap accepted answer;
        taken = ap taken_of answer;
        skipped = ap skipped_of answer;
        cells =
            sym call.1
            ∙ ap (λ (y : Sizes). (entries_of y room p).cells) same
            ∙ ap (λ (l : List ℕ). (folded start l).cells) prefix;
      }

from_opened
    : (z : Sizes) (limits : List ℕ) → Fit z → length limits ≡ cabinets → limits_fit limits ≡ true → (calls : List Call)
    → OneHistory z (opened_cells z limits) calls
unfolding commands_of opens
from_opened z limits fit eight hoards calls =
    let cells = opened_cells z limits in
    let now = opens z limits fit eight hoards in
    let first : ℕ → ℕ = λ t. first_output t (history cells calls) in
    let run = tells limits z first cells now calls (λ t h. refl) in
    record {
      machines = run.follows;
      catalogues = always_map (Shown z first) (AllShow z (leading first 0 z.slots)) (shows z first) cells calls run.shown;
      outputs = run.outputs;
      agreed = run.agreed;
      offered = run.offered;
    }

-- DEMAND 3
pub one_history
    : (z : Sizes) (limits row : List ℕ) → accepted (opening z limits row) ≡ true → (calls : List Call)
    → OneHistory z (opened z limits row) calls
one_history z limits row e calls =
    let o = open_accepted z limits row e in
    subst (λ (cells : List ℕ). OneHistory z cells calls) (sym o.room)
    (from_opened z limits (fit_of z o.fits) o.eight o.hoards calls)
