-- What the servers' lines say of a run: each server took the first k of the run's one list of commands (demand 3).
use Prim.Native.Nat.{ℕ, ◌<◌, ◌≤◌}
use mathlib.Core.Path.{◌≡◌, ◌∙◌, sym, ap, ap₂, subst}
use mathlib.Core.Bool.{true}
use mathlib.Core.List.{List}
use lib.ListN.{length, take, replicate, length-replicate}
use Rattle.std.specs.Prelude.{Ok}
use Rattle.command.specs.Command.{cabinet_limits}
use Rattle.checks.specs.Checks.{accepted}
use Rattle.state.specs.declared.Sizes.{Sizes}
use Rattle.state.specs.declared.Step.{Step}
use Rattle.layout.specs.Places.{sizes_fit, room_length}
use Rattle.history.specs.Calls.{all_steps}
use Rattle.history.specs.Run.{ran, history}
use Rattle.history.proofs.Always.{at_last}
use Rattle.catalogue.specs.Fold.{pieces, folded, start}
use Rattle.catalogue.specs.Listing.{counts}
use Rattle.catalogue.proofs.AnswerLaws.{accepted_is}
use Rattle.register.specs.OneHistory.{commands_of, AllShow, OneHistory}
use Rattle.register.proofs.Theorem.{one_history}
use Rattle.transcript.specs.Lines.{server_line}
use Rattle.rehearsal.specs.Rehearsal.{opened_room, counts_line, line_of}
use Rattle.rehearsal.proofs.OpenedLaws.{opens_exact}

-- a server's line after a run: k commands of the list are taken, and so many of these are skipped
pub record Tells (commands room : List ℕ) (p : ℕ) : Type 0 where
  pub k : ℕ
  pub some : k ≤ length commands
  pub line : line_of room p ≡ server_line p k (folded start (take k commands)).skipped

module _ (z : Sizes) (fits : sizes_fit z ≡ true) (steps : List Step) where
  -- demand 3 where every call is a step
  one : OneHistory z (opened_room z) (all_steps steps)
  one =
      let row : List ℕ = replicate (room_length z) 0 in
      let o = opens_exact z row fits (length-replicate (room_length z) 0) in
      subst (λ (cells : List ℕ). OneHistory z cells (all_steps steps)) (sym o.leaves)
      (one_history z cabinet_limits row (ap accepted (sym o.answers)) (all_steps steps))

  pub one_list
      : (p : ℕ) → p < z.servers
      → Tells (commands_of z (history (opened_room z) (all_steps steps))) (ran (opened_room z) (all_steps steps)) p
  unfolding line_of counts_line
  one_list p h =
      let commands = commands_of z (history (opened_room z) (all_steps steps)) in
      let all = at_last (AllShow z commands) (opened_room z) (all_steps steps) one.catalogues in
      let s = all p h (replicate pieces 0) (length-replicate {A = ℕ} pieces 0) in
      let room = ran (opened_room z) (all_steps steps) in
      let told = accepted_is room p (replicate pieces 0) s.accepted ∙ ap₂ (λ (k n : ℕ). Ok (counts k n)) s.taken s.skipped in
      record { k = s.k; some = s.some; line = ap (counts_line p) told }
