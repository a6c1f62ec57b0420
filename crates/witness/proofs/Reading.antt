-- An example whose values are computed holds: what demand 3 adds to them is read off the theorem.
use Prim.Native.Nat.{ℕ, zero, suc, ◌<◌}
use mathlib.Core.Path.{◌≡◌, refl, ◌∙◌, sym, ap, ap₂, subst}
use mathlib.Core.Bool.{Bool, true}
use mathlib.Core.List.{List, []}
use native.Mathlib.Omega.{arith}
use lib.ListN.{get_or, take, replicate}
use lib.Dec.{eqb}
use borrow.Author.Tests.{eqb-true, eqb-false}
use Rattle.lemmas.proofs.Tests.{by_test}
use Rattle.std.specs.Prelude.{Result, Ok}
use Rattle.checks.specs.declared.Refusal.{Refusal}
use Rattle.checks.specs.Checks.{accepted}
use Rattle.layout.specs.Places.{room_length}
use Rattle.room.specs.Open.{opening}
use Rattle.catalogue.specs.Fold.{Entries, folded, start}
use Rattle.catalogue.specs.Call.{catalogue_of, catalogue_cells}
use Rattle.catalogue.specs.Listing.{counts, taken_of, skipped_of}
use Rattle.catalogue.specs.declared.Counts.{Counts}
use Rattle.starred.specs.Runs.{new_room}
use Rattle.history.specs.Calls.{Event}
use Rattle.history.proofs.Always.{at_last}
use Rattle.register.specs.OneHistory.{commands_of, OneHistory}
use Rattle.register.proofs.Theorem.{one_history}
use Rattle.witness.specs.Example.{Example, calls_of, history_of, last_room, said, chosen_code, committed_code, lent, Lists, IsFirst, Worked}

-- by server below n: what its catalogue answers, and the cells that it leaves
abbrev Results : ℕ → Type 0
Results zero = Unit {0}
Results (suc n) = Results n × Result Counts Refusal × List ℕ

-- as the run gives them
abbrev results_of : Example → (n : ℕ) → Results n
results_of e zero = tt
results_of e (suc n) = (results_of e n, catalogue_of (last_room e) n lent, catalogue_cells (last_room e) n lent)

-- as the example tells them
abbrev results_told : Example → (n : ℕ) → Results n
results_told e zero = tt
results_told e (suc n) = (results_told e n, Ok (counts (get_or e.taken n 0) (get_or e.skipped n 0)), get_or e.left n [])

listed : (e : Example) (n : ℕ) → results_of e n ≡ results_told e n → (p : ℕ) → p < n → Lists e p
listed e zero a p h = absurd (omega arith)
listed e (suc n) a p h =
    by_test (eqb p n)
    (λ t. subst (Lists e) (sym (eqb-true p n t)) (record { answer = λ i. (a i).1; cells = λ i. (a i).2 }))
    (λ t. listed e n (λ i. (a i).0) p (omega (arith, eqb-false p n t)))

-- all that is compared of an example with n servers: what the run gives, and what the example tells
record Values (n : ℕ) : Type 0 where
  opens : Bool
  answers : List Event
  chosen : List ℕ
  committed : List ℕ
  commands : List ℕ
  catalogues : Results n

abbrev values_of : (e : Example) → Values e.sizes.servers
values_of e =
    record {
      opens = accepted (opening e.sizes e.limits (replicate (room_length e.sizes) 9));
      answers = history_of e;
      chosen = said chosen_code e.run;
      committed = said committed_code e.run;
      commands = commands_of e.sizes e.run;
      catalogues = results_of e e.sizes.servers;
    }

abbrev values_told : (e : Example) → Values e.sizes.servers
values_told e =
    record {
      opens = true;
      answers = e.run;
      chosen = e.chosen;
      committed = e.committed;
      commands = e.commands;
      catalogues = results_told e e.sizes.servers;
    }

abbrev pub Computed : Example → Type 0
Computed e = values_of e ≡ values_told e

module _ (e : Example) (c : Computed e) where
  told : history_of e ≡ e.run
  told i = (c i).answers

  one : OneHistory e.sizes (new_room e.sizes e.limits) (calls_of e.run)
  unfolding new_room
  one = one_history e.sizes e.limits (replicate (room_length e.sizes) 9) (λ i. (c i).opens) (calls_of e.run)

  commands : commands_of e.sizes (history_of e) ≡ e.commands
  commands = ap (commands_of e.sizes) told ∙ (λ i. (c i).commands)

  -- the theorem's first k commands, for the k that was computed
  first : (p : ℕ) → p < e.sizes.servers → Lists e p → IsFirst e p
  first p h l =
      let s = at_last _ (new_room e.sizes e.limits) (calls_of e.run) one.catalogues p h lent refl in
      let k : s.k ≡ get_or e.taken p 0 = sym s.taken ∙ ap taken_of l.answer in
      let result : folded start (take s.k (commands_of e.sizes (history_of e))) ≡ folded start (take (get_or e.taken p 0) e.commands) =
      ap₂ (λ (j : ℕ) (vs : List ℕ). folded start (take j vs)) k commands in
      record {
        skipped = sym (ap skipped_of l.answer) ∙ s.skipped ∙ ap (λ (n : Entries). n.skipped) result;
        cells = sym l.cells ∙ s.cells ∙ ap (λ (n : Entries). n.cells) result;
      }

  pub holds : Worked e
  holds =
      record {
        answers = told;
        one = one;
        chosen = ap (said chosen_code) told ∙ (λ i. (c i).chosen);
        committed = ap (said committed_code) told ∙ (λ i. (c i).committed);
        commands = commands;
        catalogues = λ p h. let l = listed e e.sizes.servers (λ i. (c i).catalogues) p h in (l, first p h l);
      }
