-- The statement of demand 3 alone gives agreement: nothing here looks into a call, an answer or a cell.
use Prim.Native.Nat.{ℕ, ◌<◌}
use mathlib.Core.Path.{◌≡◌, refl, ◌∙◌, sym, subst}
use mathlib.Core.List.{List, [], ◌∷◌}
use lib.Dec.{eqb}
use Rattle.lemmas.proofs.Tests.{by_test}
use Rattle.state.specs.declared.Sizes.{Sizes}
use Rattle.synod.specs.Slot.{updated}
use Rattle.history.specs.Calls.{Call, event_of, called}
use Rattle.history.specs.Run.{Move, Offers, Chooses, Fails, Rests, move_in, Always}
use Rattle.history.specs.Machine.{Machine, at_first, after_choose, after_fail, Choose, Makes, Equal, Follows, ends, goes}
use Rattle.register.specs.OneHistory.{OneHistory}
use Rattle.witness.specs.Agreement.{AllOutput, Agree}

-- every output of the machine is what was chosen
abbrev Sound : Machine → Type 0
Sound m = (p : ℕ) → (m.outputs p ≡ 0 → ⊥) → m.outputs p ≡ m.chosen

-- the next machine is sound, and what was chosen stays
record Later (m n : Machine) : Type 0 where
  sound : Sound n
  stays : (m.chosen ≡ 0 → ⊥) → n.chosen ≡ m.chosen

module _ (m : Machine) (s : Sound m) where
  failing : (p : ℕ) → Later m (after_fail m p)
  unfolding updated
  failing p =
      record {
        sound =
            λ q. by_test (eqb q p) (λ e. rw e (λ n. absurd (n refl))) (λ e. rw e (s q));
        stays = λ n. refl;
      }

  choosing : (p : ℕ) (n : Machine) (c : Choose m p n) → Later m (after_choose m p c.choice)
  unfolding updated
  choosing p n c =
      record {
        sound =
            λ q.
            by_test (eqb q p)
            (λ e. rw e (λ k. refl))
            (λ e. rw e (λ k. s q k ∙ sym (c.keeps (λ z. k (s q k ∙ z)))));
        stays = c.keeps;
      }

  moved : (v : Move) (n : Machine) → Makes v m n → Later m n
  moved (Offers p v) n e = subst (Later m) (sym e) (record { sound = s; stays = λ k. refl })
  moved (Chooses p) n c = subst (Later m) (sym c.becomes) (choosing p n c)
  moved (Fails p) n e = subst (Later m) (sym e) (failing p)
  moved Rests n e = subst (Later m) (sym e) (record { sound = s; stays = λ k. refl })

-- from a machine on: one command, which is the one chosen before if there is one
record From (z : Sizes) (t : ℕ) (m : Machine) (cells : List ℕ) (calls : List Call) : Type 0 where
  command : ℕ
  kept : (m.chosen ≡ 0 → ⊥) → command ≡ m.chosen
  always : Always (AllOutput z t command) cells calls

now
    : (z : Sizes) (t : ℕ) (m : Machine) (cells : List ℕ) → Sound m → Equal z t m cells → (v : ℕ)
    → ((m.chosen ≡ 0 → ⊥) → v ≡ m.chosen) → AllOutput z t v cells
now z t m cells s e v k p h n =
    let same = e.outputs p h in
    let is = same ∙ s p (λ x. n (same ∙ x)) in
    is ∙ sym (k (λ x. n (is ∙ x)))

from : (z : Sizes) (t : ℕ) (m : Machine) (cells : List ℕ) (calls : List Call) → Sound m → Follows z t m cells calls → From z t m cells calls
unfolding Always
from z t m cells [] s (ends e) =
    record { command = m.chosen; kept = λ k. refl; always = now z t m cells s e m.chosen (λ k. refl) }
from z t m cells (c ∷ cs) s (goes {n = n} e v f) =
    let l = moved m s (move_in t (event_of cells c)) n v in
    let r = from z t n (called cells c) cs l.sound f in
    let kept : (m.chosen ≡ 0 → ⊥) → r.command ≡ m.chosen = λ k. r.kept (λ x. k (sym (l.stays k) ∙ x)) ∙ l.stays k in
    record { command = r.command; kept = kept; always = (now z t m cells s e r.command kept, r.always) }

-- in each slot of a run all outputs, of all servers and at all moments, are one command
pub agree : (z : Sizes) (cells : List ℕ) (calls : List Call) → OneHistory z cells calls → (t : ℕ) → t < z.slots → Agree z cells calls t
agree z cells calls one t h =
    let r = from z t at_first cells calls (λ p n. absurd (n refl)) (one.machines t h) in
    record { command = r.command; always = r.always }
