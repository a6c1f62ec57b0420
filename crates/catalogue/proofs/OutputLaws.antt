-- Laws of the outputs that a catalogue takes: they are the first slots' outputs, up to the first slot without one, and
-- in a room in range each is a command.
use Prim.Native.Nat.{ℕ, zero, suc, ◌+◌, ◌-◌, ◌≤◌, ◌<◌}
use mathlib.Core.Path.{◌≡◌, refl, ◌∙◌, sym, ap, ap₂, subst}
use mathlib.Core.Bool.{Bool, true, false, cond}
use mathlib.Core.List.{List, [], ◌∷◌}
use native.Mathlib.Omega.{arith}
use native.Mathlib.Nat.{add-zero, zero-add}
use native.Mathlib.Numerals.{add-one}
use lib.ListN.{length, get_or, take}
use lib.Dec.{eqb, leb}
use borrow.Author.Tests.{eq-eqb, ne_eqb, eqb-true, eqb-false, leb-true}
use Rattle.lemmas.proofs.Tests.{by_test, and_left}
use Rattle.command.specs.Command.{kind_of, piece_of, hoard_of, hoard_fits, is_command}
use Rattle.state.specs.declared.Server.{Server}
use Rattle.state.specs.declared.Sizes.{Sizes}
use Rattle.state.specs.Server.{output_of}
use Rattle.layout.specs.Cells.{server_of}
use Rattle.range.specs.declared.Masks.{Masks}
use Rattle.range.specs.Range.{masks_of, value_fits, server_fits}
use Rattle.range.proofs.Laws.{Ranged}
use Rattle.range.proofs.RecordLaws.{server_says}
use Rattle.catalogue.specs.Fold.{pieces}
use Rattle.catalogue.specs.Outputs.{output_at, leading, outputs_of}

-- vs are the values of f at the numbers from s on, none of them 0, up to the first that is, or up to n of them
pub record Leads (f : ℕ → ℕ) (s n : ℕ) (vs : List ℕ) : Type 0 where
  pub short : length vs ≤ n
  pub at : (i : ℕ) → i < length vs → get_or vs i 0 ≡ f (s + i)
  pub some : (i : ℕ) → i < length vs → f (s + i) ≡ 0 → ⊥
  pub stop : length vs < n → f (s + length vs) ≡ 0

module _ (f : ℕ → ℕ) (s : ℕ) where
  pub none_there : (n : ℕ) → f s ≡ 0 → leading f s n ≡ []
  unfolding leading
  none_there zero e = refl
  none_there (suc n) e = simp (eq-eqb (f s) 0 e)

  some_there : (n : ℕ) → (f s ≡ 0 → ⊥) → leading f s (suc n) ≡ f s ∷ leading f (suc s) n
  unfolding leading
  some_there n h = simp (ne_eqb (f s) 0 h)

  -- the slots from s on, below m
  pub none_left : (m : ℕ) → m ≤ s → leading f s (m - s) ≡ []
  unfolding leading
  none_left m h = let e : m - s ≡ 0 = omega arith in rw e

  pub one_more : (m : ℕ) → s < m → (f s ≡ 0 → ⊥) → leading f s (m - s) ≡ f s ∷ leading f (s + 1) (m - (s + 1))
  one_more m l h =
      let e : m - s ≡ suc (m - (s + 1)) = omega arith in
      ap (leading f s) e ∙ some_there (m - (s + 1)) h ∙ ap (λ (t : ℕ). f s ∷ leading f t (m - (s + 1))) (sym (add-one s))

  leads_none : (n : ℕ) → f s ≡ 0 → Leads f s n []
  leads_none n e =
      record {
        short = omega arith;
        at = λ i h. absurd (omega arith);
        some = λ i h k. absurd (omega arith);
        stop = λ h. ap f (add-zero s) ∙ e;
      }

  leads_one : (n : ℕ) (vs : List ℕ) → (f s ≡ 0 → ⊥) → Leads f (suc s) n vs → Leads f s (suc n) (f s ∷ vs)
  leads_one n vs h l =
      record { short = let a = l.short in omega arith; at = at; some = some; stop = λ k. ap f (omega arith) ∙ l.stop (omega arith) }
    where
      at : (i : ℕ) → i < suc (length vs) → get_or (f s ∷ vs) i 0 ≡ f (s + i)
      at zero k = ap f (sym (add-zero s))
      at (suc i) k = l.at i (omega arith) ∙ ap f (omega arith)

      some : (i : ℕ) → i < suc (length vs) → f (s + i) ≡ 0 → ⊥
      some zero k e = h (ap f (sym (add-zero s)) ∙ e)
      some (suc i) k e = l.some i (omega arith) (ap f (omega arith) ∙ e)

pub leading_leads : (f : ℕ → ℕ) (s n : ℕ) → Leads f s n (leading f s n)
unfolding leading
leading_leads f s zero =
    record {
      short = omega arith;
      at = λ i h. absurd (omega arith);
      some = λ i h k. absurd (omega arith);
      stop = λ h. absurd (omega arith);
    }
leading_leads f s (suc n) =
    by_test (eqb (f s) 0)
    (λ e.
    let z = eqb-true (f s) 0 e in
    subst (Leads f s (suc n)) (sym (none_there f s (suc n) z)) (leads_none f s (suc n) z))
    (λ e.
    let z = eqb-false (f s) 0 e in
    subst (Leads f s (suc n)) (sym (some_there f s n z)) (leads_one f s n (leading f (suc s) n) z (leading_leads f (suc s) n)))

-- the commands taken of server p: its outputs in the first slots, none of them 0, up to the first slot without one
pub record FirstOutputs (z : Sizes) (cells : List ℕ) (p : ℕ) (vs : List ℕ) : Type 0 where
  pub short : length vs ≤ z.slots
  pub at : (s : ℕ) → s < length vs → get_or vs s 0 ≡ output_at z cells p s
  pub some : (s : ℕ) → s < length vs → output_at z cells p s ≡ 0 → ⊥
  pub stop : length vs < z.slots → output_at z cells p (length vs) ≡ 0

pub outputs_first : (z : Sizes) (cells : List ℕ) (p : ℕ) → FirstOutputs z cells p (outputs_of z cells p)
unfolding outputs_of
outputs_first z cells p =
    let f = output_at z cells p in
    let l = leading_leads f 0 z.slots in
    record {
      short = l.short;
      at = λ s h. l.at s h ∙ ap f (zero-add s);
      some = λ s h e. l.some s h (ap f (zero-add s) ∙ e);
      stop = λ h. sym (ap f (zero-add (length (leading f 0 z.slots)))) ∙ l.stop h;
    }

-- where each value of f that is not 0 is that of g, what f leads with is a beginning of what g leads with
pub leading_prefix
    : (f g : ℕ → ℕ) (s n : ℕ) → ((i : ℕ) → s ≤ i → i < s + n → (f i ≡ 0 → ⊥) → f i ≡ g i)
    → leading f s n ≡ take (length (leading f s n)) (leading g s n)
unfolding leading
leading_prefix f g s zero h = refl
leading_prefix f g s (suc n) h =
    by_test (eqb (f s) 0)
    (λ e. simp e)
    (λ e.
    let some = eqb-false (f s) 0 e in
    let same = h s (omega arith) (omega arith) some in
    let there = ne_eqb (g s) 0 (λ z. some (same ∙ z)) in
    simp (e, there)
    (ap₂ ◌∷◌ same (leading_prefix f g (suc s) n (λ i a b. h i (omega arith) (omega arith)))))

value_command : (limits : List ℕ) (v : ℕ) → value_fits limits v ≡ true → (v ≡ 0 → ⊥) → is_command limits v ≡ true
unfolding value_fits
value_command limits v e h = simp (ne_eqb v 0 h) at e

-- 0 or a command is of a piece that has a cell
value_piece : (limits : List ℕ) (v : ℕ) → value_fits limits v ≡ true → piece_of v < pieces
unfolding is_command
value_piece limits v e =
    by_test (eqb v 0)
    (λ z. let n : v ≡ 0 = eqb-true v 0 z in omega arith)
    (λ z.
    omega (
      arith,
      leb-true (piece_of v) 63
          (and_left (leb (piece_of v) 63) (hoard_fits limits (kind_of v) (piece_of v) (hoard_of v)) (value_command limits v e (eqb-false v 0 z))),
    ))

output_of_lem : (limits : List ℕ) (b : Bool) (v : ℕ) → value_fits limits v ≡ true → value_fits limits (cond b v 0) ≡ true
unfolding value_fits
output_of_lem limits true v e = e
output_of_lem limits false v e = refl

server_output : (limits : List ℕ) (k : Masks) (v : Server) → server_fits (value_fits limits) k v ≡ true → value_fits limits (output_of v) ≡ true
server_output limits k v e = output_of_lem limits (eqb v.phase 3) v.agreed (server_says (value_fits limits) k v e).agreed

-- a room in range has no outputs but commands
module _ (limits : List ℕ) (z : Sizes) (cells : List ℕ) (range : Ranged limits z cells) (p : ℕ) (h : p < z.servers) where
  pub output_fits : (s : ℕ) → s < z.slots → value_fits limits (output_at z cells p s) ≡ true
  unfolding output_at
  output_fits s l = server_output limits (masks_of z) (server_of z cells s p) (range.servers s p l h)

  pub output_piece : (s : ℕ) → s < z.slots → piece_of (output_at z cells p s) < pieces
  output_piece s l = value_piece limits (output_at z cells p s) (output_fits s l)
