-- Laws of the loop over the slots: what is left to take makes the same entries from here as the whole from zeros.
use native.Mathlib.Omega.{arith}
use native.Mathlib.Nat.{add-zero, zero-add}
use Prim.Native.Nat.{ℕ, suc, ◌+◌, ◌-◌, ◌≤◌, ◌<◌}
use mathlib.Core.Path.{◌≡◌, refl, ◌∙◌, sym, ap, ap₂}
use mathlib.Core.Bool.{Bool, true, false, cond, true≢false}
use mathlib.Core.List.{List, [], ◌∷◌}
use lib.Dec.{eqb}
use lib.ListN.{length, replicate}
use borrow.Author.Tests.{eqb-false}
use Rattle.lemmas.proofs.Tests.{by_test}
use Rattle.std.specs.Prelude.{Option, Some, is_some}
use Rattle.std.specs.Option.{unwrap_or}
use Rattle.std.specs.Int.{from_bool}
use Rattle.command.specs.Command.{kind_of}
use Rattle.state.specs.declared.Server.{Server}
use Rattle.state.specs.declared.Sizes.{Sizes}
use Rattle.state.specs.Block.{command_in}
use Rattle.state.specs.Server.{output_of}
use Rattle.layout.specs.Cells.{server_of}
use Rattle.catalogue.specs.Entry.{skips}
use Rattle.catalogue.specs.Fold.{pieces, Entries, cell_of, cells_after, skipped_by, folded}
use Rattle.catalogue.specs.Outputs.{output_at, leading, outputs_of}
use Rattle.catalogue.specs.Call.{entries_of, counted}
use Rattle.catalogue.specs.Listing.{counts}
use Rattle.catalogue.proofs.FoldLaws.{after-length, skipped_small}
use Rattle.catalogue.proofs.OutputLaws.{none_there, none_left, one_more}

-- the cell that holds a command is that command, and is not 0
of_command : (cell v : ℕ) → command_in cell ≡ Some v → (v ≡ cell) × (cell ≡ 0 → ⊥)
of_command cell v e =
    by_test (eqb cell 0)
    (λ z. absurd (true≢false (sym (ap is_some (simp z at e)))))
    (λ z. (sym (ap (λ (o : Option ℕ). unwrap_or o 0) (simp z at e)), eqb-false cell 0 z))

as_number : (b : Bool) → from_bool b ≡ cond b 1 0
as_number true = refl
as_number false = refl

-- what is still to be done after k commands: the fold of the rest from here is the whole fold
pub record Left (z : Sizes) (room : List ℕ) (p : ℕ) (out : List ℕ) (k skipped : ℕ) : Type 0 where
  pub count : k ≤ z.slots
  pub small : skipped ≤ k
  pub size : length out ≡ pieces
  pub rest
      : folded (record { cells = out; skipped = skipped }) (leading (output_at z room p) k (z.slots - k)) ≡ entries_of z room p
  pub taken : k + length (leading (output_at z room p) k (z.slots - k)) ≡ length (outputs_of z room p)

pub left_first : (z : Sizes) (room : List ℕ) (p : ℕ) (out : List ℕ) → out ≡ replicate pieces 0 → Left z room p out 0 0
unfolding entries_of outputs_of
left_first z room p out e =
    let n : z.slots - 0 ≡ z.slots = omega arith in
    let l = ap (leading (output_at z room p) 0) n in
    record {
      count = omega arith;
      small = omega arith;
      size = ap length e;
      rest = ap₂ (λ (x ys : List ℕ). folded (record { cells = x; skipped = 0 }) ys) e l;
      taken = zero-add (length (leading (output_at z room p) 0 (z.slots - 0))) ∙ ap length l;
    }

module _ {z : Sizes} {room : List ℕ} {p : ℕ} {out : List ℕ} {k skipped : ℕ} (left : Left z room p out k skipped) where
  -- slot k holds the command v, which is applied
  pub left_next
      : (own : Server) (told : Option ℕ) (v n : ℕ) (b : Bool) (new : List ℕ) → k < z.slots → own ≡ server_of z room k p
      → told ≡ command_in (output_of own) → told ≡ Some v → b ≡ skips (kind_of v) (cell_of out v) → n ≡ from_bool b
      → new ≡ cells_after out v → Left z room p new (k + 1) (skipped + n)
  unfolding folded skipped_by output_at
  left_next own told v n b new h read held is test count g =
      let f = output_at z room p in
      let some = of_command (output_of own) v (sym held ∙ is) in
      let here : output_of own ≡ f k = ap output_of read in
      let e : v ≡ f k = some.0 ∙ here in
      let m : n ≡ skipped_by out v = count ∙ ap from_bool test ∙ as_number (skips (kind_of v) (cell_of out v)) in
      let ys = leading f (k + 1) (z.slots - (k + 1)) in
      let l : leading f k (z.slots - k) ≡ v ∷ ys =
      one_more f k z.slots h (λ a. some.1 (here ∙ a)) ∙ ap (λ (x : ℕ). x ∷ ys) (sym e) in
      let t : k + suc (length ys) ≡ length (outputs_of z room p) =
      ap (λ (xs : List ℕ). k + length xs) (sym l) ∙ left.taken in
      record {
        count = omega arith;
        small = omega (arith, left.small, skipped_small out v);
        size = ap length g ∙ after-length out v ∙ left.size;
        rest =
            ap₂ (λ (x : List ℕ) (y : ℕ). folded (record { cells = x; skipped = skipped + y }) ys) g m
            ∙ sym (ap (folded (record { cells = out; skipped = skipped })) l) ∙ left.rest;
        taken = omega arith;
      }

  left_last
      : leading (output_at z room p) k (z.slots - k) ≡ []
      → (counts k skipped ≡ counted z room p) × (out ≡ (entries_of z room p).cells)
  unfolding folded
  left_last l =
      let e : record { cells = out; skipped = skipped } ≡ entries_of z room p =
      sym (ap (folded (record { cells = out; skipped = skipped })) l) ∙ left.rest in
      let t : k ≡ length (outputs_of z room p) = sym (add-zero k) ∙ ap (λ (xs : List ℕ). k + length xs) (sym l) ∙ left.taken in
      (ap₂ counts t (ap (λ (x : Entries). x.skipped) e), ap (λ (x : Entries). x.cells) e)

  -- every slot was looked at
  pub last_slot
      : z.slots ≤ k → (counts k skipped ≡ counted z room p) × (out ≡ (entries_of z room p).cells)
  last_slot h = left_last (none_left (output_at z room p) k z.slots h)

  -- the next slot is without an output
  pub last_output
      : output_at z room p k ≡ 0 → (counts k skipped ≡ counted z room p) × (out ≡ (entries_of z room p).cells)
  last_output e = left_last (none_there (output_at z room p) k (z.slots - k) e)
