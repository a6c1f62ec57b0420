-- Laws of the call: its answers in the order of the checks, each with the cells that it leaves, and what a room in range
-- has for it.
use Prim.Native.Nat.{ℕ, ◌≤◌, ◌<◌}
use mathlib.Core.Path.{◌≡◌, ◌∙◌, sym, ap, subst⁻¹}
use mathlib.Core.Bool.{true, false}
use mathlib.Core.List.{List}
use lib.ListN.{length}
use lib.Dec.{eqb, ltb}
use borrow.Author.Tests.{eq-eqb, ne_eqb, lt-ltb, le-ltb, ltb-true}
use Rattle.std.specs.Prelude.{Result, Ok, Err}
use Rattle.checks.specs.declared.Refusal.{Refusal}
use Rattle.checks.specs.declared.Refusal.TheVariants.{WrongLength, OutOfRange, BeyondRoom}
use Rattle.checks.specs.Checks.{must, left_by}
use Rattle.checks.proofs.CheckLaws.{passes, fails}
use Rattle.state.specs.declared.Sizes.{Sizes}
use Rattle.layout.specs.Cells.{sizes_of, limits_of}
use Rattle.range.specs.Range.{in_range}
use Rattle.range.proofs.Laws.{range_says}
use Rattle.catalogue.specs.Fold.{pieces}
use Rattle.catalogue.specs.Call.{entries_of, counted, catalogue_checks, catalogue_of, catalogue_cells, NamesPieces}
use Rattle.catalogue.specs.declared.Counts.{Counts}
use Rattle.catalogue.proofs.OutputLaws.{output_piece}

-- a room in range has outputs that can be listed; its cells and its sizes are those of a room as a type
pub names_pieces
    : (room cells : List ℕ) (z : Sizes) (p : ℕ) → in_range room ≡ true → cells ≡ room → z ≡ sizes_of cells
    → ltb p z.servers ≡ true → NamesPieces z cells p
names_pieces room cells z p range same e =
    rw same
    (subst⁻¹ (λ (y : Sizes). ltb p y.servers ≡ true → NamesPieces y room p) (e ∙ ap sizes_of same)
    (λ b.
    let h = ltb-true p (sizes_of room).servers b in
    record { server = h; within = λ s l. output_piece (limits_of room) (sizes_of room) room (range_says room range) p h s l }))

-- the answers in the order of the checks, each with the cells that it leaves
module _ (room : List ℕ) (server : ℕ) (out : List ℕ) where
  pub leaves
      : (r : Result Counts Refusal) → catalogue_of room server out ≡ r
      → (r ≡ catalogue_of room server out)
      × (left_by (λ c. (entries_of (sizes_of room) room server).cells) out r ≡ catalogue_cells room server out)
  unfolding catalogue_cells
  leaves r e = (sym e, ap (left_by (λ c. (entries_of (sizes_of room) room server).cells) out) (sym e))

  pub wrong_length
      : (length out ≡ pieces → ⊥)
      → (Err WrongLength ≡ catalogue_of room server out) × (out ≡ catalogue_cells room server out)
  unfolding catalogue_of catalogue_checks
  wrong_length h = leaves (Err WrongLength) (fails (eqb (length out) pieces) WrongLength _ (ne_eqb (length out) pieces h))

  module _ (exact : length out ≡ pieces) where
    past_length
        : (r : Result Counts Refusal)
        → must (in_range room) OutOfRange (must (ltb server (sizes_of room).servers) BeyondRoom (Ok (counted (sizes_of room) room server))) ≡ r
        → catalogue_of room server out ≡ r
    unfolding catalogue_of catalogue_checks
    past_length r e = passes (eqb (length out) pieces) WrongLength _ (eq-eqb (length out) pieces exact) ∙ e

    pub out_of_range
        : in_range room ≡ false
        → (Err OutOfRange ≡ catalogue_of room server out) × (out ≡ catalogue_cells room server out)
    out_of_range h = leaves (Err OutOfRange) (past_length (Err OutOfRange) (fails (in_range room) OutOfRange _ h))

    module _ (range : in_range room ≡ true) where
      past_range
          : (r : Result Counts Refusal) → must (ltb server (sizes_of room).servers) BeyondRoom (Ok (counted (sizes_of room) room server)) ≡ r
          → catalogue_of room server out ≡ r
      past_range r e = past_length r (passes (in_range room) OutOfRange _ range ∙ e)

      pub no_server
          : (sizes_of room).servers ≤ server
          → (Err BeyondRoom ≡ catalogue_of room server out) × (out ≡ catalogue_cells room server out)
      no_server h =
          leaves (Err BeyondRoom)
          (past_range (Err BeyondRoom) (fails (ltb server (sizes_of room).servers) BeyondRoom _ (le-ltb server (sizes_of room).servers h)))

      pub accepts
          : server < (sizes_of room).servers
          → (Ok (counted (sizes_of room) room server) ≡ catalogue_of room server out)
          × ((entries_of (sizes_of room) room server).cells ≡ catalogue_cells room server out)
      accepts h =
          leaves (Ok (counted (sizes_of room) room server))
          (past_range (Ok (counted (sizes_of room) room server))
          (passes (ltb server (sizes_of room).servers) BeyondRoom _ (lt-ltb server (sizes_of room).servers h)))
