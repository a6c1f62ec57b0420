-- What an effect stores in the cells of a room are the cells of the room that it makes, also where the room is not in range.
use Prim.Native.Nat.{ℕ, zero, suc, ◌<◌, ◌≤◌}
use mathlib.Core.Path.{◌≡◌, refl, ◌∙◌, sym, ap, ap₂, subst}
use mathlib.Core.List.{List, [], ◌∷◌, ◌++◌, map, map-append, append_assoc, append-nil}
use native.Mathlib.Omega.{arith}
use lib.ListN.{length, get_or, set, take, drop, drop_of_length-le}
use lib.Seq.{take_all, take-suc, drop-cons, length-take-le, get_or_at, set_at, get_or-set_same, set-set}
use Rattle.std.proofs.lemmas.List.{length-map}
use Rattle.state.specs.Server.{failed, own_block}
use Rattle.state.specs.declared.Server.{Server}
use Rattle.layout.specs.Cells.{put_server, put_block}
use Rattle.model.specs.Room.{SlotState, Room, no_slot, slot, record_on, block_on, with_slot, with_server, with_write, with_failure}
use Rattle.model.specs.Encoding.{cells_of}
use Rattle.model.proofs.Shapes.{Shape, record_shape, slot_shape}
use Rattle.model.proofs.Stores.{record_put, block_put}
use Rattle.room.specs.Step.{failed_below}

module _ (r : Room) (i : Shape r) where
  -- the first k slots failed
  abbrev below : ℕ → ℕ → Room
  below p k = record { sizes = r.sizes; off = r.off; limits = r.limits; slots = map (λ v. record_on v p failed) (take k r.slots) ++ drop k r.slots }

  below_next : (p k : ℕ) → k < length r.slots → (with_server (below p k) k p failed).slots ≡ (below p (suc k)).slots
  below_next p k h =
      let f : SlotState → SlotState = λ v. record_on v p failed in
      let l = r.slots in
      let front : List SlotState = map f (take k l) in
      let y : SlotState = get_or l k no_slot in
      let back : List SlotState = drop (suc k) l in
      let long : length front ≡ k = length-map (take k l) f ∙ length-take-le k l (omega arith) in
      ap (λ (t : List SlotState). set (front ++ t) k (f (get_or (front ++ t) k no_slot))) (drop-cons l k no_slot h)
      ∙ ap (λ (v : SlotState). set (front ++ y ∷ back) k (f v)) (get_or_at front y back no_slot k long)
      ∙ set_at front y back (f y) k long
      ∙ sym (ap (λ (t : List SlotState). map f t ++ back) (take-suc l k no_slot h) ∙ ap (λ (t : List SlotState). t ++ back) (map-append f (take k l) (y ∷ [])) ∙ append_assoc front (f y ∷ []) back)

  record Fails (p k : ℕ) : Type 0 where
    shape : Shape (below p k)
    cells : failed_below r.sizes p k (cells_of r) ≡ cells_of (below p k)

  fails : (p : ℕ) → p < r.sizes.servers → (k : ℕ) → k ≤ r.sizes.slots → Fails p k
  unfolding failed_below
  fails p l zero h = record { shape = i; cells = refl }
  fails p l (suc k) h =
      let e = i.long in
      let n = fails p l k (omega arith) in
      let is : with_server (below p k) k p failed ≡ below p (suc k)
      = λ j. record { sizes = r.sizes; off = r.off; limits = r.limits; slots = below_next p k (omega arith) j } in
      record {
        shape = subst Shape is (slot_shape (below p k) n.shape k _ (omega arith) (record_shape r.sizes _ (n.shape.slots k (omega arith)) p failed));
        cells =
            ap (λ (c : List ℕ). put_server r.sizes c k p failed) n.cells
            ∙ record_put (below p k) n.shape k p failed (omega arith) l
            ∙ ap cells_of is;
      }

  pub failure_put : (p : ℕ) → p < r.sizes.servers → failed_below r.sizes p r.sizes.slots (cells_of r) ≡ cells_of (with_failure r p)
  failure_put p l =
      let e = i.long in
      let f : SlotState → SlotState = λ v. record_on v p failed in
      let whole : map f (take r.sizes.slots r.slots) ++ drop r.sizes.slots r.slots ≡ map f r.slots
      = ap₂ (λ (x y : List SlotState). map f x ++ y) (take_all r.sizes.slots r.slots (omega arith)) (drop_of_length-le r.slots (omega arith)) ∙ append-nil (map f r.slots) in
      (fails p l r.sizes.slots (omega arith)).cells
      ∙ ap (λ (t : List SlotState). cells_of (record { sizes = r.sizes; off = r.off; limits = r.limits; slots = t })) whole

  pub written_put
      : (s d p : ℕ) (v : Server) → s < r.sizes.slots → d < r.sizes.drives → p < r.sizes.servers
      → put_block r.sizes (put_server r.sizes (cells_of r) s p v) s d p (own_block v) ≡ cells_of (with_write r s p d v)
  written_put s d p v h k l =
      let e = i.long in
      let x : SlotState = record_on (slot r s) p v in
      let there : slot (with_server r s p v) s ≡ x = get_or-set_same r.slots s x no_slot (omega arith) in
      ap (λ (t : List ℕ). put_block r.sizes t s d p (own_block v)) (record_put r i s p v h l)
      ∙ block_put (with_server r s p v) (slot_shape r i s x h (record_shape r.sizes (slot r s) (i.slots s h) p v)) s d p (own_block v) h k l
      ∙ ap (λ (y : SlotState). cells_of (with_slot (with_server r s p v) s (block_on y d p (own_block v)))) there
      ∙ ap (λ (t : List SlotState). cells_of (record r { slots = t })) (set-set r.slots s x (block_on x d p (own_block v)))
