-- Cells stored at a place of a room's cells are the cells of the room with that record, that block or those marks, also where
-- the room is not in range.
use Prim.Native.Nat.{ℕ, zero, suc, ◌+◌, ◌*◌, ◌<◌, ◌≤◌}
use mathlib.Core.Path.{◌≡◌, refl, ◌∙◌, ap}
use mathlib.Core.List.{List, [], ◌∷◌, ◌++◌, append-nil}
use native.Mathlib.Omega.{arith}
use lib.ListN.{length, get_or, set, drop, length-set, drop_of_length-le}
use lib.Seq.{sets, sets-eq, set-append_left}
use Rattle.std.specs.List.{flat_map}
use Rattle.state.specs.Block.{blank}
use Rattle.state.specs.Server.{failed}
use Rattle.state.specs.declared.Block.{Block}
use Rattle.state.specs.declared.Server.{Server}
use Rattle.state.specs.declared.Sizes.{Sizes}
use Rattle.layout.specs.Places.{base, server_length, block_length, slot_length, slot_at, server_at, nth_block_at, block_at}
use Rattle.layout.specs.Cells.{put_server, put_block, server_cells, block_cells, off_at}
use Rattle.layout.proofs.CellLaws.{put_sets}
use Rattle.layout.proofs.PlaceLaws.{nth_of}
use Rattle.model.specs.Room.{SlotState, Room, no_slot, slot, record_on, block_on, with_slot, with_server, with_off}
use Rattle.model.specs.Encoding.{slot_cells, cells_of}
use Rattle.model.proofs.Decodes.{Wide, later, drive_length, state_length, rows_length}
use Rattle.model.proofs.Shapes.{SlotShape, Shape}

-- cells stored in the front of a row, in its back, and as the whole of it
sets_left : (vs xs ys : List ℕ) (i : ℕ) → i + length vs ≤ length xs → sets (xs ++ ys) i vs ≡ sets xs i vs ++ ys
sets_left [] xs ys i h = refl
sets_left (v ∷ vs) xs ys i h =
    let n = length-set xs i v in
    ap (λ (l : List ℕ). sets l (suc i) vs) (set-append_left xs ys i v (omega arith)) ∙ sets_left vs (set xs i v) ys (suc i) (omega arith)

sets_deeper : (x : ℕ) (l vs : List ℕ) (i : ℕ) → sets (x ∷ l) (suc i) vs ≡ x ∷ sets l i vs
sets_deeper x l [] i = refl
sets_deeper x l (v ∷ vs) i = sets_deeper x (set l i v) vs (suc i)

sets_right : (xs ys vs : List ℕ) (n i : ℕ) → length xs ≡ n → sets (xs ++ ys) (n + i) vs ≡ xs ++ sets ys i vs
sets_right [] ys vs n i e = let f : n + i ≡ i = omega arith in ap (λ (k : ℕ). sets ys k vs) f
sets_right (x ∷ xs) ys vs n i e =
    let f : n + i ≡ suc (length xs + i) = omega arith in
    ap (λ (k : ℕ). sets (x ∷ (xs ++ ys)) k vs) f ∙ sets_deeper x (xs ++ ys) vs (length xs + i) ∙ ap (λ (l : List ℕ). x ∷ l) (sets_right xs ys vs (length xs) i refl)

sets_whole : (xs vs : List ℕ) → length vs ≡ length xs → sets xs 0 vs ≡ vs
sets_whole xs vs e =
    let none : drop (0 + length vs) xs ≡ [] = drop_of_length-le xs (omega arith) in
    sets-eq vs xs 0 (omega arith) ∙ ap (λ (l : List ℕ). vs ++ l) none ∙ append-nil vs

module _ {A : Type 0} (enc : A → List ℕ) (w : ℕ) (d : A) where
  -- cells stored within the i-th part change that part of the list
  sets_rows
      : (items : List A) → Wide enc w d items → (i b : ℕ) (vs : List ℕ) (a : A) → i < length items → b + length vs ≤ w
      → sets (enc (get_or items i d)) b vs ≡ enc a → sets (flat_map enc items) (i * w + b) vs ≡ flat_map enc (set items i a)
  sets_rows [] h i b vs a l k e = absurd (omega arith)
  sets_rows (x ∷ items) h zero b vs a l k e =
      let n : zero * w + b ≡ b = omega arith in
      let wide = h 0 (omega arith) in
      ap (λ (j : ℕ). sets (enc x ++ flat_map enc items) j vs) n
      ∙ sets_left vs (enc x) (flat_map enc items) b (omega arith)
      ∙ ap (λ (l : List ℕ). l ++ flat_map enc items) e
  sets_rows (x ∷ items) h (suc i) b vs a l k e =
      let n : suc i * w + b ≡ w + (i * w + b) = omega arith in
      ap (λ (j : ℕ). sets (enc x ++ flat_map enc items) j vs) n
      ∙ sets_right (enc x) (flat_map enc items) vs w (i * w + b) (h 0 (omega arith))
      ∙ ap (λ (l : List ℕ). enc x ++ l) (sets_rows items (later enc w d x items h) i b vs a (omega arith) k e)

module _ (z : Sizes) (v : SlotState) (i : SlotShape z v) where
  abbrev records : List ℕ
  records = flat_map server_cells v.servers

  abbrev drives : List ℕ
  drives = flat_map (flat_map block_cells) v.drives

  records_length : length records ≡ server_length * z.servers
  records_length = let g = i.servers in omega (arith, rows_length server_cells server_length failed v.servers (λ j l. refl))

  record_stored : (p : ℕ) (u : Server) → p < z.servers → sets (slot_cells v) (server_length * p) (server_cells u) ≡ slot_cells (record_on v p u)
  record_stored p u h =
      let g = i.servers in
      let k : server_length * p ≡ p * server_length + 0 = omega arith in
      let n = records_length in
      sets_left (server_cells u) records drives (server_length * p) (omega arith)
      ∙ ap (λ (j : ℕ). sets records j (server_cells u) ++ drives) k
      ∙ ap (λ (l : List ℕ). l ++ drives)
      (sets_rows server_cells server_length failed v.servers (λ j l. refl) p 0 (server_cells u) u (omega arith) (omega arith)
      (sets_whole (server_cells (get_or v.servers p failed)) (server_cells u) refl))

  block_stored
      : (d p : ℕ) (b : Block) → d < z.drives → p < z.servers
      → sets (slot_cells v) (server_length * z.servers + block_length * (d * z.servers + p)) (block_cells b) ≡ slot_cells (block_on v d p b)
  block_stored d p b h l =
      let e = i.drives in
      let f = i.rows d h in
      let n = block_length * z.servers in
      let bs = get_or v.drives d [] in
      let k : block_length * (d * z.servers + p) ≡ d * n + (p * block_length + 0) = omega arith in
      sets_right records drives (block_cells b) (server_length * z.servers) (block_length * (d * z.servers + p)) records_length
      ∙ ap (λ (j : ℕ). records ++ sets drives j (block_cells b)) k
      ∙ ap (λ (l : List ℕ). records ++ l)
      (sets_rows (flat_map block_cells) n [] v.drives (drive_length z v i) d (p * block_length + 0) (block_cells b) (set bs p b) (omega arith) (omega arith)
      (sets_rows block_cells block_length blank bs (λ j l. refl) p 0 (block_cells b) b (omega arith) (omega arith)
      (sets_whole (block_cells (get_or bs p blank)) (block_cells b) refl)))

module _ (r : Room) (i : Shape r) where
  -- cells stored in slot s
  slot_stored
      : (s b : ℕ) (vs : List ℕ) (v : SlotState) → s < r.sizes.slots → b + length vs ≤ slot_length r.sizes
      → sets (slot_cells (slot r s)) b vs ≡ slot_cells v → sets (cells_of r) (slot_at r.sizes s + b) vs ≡ cells_of (with_slot r s v)
  unfolding cells_of slot_at
  slot_stored s b vs v h k e =
      let long = i.long in
      let eight = i.eight in
      let head : List ℕ = r.sizes.servers ∷ r.sizes.drives ∷ r.sizes.slots ∷ r.off ∷ r.limits in
      let at : base + s * slot_length r.sizes + b ≡ base + (s * slot_length r.sizes + b) = omega arith in
      ap (λ (j : ℕ). sets (head ++ flat_map slot_cells r.slots) j vs) at
      ∙ sets_right head (flat_map slot_cells r.slots) vs base (s * slot_length r.sizes + b) (omega arith)
      ∙ ap (λ (l : List ℕ). head ++ l)
      (sets_rows slot_cells (slot_length r.sizes) no_slot r.slots
      (λ j l. state_length r.sizes (slot r j) (i.slots j (omega arith))) s b vs v (omega arith) k e)

  server_stored
      : (s p : ℕ) (u : Server) → s < r.sizes.slots → p < r.sizes.servers
      → sets (cells_of r) (server_at r.sizes s p) (server_cells u) ≡ cells_of (with_server r s p u)
  unfolding server_at slot_length
  server_stored s p u h l =
      slot_stored s (server_length * p) (server_cells u) _ h (omega arith) (record_stored r.sizes (slot r s) (i.slots s h) p u l)

  disk_stored
      : (s d p : ℕ) (b : Block) → s < r.sizes.slots → d < r.sizes.drives → p < r.sizes.servers
      → sets (cells_of r) (block_at r.sizes s d p) (block_cells b) ≡ cells_of (with_slot r s (block_on (slot r s) d p b))
  unfolding block_at nth_block_at slot_length
  disk_stored s d p b h k l =
      let at : slot_at r.sizes s + server_length * r.sizes.servers + block_length * (d * r.sizes.servers + p) ≡ slot_at r.sizes s + (server_length * r.sizes.servers + block_length * (d * r.sizes.servers + p)) = omega arith in
      ap (λ (j : ℕ). sets (cells_of r) j (block_cells b)) at
      ∙ slot_stored s _ (block_cells b) _ h (let n = nth_of r.sizes i.fit d p k l in omega arith)
      (block_stored r.sizes (slot r s) (i.slots s h) d p b k l)

  pub marks_stored : (m : ℕ) → set (cells_of r) off_at m ≡ cells_of (with_off r m)
  unfolding cells_of
  marks_stored m = refl

  -- and so they are where they are stored cell by cell
  pub record_put : (s p : ℕ) (v : Server) → s < r.sizes.slots → p < r.sizes.servers → put_server r.sizes (cells_of r) s p v ≡ cells_of (with_server r s p v)
  unfolding put_server
  record_put s p v h l = put_sets (cells_of r) (server_at r.sizes s p) (server_cells v) ∙ server_stored s p v h l

  pub block_put
      : (s d p : ℕ) (b : Block) → s < r.sizes.slots → d < r.sizes.drives → p < r.sizes.servers
      → put_block r.sizes (cells_of r) s d p b ≡ cells_of (with_slot r s (block_on (slot r s) d p b))
  unfolding put_block
  block_put s d p b h k l = put_sets (cells_of r) (block_at r.sizes s d p) (block_cells b) ∙ disk_stored s d p b h k l
