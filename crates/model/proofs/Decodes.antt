-- What has the shape of a room is read from its cells again.
use Prim.Native.Nat.{ℕ, zero, suc, ◌+◌, ◌*◌, ◌-◌, ◌<◌, ◌≤◌}
use mathlib.Core.Path.{◌≡◌, refl, ◌∙◌, sym, ap}
use mathlib.Core.List.{List, [], ◌∷◌, ◌++◌, append_assoc, append-nil}
use native.Mathlib.Omega.{arith}
use lib.ListN.{length, get_or, take, drop, length-append}
use lib.Seq.{take-take, drop-drop, take_at, drop_at}
use Rattle.std.specs.List.{flat_map}
use Rattle.std.proofs.lemmas.List.{drop-take}
use Rattle.command.specs.Command.{cabinets}
use Rattle.state.specs.Block.{blank}
use Rattle.state.specs.Server.{failed}
use Rattle.state.specs.declared.Sizes.{Sizes}
use Rattle.layout.specs.Places.{base, server_length, block_length, slot_length, slot_at, server_at, nth_block_at, block_at}
use Rattle.layout.specs.Cells.{off_of, limits_of, server_in, server_cells, server_of, block_in, block_cells, block_of}
use Rattle.layout.proofs.CellLaws.{server_moved, block_moved}
use Rattle.layout.proofs.PlaceLaws.{nth_of}
use Rattle.model.specs.Room.{SlotState, Room, no_slot, slot, seen_of, own, disk}
use Rattle.model.specs.Encoding.{slot_by, slot_cells, cells_of, room_by}
use Rattle.model.proofs.Shapes.{SlotShape, Shape}
use Rattle.model.proofs.Tables.{part, table_of, table_same}

module _ {A : Type 0} (enc : A → List ℕ) (w : ℕ) (d : A) where
  -- each part has this width
  abbrev pub Wide : List A → Type 0
  Wide items = (j : ℕ) → j < length items → length (enc (get_or items j d)) ≡ w

  pub later : (a : A) (items : List A) → Wide (a ∷ items) → Wide items
  later a items h j l = h (suc j) (omega arith)

  pub rows_length : (items : List A) → Wide items → length (flat_map enc items) ≡ length items * w
  rows_length [] h = omega arith
  rows_length (a ∷ items) h =
      omega (arith, length-append (enc a) (flat_map enc items), h 0 (omega arith), rows_length items (later a items h))

  -- the i-th part of the cells is that of the i-th of the list
  pub part_at : (items : List A) → Wide items → (i : ℕ) → i < length items → (rest : List ℕ) → part (flat_map enc items ++ rest) (i * w) w ≡ enc (get_or items i d)
  part_at [] h i l rest = absurd (omega arith)
  part_at (a ∷ items) h zero l rest =
      let e : zero * w ≡ 0 = omega arith in
      ap (λ (k : ℕ). take w (drop k ((enc a ++ flat_map enc items) ++ rest))) e
      ∙ ap (take w) (append_assoc (enc a) (flat_map enc items) rest)
      ∙ take_at (enc a) (flat_map enc items ++ rest) w (h 0 (omega arith))
  part_at (a ∷ items) h (suc i) l rest =
      let e : suc i * w ≡ w + i * w = omega arith in
      ap (λ (k : ℕ). take w (drop k ((enc a ++ flat_map enc items) ++ rest))) e
      ∙ ap (take w) (sym (drop-drop (i * w) w ((enc a ++ flat_map enc items) ++ rest)))
      ∙ ap (λ (xs : List ℕ). take w (drop (i * w) xs))
      (ap (drop w) (append_assoc (enc a) (flat_map enc items) rest) ∙ drop_at (enc a) (flat_map enc items ++ rest) w (h 0 (omega arith)))
      ∙ part_at items (later a items h) i (omega arith) rest

-- a part of a part, and a part behind a front
part_within : (xs ys : List ℕ) (a n b m : ℕ) → part xs a n ≡ ys → b + m ≤ n → part xs (a + b) m ≡ part ys b m
part_within xs ys a n b m e h =
    let front : b + (n - b) ≡ n = omega arith in
    ap (take m) (sym (drop-drop b a xs))
    ∙ sym (take-take m (n - b) (drop b (drop a xs)) (omega arith))
    ∙ ap (take m) (sym (drop-take b (n - b) (drop a xs)) ∙ ap (λ (k : ℕ). drop b (take k (drop a xs))) front)
    ∙ ap (λ (zs : List ℕ). take m (drop b zs)) e

part_behind : (front xs : List ℕ) (n b m : ℕ) → length front ≡ n → part (front ++ xs) (n + b) m ≡ part xs b m
part_behind front xs n b m e =
    ap (take m) (sym (drop-drop b n (front ++ xs))) ∙ ap (λ (zs : List ℕ). take m (drop b zs)) (drop_at front xs n e)

module _ (z : Sizes) (v : SlotState) (i : SlotShape z v) where
  pub drive_length : (d : ℕ) → d < length v.drives → length (flat_map block_cells (get_or v.drives d [])) ≡ block_length * z.servers
  drive_length d h =
      let e = i.drives in
      let f = i.rows d (omega arith) in
      omega (arith, rows_length block_cells block_length blank (get_or v.drives d []) (λ j l. refl))

  pub state_length : length (slot_cells v) ≡ slot_length z
  unfolding slot_length
  state_length =
      let e = i.servers in
      let f = i.drives in
      let m : length v.drives * (block_length * z.servers) ≡ z.drives * (block_length * z.servers) = ap (λ (k : ℕ). k * (block_length * z.servers)) f in
      omega (
        arith,
        length-append (flat_map server_cells v.servers) (flat_map (flat_map block_cells) v.drives),
        rows_length server_cells server_length failed v.servers (λ j l. refl),
        rows_length (flat_map block_cells) (block_length * z.servers) [] v.drives drive_length,
      )

  server_there : (p : ℕ) → p < z.servers → part (slot_cells v) (server_length * p) server_length ≡ server_cells (seen_of v p).own
  server_there p h =
      let e = i.servers in
      let k : server_length * p ≡ p * server_length = omega arith in
      ap (λ (n : ℕ). part (slot_cells v) n server_length) k
      ∙ part_at server_cells server_length failed v.servers (λ j l. refl) p (omega arith) (flat_map (flat_map block_cells) v.drives)

  block_there
      : (d p : ℕ) → d < z.drives → p < z.servers
      → part (slot_cells v) (server_length * z.servers + block_length * (d * z.servers + p)) block_length ≡ block_cells ((seen_of v p).disk d)
  block_there d p h l =
      let e = i.drives in
      let f = i.rows d h in
      let g = i.servers in
      let n = block_length * z.servers in
      let bs = get_or v.drives d [] in
      let k : block_length * (d * z.servers + p) ≡ d * n + p * block_length = omega arith in
      let front : length (flat_map server_cells v.servers) ≡ server_length * z.servers = omega (arith, rows_length server_cells server_length failed v.servers (λ j l. refl)) in
      let drives = flat_map (flat_map block_cells) v.drives in
      let row : part drives (d * n) n ≡ flat_map block_cells bs
      = ap (λ (xs : List ℕ). part xs (d * n) n) (sym (append-nil drives)) ∙ part_at (flat_map block_cells) n [] v.drives drive_length d (omega arith) [] in
      part_behind (flat_map server_cells v.servers) drives (server_length * z.servers) (block_length * (d * z.servers + p)) block_length front
      ∙ ap (λ (a : ℕ). part drives a block_length) k
      ∙ part_within drives (flat_map block_cells bs) (d * n) n (p * block_length) block_length row (omega arith)
      ∙ ap (λ (xs : List ℕ). part xs (p * block_length) block_length) (sym (append-nil (flat_map block_cells bs)))
      ∙ part_at block_cells block_length blank bs (λ j l. refl) p (omega arith) []

module _ (r : Room) (i : Shape r) where
  abbrev z : Sizes
  z = r.sizes

  -- slot s is its part of the cells
  slot_cells_there : (s : ℕ) → s < z.slots → part (cells_of r) (slot_at z s) (slot_length z) ≡ slot_cells (slot r s)
  unfolding cells_of slot_at
  slot_cells_there s h =
      let e = i.long in
      let eight = i.eight in
      let states = flat_map slot_cells r.slots in
      let head : List ℕ = z.servers ∷ z.drives ∷ z.slots ∷ r.off ∷ r.limits in
      part_behind head states base (s * slot_length z) (slot_length z) (omega arith)
      ∙ ap (λ (xs : List ℕ). part xs (s * slot_length z) (slot_length z)) (sym (append-nil states))
      ∙ part_at slot_cells (slot_length z) no_slot r.slots (λ j l. state_length z (slot r j) (i.slots j (omega arith))) s (omega arith) []

  pub own_again : (s p : ℕ) → s < z.slots → p < z.servers → server_of z (cells_of r) s p ≡ own r s p
  unfolding server_of server_at slot_length
  own_again s p h l =
      sym (server_moved (cells_of r) (slot_at z s + server_length * p))
      ∙ ap (λ (xs : List ℕ). server_in xs 0)
      (part_within (cells_of r) _ (slot_at z s) (slot_length z) (server_length * p) server_length (slot_cells_there s h) (omega arith)
      ∙ server_there z (slot r s) (i.slots s h) p l)

  pub disk_again : (s d p : ℕ) → s < z.slots → d < z.drives → p < z.servers → block_of z (cells_of r) s d p ≡ disk r s d p
  unfolding block_of block_at nth_block_at slot_length
  disk_again s d p h k l =
      let at = server_length * z.servers + block_length * (d * z.servers + p) in
      let same : slot_at z s + at ≡ slot_at z s + server_length * z.servers + block_length * (d * z.servers + p) = omega arith in
      sym (block_moved (cells_of r) (block_at z s d p))
      ∙ ap (λ (xs : List ℕ). block_in xs 0)
      (ap (λ (a : ℕ). part (cells_of r) a block_length) (sym same)
      ∙ part_within (cells_of r) _ (slot_at z s) (slot_length z) at block_length (slot_cells_there s h)
      (let n = nth_of z i.fit d p k l in omega arith)
      ∙ block_there z (slot r s) (i.slots s h) d p k l)

  pub read_again : room_by z (cells_of r) ≡ r
  unfolding room_by
  read_again =
      let off : ◌≡◌ {A = ℕ} (off_of (cells_of r)) r.off = unfold cells_of in refl in
      let limits : limits_of (cells_of r) ≡ r.limits = unfold cells_of in take_at r.limits (flat_map slot_cells r.slots) cabinets i.eight in
      let each : (s : ℕ) → s < z.slots → slot_by z (cells_of r) s ≡ slot r s
      = λ s h.
      let servers = table_same z.servers _ _ (λ p l. own_again s p h l) ∙ table_of (slot r s).servers z.servers failed (i.slots s h).servers in
      let drives = table_same z.drives _ _ (λ d k. table_same z.servers _ _ (λ p l. disk_again s d p h k l)
      ∙ table_of (get_or (slot r s).drives d []) z.servers blank ((i.slots s h).rows d k)) ∙ table_of (slot r s).drives z.drives [] (i.slots s h).drives in
      λ j. record { servers = servers j; drives = drives j } in
      let slots = table_same z.slots _ _ each ∙ table_of r.slots z.slots no_slot i.long in
      λ j. record { sizes = z; off = off j; limits = limits j; slots = slots j }
