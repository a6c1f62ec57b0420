-- The slots of a room as rows of their own are the room's slots.
use Prim.Native.Nat.{ℕ, ◌+◌, ◌*◌, ◌/◌, ◌<◌, ◌≤◌}
use mathlib.Core.Path.{◌≡◌, refl, ◌∙◌, ap, ap₂}
use mathlib.Core.Bool.{Bool, ◌&&◌}
use mathlib.Core.List.{List}
use native.Mathlib.Omega.{arith}
use lib.ListN.{length, get_or, take, drop}
use Rattle.std.specs.List.{list_all}
use Rattle.std.specs.Simd.{first_chunks}
use Rattle.std.proofs.lemmas.Nat.{div-mul-add}
use Rattle.std.proofs.lemmas.List.{get_or-take, get_or-drop, length-drop, length-take-le}
use Rattle.quorum.specs.Sets.{all_below}
use Rattle.state.specs.declared.Sizes.{Sizes}
use Rattle.layout.specs.Places.{base, server_length, block_length, slot_length, room_length, slot_at, server_at, nth_block_at, Row}
use Rattle.layout.specs.Cells.{server_in, server_of, block_in}
use Rattle.layout.proofs.PlaceLaws.{slot_within}
use Rattle.range.specs.Range.{masks_of, server_fits, block_fits, chunks, every_block, slot_in, servers_fit, blocks_fit, slot_fits}
use Rattle.range.proofs.Chunks.{every_chunk, all_below_same}

-- a cell of a part, and a record and a block by their cells
part_at : (n k : ℕ) (xs : List ℕ) (i : ℕ) → i < n → get_or (take n (drop k xs)) i 0 ≡ get_or xs (k + i) 0
part_at n k xs i h = get_or-take n (drop k xs) i 0 h ∙ get_or-drop k xs i 0

module _ (xs ys : List ℕ) (b : ℕ) where
  start : get_or xs 0 0 ≡ get_or ys (b + 0) 0 → get_or xs 0 0 ≡ get_or ys b 0
  start e = let f : b + 0 ≡ b = omega arith in e ∙ ap (λ (k : ℕ). get_or ys k 0) f

  server_same : ((i : ℕ) → i < server_length → get_or xs i 0 ≡ get_or ys (b + i) 0) → server_in xs 0 ≡ server_in ys b
  server_same h =
      let a0 = start (h 0 (omega arith)) in
      let a1 = h 1 (omega arith) in
      let a2 = h 2 (omega arith) in
      let a3 = h 3 (omega arith) in
      let a4 = h 4 (omega arith) in
      let a5 = h 5 (omega arith) in
      let a6 = h 6 (omega arith) in
      let a7 = h 7 (omega arith) in
      let a8 = h 8 (omega arith) in
      let a9 = h 9 (omega arith) in
      let a10 = h 10 (omega arith) in
      λ i. record { phase = a0 i; mbal = a1 i; bal = a2 i; inp = a3 i; offer = a4 i; top = a5 i; seenbal = a6 i; seeninp = a7 i; written = a8 i; read = a9 i; agreed = a10 i }

  block_same : ((i : ℕ) → i < block_length → get_or xs i 0 ≡ get_or ys (b + i) 0) → block_in xs 0 ≡ block_in ys b
  block_same h =
      let a0 = start (h 0 (omega arith)) in
      let a1 = h 1 (omega arith) in
      let a2 = h 2 (omega arith) in
      let a3 = h 3 (omega arith) in
      λ i. record { mbal = a0 i; bal = a1 i; inp = a2 i; done = a3 i }

module _ (value : ℕ → Bool) (z : Sizes) (row : List ℕ) (r : Row z row) where
  abbrev slot : ℕ → List ℕ
  slot s = take (slot_length z) (drop (s * slot_length z) (drop base row))

  abbrev records : ℕ
  records = server_length * z.servers

  module _ (s : ℕ) (h : s < z.slots) where
    inside : base + s * slot_length z + slot_length z ≤ length row
    unfolding slot_length
    inside = let e = slot_within z r.fit s (slot_length z) (length row) refl h r.exact in omega arith

    long : length (slot s) ≡ slot_length z
    long =
        let a = length-drop base row in
        let b = length-drop (s * slot_length z) (drop base row) in
        let i = inside in
        length-take-le (slot_length z) (drop (s * slot_length z) (drop base row)) (omega arith)

    cell : (i : ℕ) → i < slot_length z → get_or (slot s) i 0 ≡ get_or row (base + (s * slot_length z + i)) 0
    cell i l = part_at (slot_length z) (s * slot_length z) (drop base row) i l ∙ get_or-drop base row (s * slot_length z + i) 0

    servers : list_all (λ cells. server_fits value (masks_of z) (server_in cells 0)) (chunks server_length (take records (slot s))) ≡ servers_fit value z row s
    unfolding servers_fit server_of server_at slot_at slot_length
    servers =
        let e = long in
        let m : length (take records (slot s)) / server_length ≡ z.servers
        = ap (λ (k : ℕ). k / server_length) (length-take-le records (slot s) (omega arith)) ∙ omega arith in
        ap (λ (k : ℕ). list_all (λ cells. server_fits value (masks_of z) (server_in cells 0)) (first_chunks server_length k (take records (slot s)))) m
        ∙ every_chunk (λ cells. server_fits value (masks_of z) (server_in cells 0)) server_length z.servers (take records (slot s))
        ∙ all_below_same z.servers _ _
        (λ p l.
        ap (server_fits value (masks_of z))
        (server_same _ row (server_at z s p)
        (λ i k.
        let n : base + (s * slot_length z + (p * server_length + i)) ≡ server_at z s p + i = omega arith in
        part_at server_length (p * server_length) (take records (slot s)) i k
        ∙ get_or-take records (slot s) (p * server_length + i) 0 (omega arith)
        ∙ cell (p * server_length + i) (omega arith)
        ∙ ap (λ (t : ℕ). get_or row t 0) n)))

    blocks : every_block (block_fits value) (chunks block_length (drop records (slot s))) ≡ blocks_fit value z row s
    unfolding blocks_fit nth_block_at slot_at slot_length
    blocks =
        let e = long in
        let d = length-drop records (slot s) in
        let m : length (drop records (slot s)) / block_length ≡ z.drives * z.servers = omega arith in
        ap (λ (k : ℕ). every_block (block_fits value) (first_chunks block_length k (drop records (slot s)))) m
        ∙ every_chunk (λ cells. block_fits value (block_in cells 0)) block_length (z.drives * z.servers) (drop records (slot s))
        ∙ all_below_same (z.drives * z.servers) _ _
        (λ j l.
        ap (block_fits value)
        (block_same _ row (nth_block_at z s j)
        (λ i k.
        let n : base + (s * slot_length z + (records + (j * block_length + i))) ≡ nth_block_at z s j + i = omega arith in
        part_at block_length (j * block_length) (drop records (slot s)) i k
        ∙ get_or-drop records (slot s) (j * block_length + i) 0
        ∙ cell (records + (j * block_length + i)) (omega arith)
        ∙ ap (λ (t : ℕ). get_or row t 0) n)))

    one : slot_in value (masks_of z) records (slot s) ≡ slot_fits value z row s
    unfolding slot_fits
    one = ap₂ ◌&&◌ servers blocks

  count : length (drop base row) / slot_length z ≡ z.slots
  unfolding room_length slot_length
  count =
      let f = r.fit in
      let a = length-drop base row in
      let b : length (drop base row) ≡ z.slots * slot_length z + 0 = omega (arith, r.exact) in
      ap (λ (k : ℕ). k / slot_length z) b ∙ div-mul-add z.slots (slot_length z) 0 (omega (arith, r.fit))

  pub slots_as_rule
      : list_all (slot_in value (masks_of z) records) (chunks (slot_length z) (drop base row)) ≡ all_below z.slots (slot_fits value z row)
  slots_as_rule =
      ap (λ (k : ℕ). list_all (slot_in value (masks_of z) records) (first_chunks (slot_length z) k (drop base row))) count
      ∙ every_chunk (slot_in value (masks_of z) records) (slot_length z) z.slots (drop base row)
      ∙ all_below_same z.slots _ _ one
