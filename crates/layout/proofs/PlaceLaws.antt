-- Sizes that fit, and that places are within the room's length and behind its head.
use Prim.Native.Nat.{ℕ, ◌+◌, ◌*◌, ◌<◌, ◌≤◌}
use mathlib.Core.Path.{◌≡◌, ap}
use mathlib.Core.Bool.{true, ◌&&◌}
use mathlib.Core.List.{List}
use native.Mathlib.Omega.{arith}
use native.Mathlib.Nat.{mul-le-mul_right, mul-le-mul}
use lib.Arith.{digits_lt}
use lib.Dec.{leb, ltb}
use lib.ListN.{length}
use borrow.Author.Tests.{leb-true, le-leb, ltb-true}
use Rattle.lemmas.proofs.Tests.{and_left, and_right}
use Rattle.state.specs.declared.Sizes.{Sizes}
use Rattle.state.specs.Sizes.{in_room}
use Rattle.layout.specs.Places.{base, server_length, block_length, longest_slot, longest_room, slot_length, room_length, slot_at, server_at, nth_block_at, block_at, sizes_fit, has_record, Fit, Row}

-- the test of the sizes and the bounds say the same
pub fit_of : (z : Sizes) → sizes_fit z ≡ true → Fit z
unfolding sizes_fit
fit_of z e =
    let a = leb 1 z.servers in
    let b = leb z.servers 4 in
    let c = leb 1 z.drives in
    let d = leb z.drives 7 in
    let f = leb 1 z.slots in
    let g = leb z.slots 16 in
    let e5 = and_left (a && b && c && d && f) g e in
    let e4 = and_left (a && b && c && d) f e5 in
    let e3 = and_left (a && b && c) d e4 in
    let e2 = and_left (a && b) c e3 in
    record {
      one_server = leb-true 1 z.servers (and_left a b e2);
      servers = leb-true z.servers 4 (and_right a b e2);
      one_drive = leb-true 1 z.drives (and_right (a && b) c e3);
      drives = leb-true z.drives 7 (and_right (a && b && c) d e4);
      one_slot = leb-true 1 z.slots (and_right (a && b && c && d) f e5);
      slots = leb-true z.slots 16 (and_right (a && b && c && d && f) g e);
    }

pub of_fit : (z : Sizes) → Fit z → sizes_fit z ≡ true
unfolding sizes_fit
of_fit z f =
    simp (
      le-leb 1 z.servers f.one_server,
      le-leb z.servers 4 f.servers,
      le-leb 1 z.drives f.one_drive,
      le-leb z.drives 7 f.drives,
      le-leb 1 z.slots f.one_slot,
      le-leb z.slots 16 f.slots,
    )

-- the server and the slot that a room has, as bounds
pub record HasRecord (z : Sizes) (p s : ℕ) : Type 0 where
  pub fit : Fit z
  pub server : p < z.servers
  pub slot : s < z.slots

pub has_record_lem : (z : Sizes) (p s : ℕ) → has_record z p s ≡ true → HasRecord z p s
has_record_lem z p s e =
    let both = and_right (sizes_fit z) (in_room z p s) e in
    record {
      fit = fit_of z (and_left (sizes_fit z) (in_room z p s) e);
      server = ltb-true p z.servers (and_left (ltb p z.servers) (ltb s z.slots) both);
      slot = ltb-true s z.slots (and_right (ltb p z.servers) (ltb s z.slots) both);
    }

module _ (z : Sizes) (fit : Fit z) where
  -- how large a slot and a room are at most
  pub blocks_bound : z.drives * z.servers ≤ 28
  blocks_bound = mul-le-mul fit.drives fit.servers

  -- a slot has cells, and begins with those of its records
  pub slot_some : 0 < slot_length z
  unfolding slot_length
  slot_some = omega (arith, fit.one_server)

  pub records_within : server_length * z.servers ≤ slot_length z
  unfolding slot_length
  records_within = omega arith

  pub slot_bound : slot_length z ≤ longest_slot
  unfolding slot_length
  slot_bound = omega (arith, blocks_bound, fit.servers)

  -- s slots of S are at most S slots
  pub slots_within : (s : ℕ) → s < z.slots → s * slot_length z + slot_length z ≤ z.slots * slot_length z
  slots_within s h =
      let l : s + 1 ≤ z.slots = omega arith in
      omega (arith, mul-le-mul_right (slot_length z) l)

  -- a product of the code, whose factor is the slot's length, is small
  pub slots_small : (s l : ℕ) → l ≡ slot_length z → s ≤ z.slots → s * l ≤ 16 * longest_slot
  slots_small s l e h =
      let b : s ≤ 16 = omega (arith, fit.slots) in
      let c : l ≤ longest_slot = omega (arith, slot_bound) in
      mul-le-mul b c

  pub room_bound : room_length z ≤ longest_room
  unfolding room_length
  room_bound = omega (arith, mul-le-mul fit.slots slot_bound)

  -- a part of slot s at an offset is within the room
  within_room : (s o n : ℕ) → s < z.slots → o + n ≤ slot_length z → slot_at z s + o + n ≤ room_length z
  unfolding slot_at room_length
  within_room s o n h l = omega (arith, slots_within s h)

  -- the parts of slot s, in the code's own terms: l is the slot's length and n the room's
  pub slot_within
      : (s l n : ℕ) → l ≡ slot_length z → s < z.slots → n ≡ room_length z
      → base + s * l + server_length * z.servers + block_length * (z.drives * z.servers) ≤ n
  unfolding slot_length room_length
  slot_within s l n e h r =
      let m : s * l ≡ s * slot_length z = ap (λ (x : ℕ). s * x) e in
      omega (arith, slots_within s h)

  record_in_slot : (p : ℕ) → p < z.servers → server_length * p + server_length ≤ slot_length z
  unfolding slot_length
  record_in_slot p h = omega arith

  block_in_slot : (k : ℕ) → k < z.drives * z.servers → server_length * z.servers + block_length * k + block_length ≤ slot_length z
  unfolding slot_length
  block_in_slot k h = omega arith

  pub server_within : (s p : ℕ) → s < z.slots → p < z.servers → server_at z s p + server_length ≤ room_length z
  unfolding server_at
  server_within s p h l = within_room s (server_length * p) server_length h (record_in_slot p l)

  pub nth_within : (s k : ℕ) → s < z.slots → k < z.drives * z.servers → nth_block_at z s k + block_length ≤ room_length z
  unfolding nth_block_at
  nth_within s k h l =
      omega (arith, within_room s (server_length * z.servers + block_length * k) block_length h (block_in_slot k l))

  pub nth_of : (d p : ℕ) → d < z.drives → p < z.servers → d * z.servers + p < z.drives * z.servers
  nth_of d p h l = digits_lt h l

  -- a block's number in its slot is small
  pub nth_small : (d p : ℕ) → d < z.drives → p < z.servers → d * z.servers + p < 28
  nth_small d p h l = omega (arith, blocks_bound, nth_of d p h l)

  pub block_within : (s d p : ℕ) → s < z.slots → d < z.drives → p < z.servers → block_at z s d p + block_length ≤ room_length z
  unfolding block_at
  block_within s d p h l k = nth_within s (d * z.servers + p) h (nth_of d p l k)

  -- nothing of a slot is in the cells before the first slot
  pub base_server : (s p : ℕ) → base ≤ server_at z s p
  unfolding server_at slot_at
  base_server s p = omega arith

  pub base_nth : (s k : ℕ) → base ≤ nth_block_at z s k
  unfolding nth_block_at slot_at
  base_nth s k = omega arith

  pub base_room : base ≤ room_length z
  unfolding room_length
  base_room = omega arith

-- the head of a room is in its row
pub row_head : (z : Sizes) (cells : List ℕ) → Row z cells → base ≤ length cells
row_head z cells r = omega (arith, base_room z r.fit, r.exact)

-- n cells from a place on are in the row, and the row is short
pub record Inside (cells : List ℕ) (at n : ℕ) : Type 0 where
  pub end : at + n ≤ length cells
  pub short : length cells ≤ longest_room

-- a part at the place that was computed for it
module _ (z : Sizes) (cells : List ℕ) (row : Row z cells) where
  inside : (at place n : ℕ) → at ≡ place → place + n ≤ room_length z → Inside cells at n
  inside at place n e h =
      record {
        end = omega (arith, row.exact);
        short = omega (arith, row.exact, room_bound z row.fit);
      }

  pub server_inside : (at s p : ℕ) → at ≡ server_at z s p → s < z.slots → p < z.servers → Inside cells at server_length
  server_inside at s p e h l = inside at (server_at z s p) server_length e (server_within z row.fit s p h l)

  pub block_inside
      : (at s d p : ℕ) → at ≡ block_at z s d p → s < z.slots → d < z.drives → p < z.servers
      → Inside cells at block_length
  block_inside at s d p e h l k = inside at (block_at z s d p) block_length e (block_within z row.fit s d p h l k)
