-- The shape of a slot and of a room, part by part; what they hold, by any test of a value; and that a change keeps both. Nothing
-- of cells is used here.
use Prim.Native.Nat.{ℕ, zero, suc, ◌<◌}
use mathlib.Core.Path.{◌≡◌, refl, ◌∙◌, ap}
use mathlib.Core.Bool.{Bool, true, ◌&&◌}
use mathlib.Core.List.{List, [], ◌∷◌}
use lib.Dec.{eqb}
use lib.ListN.{length, get_or, set, length-set, get_or-map}
use native.Mathlib.Omega.{arith}
use borrow.Author.Tests.{eqb-true, eq-eqb}
use Rattle.std.specs.List.{list_all}
use Rattle.std.proofs.lemmas.List.{length-map}
use Rattle.lemmas.proofs.Tests.{and_left, and_right, and_intro}
use Rattle.command.specs.Command.{cabinets, limits_fit}
use Rattle.quorum.specs.Sets.{within}
use Rattle.state.specs.Block.{blank}
use Rattle.state.specs.Server.{failed}
use Rattle.state.specs.declared.Block.{Block}
use Rattle.state.specs.declared.Server.{Server}
use Rattle.state.specs.declared.Sizes.{Sizes}
use Rattle.synod.specs.Slot.{Node, updated}
use Rattle.synod.proofs.Machine.{with_record}
use Rattle.synod.proofs.Update.{everywhere, updated_map}
use Rattle.layout.specs.Places.{sizes_fit, Fit}
use Rattle.layout.proofs.PlaceLaws.{fit_of, of_fit}
use Rattle.range.specs.Range.{legal_drives, masks_of, server_fits, block_fits}
use Rattle.range.proofs.RecordLaws.{ServerIn, BlockIn, says_server, says_block}
use Rattle.model.specs.Room.{SlotState, Room, no_slot, slot, seen_of, record_on, block_on, with_slot, with_failure, with_off}
use Rattle.model.specs.Fits.{slot_shaped, shaped, slot_fits_by, fits_by}
use Rattle.model.proofs.Tables.{got_set, held_set}

-- what holds at each place of a list holds of each element, and the other way round
all_got : {A : Type 0} (q : A → Bool) (l : List A) (d : A) → ((i : ℕ) → i < length l → q (get_or l i d) ≡ true) → list_all q l ≡ true
all_got q [] d h = refl
all_got q (x ∷ xs) d h = and_intro (q x) (list_all q xs) (h 0 (omega arith)) (all_got q xs d (λ i l. h (suc i) (omega arith)))

got_all : {A : Type 0} (q : A → Bool) (l : List A) (d : A) → list_all q l ≡ true → (i : ℕ) → i < length l → q (get_or l i d) ≡ true
got_all q [] d e i h = absurd (omega arith)
got_all q (x ∷ xs) d e zero h = and_left (q x) (list_all q xs) e
got_all q (x ∷ xs) d e (suc i) h = got_all q xs d (and_right (q x) (list_all q xs) e) i (omega arith)

-- the lists of a slot, and of a room, are as long as the sizes say
pub record SlotShape (z : Sizes) (v : SlotState) : Type 0 where
  pub servers : length v.servers ≡ z.servers
  pub drives : length v.drives ≡ z.drives
  pub rows : (d : ℕ) → d < z.drives → length (get_or v.drives d []) ≡ z.servers

pub record Shape (r : Room) : Type 0 where
  pub fit : Fit r.sizes
  pub eight : length r.limits ≡ cabinets
  pub long : length r.slots ≡ r.sizes.slots
  pub slots : (s : ℕ) → s < r.sizes.slots → SlotShape r.sizes (slot r s)

-- what they hold is in range
pub record SlotIn (value : ℕ → Bool) (z : Sizes) (v : SlotState) : Type 0 where
  pub records : (p : ℕ) → p < z.servers → ServerIn value (masks_of z) (seen_of v p).own
  pub blocks : (d p : ℕ) → d < z.drives → p < z.servers → BlockIn value ((seen_of v p).disk d)

pub record RoomIn (value : ℕ → Bool) (r : Room) : Type 0 where
  pub hoards : limits_fit r.limits ≡ true
  pub off : within r.off (legal_drives r.sizes) ≡ true
  pub slots : (s : ℕ) → s < r.sizes.slots → SlotIn value r.sizes (slot r s)

-- the tests say the same
shape_of_slot : (z : Sizes) (v : SlotState) → slot_shaped z v ≡ true → SlotShape z v
unfolding slot_shaped
shape_of_slot z v e =
    let a = eqb (length v.servers) z.servers in
    let b = eqb (length v.drives) z.drives in
    let c = list_all (λ (bs : List Block). eqb (length bs) z.servers) v.drives in
    let rest = and_right a (b && c) e in
    let long = eqb-true (length v.drives) z.drives (and_left b c rest) in
    record {
      servers = eqb-true (length v.servers) z.servers (and_left a (b && c) e);
      drives = long;
      rows =
          λ d h.
          eqb-true (length (get_or v.drives d [])) z.servers
          (got_all (λ (bs : List Block). eqb (length bs) z.servers) v.drives [] (and_right b c rest) d (omega arith));
    }

pub shape_of : (r : Room) → shaped r ≡ true → Shape r
unfolding shaped
shape_of r e =
    let a = sizes_fit r.sizes in
    let b = eqb (length r.limits) cabinets in
    let c = eqb (length r.slots) r.sizes.slots in
    let d = list_all (slot_shaped r.sizes) r.slots in
    let rest = and_right a (b && (c && d)) e in
    let last = and_right b (c && d) rest in
    let long = eqb-true (length r.slots) r.sizes.slots (and_left c d last) in
    record {
      fit = fit_of r.sizes (and_left a (b && (c && d)) e);
      eight = eqb-true (length r.limits) cabinets (and_left b (c && d) rest);
      long = long;
      slots = λ s h. shape_of_slot r.sizes (slot r s) (got_all (slot_shaped r.sizes) r.slots no_slot (and_right c d last) s (omega arith));
    }

of_slot_shape : (z : Sizes) (v : SlotState) → SlotShape z v → slot_shaped z v ≡ true
unfolding slot_shaped
of_slot_shape z v i =
    let e = i.drives in
    and_intro _ _ (eq-eqb (length v.servers) z.servers i.servers)
    (and_intro _ _ (eq-eqb (length v.drives) z.drives i.drives)
    (all_got (λ (bs : List Block). eqb (length bs) z.servers) v.drives []
    (λ d h. eq-eqb (length (get_or v.drives d [])) z.servers (i.rows d (omega arith)))))

pub of_shape : (r : Room) → Shape r → shaped r ≡ true
unfolding shaped
of_shape r i =
    let e = i.long in
    and_intro _ _ (of_fit r.sizes i.fit)
    (and_intro _ _ (eq-eqb (length r.limits) cabinets i.eight)
    (and_intro _ _ (eq-eqb (length r.slots) r.sizes.slots i.long)
    (all_got (slot_shaped r.sizes) r.slots no_slot (λ s h. of_slot_shape r.sizes (slot r s) (i.slots s (omega arith))))))

slot_holds : (value : ℕ → Bool) (z : Sizes) (v : SlotState) → SlotShape z v → SlotIn value z v → slot_fits_by value z v ≡ true
slot_holds value z v i k =
    let e = i.servers in
    let f = i.drives in
    and_intro _ _
    (all_got (server_fits value (masks_of z)) v.servers failed (λ p l. says_server value (masks_of z) _ (k.records p (omega arith))))
    (all_got (list_all (block_fits value)) v.drives []
    (λ d h.
    all_got (block_fits value) (get_or v.drives d []) blank
    (λ p l. let g = i.rows d (omega arith) in says_block value _ (k.blocks d p (omega arith) (omega arith)))))

pub room_holds : (value : ℕ → Bool) (r : Room) → Shape r → RoomIn value r → fits_by value r ≡ true
unfolding fits_by
room_holds value r i k =
    let e = i.long in
    and_intro _ _ k.hoards
    (and_intro _ _ k.off
    (all_got (slot_fits_by value r.sizes) r.slots no_slot
    (λ s l. slot_holds value r.sizes (slot r s) (i.slots s (omega arith)) (k.slots s (omega arith)))))

-- a slot whose record or block is changed is seen with that node
pub seen_record : (v : SlotState) (p : ℕ) (w : Server) → p < length v.servers → seen_of (record_on v p w) ≡ updated (seen_of v) p (with_record (seen_of v p) w)
seen_record v p w h =
    let here : (q : ℕ) → seen_of (record_on v p w) q ≡ updated (seen_of v) p (with_record (seen_of v p) w) q =
    everywhere (λ q (n : Node). seen_of (record_on v p w) q ≡ n) (seen_of v) p (with_record (seen_of v p) w)
    (λ i. record { own = lib.Seq.get_or-set_same v.servers p w failed h i; disk = (seen_of v p).disk })
    (λ q n i. record { own = lib.Seq.get_or-set_other v.servers p q w failed n i; disk = (seen_of v q).disk }) in
    λ i q. here q i

pub seen_block
    : (v : SlotState) (d p : ℕ) (b : Block) → d < length v.drives → p < length (get_or v.drives d [])
    → seen_of (block_on v d p b) ≡ updated (seen_of v) p (record { own = (seen_of v p).own; disk = updated (seen_of v p).disk d b })
seen_block v d p b h l =
    let row : List Block = set (get_or v.drives d []) p b in
    -- drive e's blocks
    let drive : (e : ℕ) → get_or (set v.drives d row) e [] ≡ updated (λ k. get_or v.drives k []) d row e = got_set v.drives d row [] h in
    let disk : (q e : ℕ) → get_or (get_or (set v.drives d row) e []) q blank ≡ updated (seen_of v q).disk d (get_or row q blank) e
    = λ q e. ap (λ (bs : List Block). get_or bs q blank) (drive e) ∙ updated_map (λ (bs : List Block). get_or bs q blank) (λ k. get_or v.drives k []) d row e in
    let here : (q : ℕ) → seen_of (block_on v d p b) q ≡ updated (seen_of v) p (record { own = (seen_of v p).own; disk = updated (seen_of v p).disk d b }) q =
    everywhere (λ q (n : Node). seen_of (block_on v d p b) q ≡ n) (seen_of v) p _
    (λ i. record { own = (seen_of v p).own; disk = λ e. (disk p e ∙ ap (λ (x : Block). updated (seen_of v p).disk d x e) (lib.Seq.get_or-set_same (get_or v.drives d []) p b blank l)) i })
    (λ q n i. record {
      own = (seen_of v q).own;
      disk = λ e. (disk q e
          ∙ everywhere (λ k x. x ≡ (seen_of v q).disk k) (seen_of v q).disk d (get_or row q blank) (lib.Seq.get_or-set_other (get_or v.drives d []) p q b blank n) (λ k m. refl) e) i;
    }) in
    λ i q. here q i

module _ (z : Sizes) (v : SlotState) (i : SlotShape z v) where
  pub record_shape : (p : ℕ) (w : Server) → SlotShape z (record_on v p w)
  record_shape p w = record { servers = length-set v.servers p w ∙ i.servers; drives = i.drives; rows = i.rows }

  pub block_shape : (d p : ℕ) (b : Block) → d < z.drives → SlotShape z (block_on v d p b)
  block_shape d p b h =
      let e = i.drives in
      let old = get_or v.drives d [] in
      record {
        servers = i.servers;
        drives = length-set v.drives d (set old p b) ∙ i.drives;
        rows =
            held_set (λ k bs. k < z.drives → length bs ≡ z.servers) v.drives d (set old p b) [] (omega arith)
            (λ m. length-set old p b ∙ i.rows d h) (λ k n. i.rows k);
      }

  module _ (value : ℕ → Bool) (k : SlotIn value z v) where
    pub record_held : (p : ℕ) (w : Server) → p < z.servers → ServerIn value (masks_of z) w → SlotIn value z (record_on v p w)
    record_held p w h s =
        let e = i.servers in
        record {
          records = held_set (λ q x. q < z.servers → ServerIn value (masks_of z) x) v.servers p w failed (omega arith) (λ l. s) (λ q n. k.records q);
          blocks = k.blocks;
        }

    pub block_held : (d p : ℕ) (b : Block) → d < z.drives → p < z.servers → BlockIn value b → SlotIn value z (block_on v d p b)
    block_held d p b h l s =
        let e = i.drives in
        let f = i.rows d h in
        let old = get_or v.drives d [] in
        record {
          records = k.records;
          blocks =
              λ c q m n.
              held_set (λ c bs. c < z.drives → (q : ℕ) → q < z.servers → BlockIn value (get_or bs q blank)) v.drives d (set old p b) [] (omega arith)
              (λ m. held_set (λ q x. q < z.servers → BlockIn value x) old p b blank (omega arith) (λ n. s) (λ q n. k.blocks d q m))
              (λ c n m q o. k.blocks c q m o) c m q n;
        }

module _ (r : Room) (i : Shape r) where
  pub slot_shape : (s : ℕ) (v : SlotState) → s < r.sizes.slots → SlotShape r.sizes v → Shape (with_slot r s v)
  slot_shape s v h j =
      let e = i.long in
      record {
        fit = i.fit;
        eight = i.eight;
        long = length-set r.slots s v ∙ i.long;
        slots = held_set (λ t x. t < r.sizes.slots → SlotShape r.sizes x) r.slots s v no_slot (omega arith) (λ l. j) (λ t n. i.slots t);
      }

  pub failure_slot : (p t : ℕ) → slot (with_failure r p) t ≡ record_on (slot r t) p failed
  failure_slot p t = get_or-map (λ v. record_on v p failed) r.slots t no_slot

  pub failure_shape : (p : ℕ) → Shape (with_failure r p)
  failure_shape p =
      record {
        fit = i.fit;
        eight = i.eight;
        long = length-map r.slots (λ v. record_on v p failed) ∙ i.long;
        slots = λ t l. rw (failure_slot p t) (record_shape r.sizes (slot r t) (i.slots t l) p failed);
      }

  pub off_shape : (m : ℕ) → Shape (with_off r m)
  off_shape m = record { fit = i.fit; eight = i.eight; long = i.long; slots = i.slots }

  module _ (value : ℕ → Bool) (k : RoomIn value r) where
    pub slot_held : (s : ℕ) (v : SlotState) → s < r.sizes.slots → SlotIn value r.sizes v → RoomIn value (with_slot r s v)
    slot_held s v h j =
        let e = i.long in
        record {
          hoards = k.hoards;
          off = k.off;
          slots = held_set (λ t x. t < r.sizes.slots → SlotIn value r.sizes x) r.slots s v no_slot (omega arith) (λ l. j) (λ t n. k.slots t);
        }

    pub failure_held : (p : ℕ) → p < r.sizes.servers → ServerIn value (masks_of r.sizes) failed → RoomIn value (with_failure r p)
    failure_held p h s =
        record {
          hoards = k.hoards;
          off = k.off;
          slots = λ t l. rw (failure_slot p t) (record_held r.sizes (slot r t) (i.slots t l) value (k.slots t l) p failed h s);
        }

    pub off_held : (m : ℕ) → within m (legal_drives r.sizes) ≡ true → RoomIn value (with_off r m)
    off_held m h = record { hoards = k.hoards; off = h; slots = k.slots }
