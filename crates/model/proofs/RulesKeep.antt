-- Each rule, on a record and a block in range, leaves the record in range, whatever test of a value it is by that 0 passes.
use Prim.Native.Nat.{ℕ, ◌<◌, ◌≤◌}
use mathlib.Core.Path.{◌≡◌}
use mathlib.Core.Bool.{Bool, true, false, cond}
use native.Mathlib.Omega.{arith}
use lib.Dec.{eqb, ltb}
use Rattle.std.specs.Prelude.{Ok, Err}
use Rattle.state.specs.Block.{limit}
use Rattle.ballot.proofs.Laws.{owned_within}
use Rattle.quorum.specs.Sets.{within}
use Rattle.quorum.proofs.MaskLaws.{within-zero, within_marked}
use Rattle.state.specs.declared.Block.{Block}
use Rattle.state.specs.declared.Server.{Server}
use Rattle.state.specs.declared.Sizes.{Sizes}
use Rattle.state.specs.Server.{with_own, with_notes, cleared, failed, own_block}
use Rattle.synod.specs.Changes.{read_bit, meeting, marking, topping, recalling, rejoining, bidding, writing, reading, proposing, agreeing}
use Rattle.synod.specs.Rules.{Ruling, ruling, offer_rule, recall_rule, rejoin_rule, bid_rule, write_rule, read_rule, finish_rule}
use Rattle.synod.proofs.Rulings.{recall_cases, rejoin_cases, bid_cases, write_cases, read_cases, finish_cases}
use Rattle.layout.specs.Places.{Fit}
use Rattle.range.specs.Range.{masks_of}
use Rattle.range.proofs.RecordLaws.{ServerIn, BlockIn, drive_legal, read_legal}

-- what a ruling makes of a record is in range
abbrev pub Keeps : (ℕ → Bool) → Sizes → Ruling → Type 0
Keeps value z (Err n) = Unit {0}
Keeps value z (Ok (v, a)) = ServerIn value (masks_of z) v

pick_most : (t : Bool) (a b l : ℕ) → a ≤ l → b ≤ l → cond t a b ≤ l
pick_most true a b l h k = h
pick_most false a b l h k = k

pick_value : (value : ℕ → Bool) (t : Bool) (a b : ℕ) → value a ≡ true → value b ≡ true → value (cond t a b) ≡ true
pick_value value true a b h k = h
pick_value value false a b h k = k

module _ (value : ℕ → Bool) (nought : value 0 ≡ true) (z : Sizes) where
  pub failed_in : ServerIn value (masks_of z) failed
  failed_in =
      record {
        phase = omega arith;
        mbal = omega arith;
        bal = omega arith;
        top = omega arith;
        seenbal = omega arith;
        written = within-zero (masks_of z).drives;
        read = within-zero (masks_of z).reads;
        inp = nought;
        offer = nought;
        seeninp = nought;
        agreed = nought;
      }

  pub own_in : (v : Server) → ServerIn value (masks_of z) v → BlockIn value (own_block v)
  own_in v s =
      record { mbal = s.mbal; bal = s.bal; inp = s.inp; done = pick_value value (eqb v.phase 3) v.agreed 0 s.agreed (nought) }

  module _ (v : Server) (s : ServerIn value (masks_of z) v) where
    -- a record that begins a phase
    begun_in
        : (phase mbal bal inp : ℕ) → phase ≤ 3 → mbal ≤ limit → bal ≤ limit → value inp ≡ true
        → ServerIn value (masks_of z) (cleared (with_own v phase mbal bal inp))
    begun_in phase mbal bal inp h m b i =
        record {
          phase = h;
          mbal = m;
          bal = b;
          top = omega arith;
          seenbal = b;
          written = within-zero (masks_of z).drives;
          read = within-zero (masks_of z).reads;
          inp = i;
          offer = s.offer;
          seeninp = i;
          agreed = s.agreed;
        }

    -- a record with other notes of its phase
    notes_in
        : (top seenbal seeninp written read : ℕ) → top ≤ limit → seenbal ≤ limit → value seeninp ≡ true
        → within written (masks_of z).drives ≡ true → within read (masks_of z).reads ≡ true
        → ServerIn value (masks_of z) (with_notes v top seenbal seeninp written read)
    notes_in top seenbal seeninp written read a b c d e =
        record {
          phase = s.phase;
          mbal = s.mbal;
          bal = s.bal;
          top = a;
          seenbal = b;
          written = d;
          read = e;
          inp = s.inp;
          offer = s.offer;
          seeninp = c;
          agreed = s.agreed;
        }

    meeting_in : (b : Block) → BlockIn value b → ServerIn value (masks_of z) (meeting v b)
    unfolding meeting
    meeting_in b t =
        notes_in _ _ _ _ _ s.top
        (pick_most (ltb v.seenbal b.bal) b.bal v.seenbal limit t.bal s.seenbal)
        (pick_value value (ltb v.seenbal b.bal) b.inp v.seeninp t.inp s.seeninp)
        s.written s.read

    topping_in : (mbal : ℕ) → mbal ≤ limit → ServerIn value (masks_of z) (topping v mbal)
    unfolding topping
    topping_in mbal h =
        notes_in _ _ _ _ _ (omega (arith, s.top, h)) s.seenbal s.seeninp s.written s.read

    bidding_in : (b : ℕ) → b ≤ limit → ServerIn value (masks_of z) (bidding v b)
    unfolding bidding
    bidding_in b h = begun_in 1 _ _ _ (omega arith) h s.bal s.inp

    agreeing_in : (c : ℕ) → value c ≡ true → ServerIn value (masks_of z) (agreeing v c)
    unfolding agreeing
    agreeing_in c h =
        record {
          phase = omega arith;
          mbal = s.mbal;
          bal = s.bal;
          top = omega arith;
          seenbal = s.bal;
          written = within-zero (masks_of z).drives;
          read = within-zero (masks_of z).reads;
          inp = s.inp;
          offer = s.offer;
          seeninp = s.inp;
          agreed = h;
        }

    marking_in : Fit z → (d q : ℕ) → d < z.drives → q < z.servers → ServerIn value (masks_of z) (marking v d q)
    unfolding marking
    marking_in fit d q h l =
        notes_in _ _ _ _ _ s.top s.seenbal s.seeninp s.written
        (within_marked v.read (masks_of z).reads (read_bit d q) s.read (read_legal z fit d q h l))

  module _ (fit : Fit z) (v : Server) (s : ServerIn value (masks_of z) v) where
    recalling_in
        : (b : Block) (p d : ℕ) → BlockIn value b → d < z.drives → p < z.servers
        → ServerIn value (masks_of z) (recalling v b p d)
    unfolding recalling
    recalling_in b p d t h l =
        let m = marking_in v s fit d p h l in
        let n = topping_in (marking v d p) m b.mbal t.mbal in
        meeting_in (topping (marking v d p) b.mbal) n b t

    pub offer_keeps : (c : ℕ) → value c ≡ true → Keeps value z (ruling (offer_rule v c))
    unfolding offer_rule
    offer_keeps c e =
        record {
          phase = s.phase;
          mbal = s.mbal;
          bal = s.bal;
          top = s.top;
          seenbal = s.seenbal;
          written = s.written;
          read = s.read;
          inp = s.inp;
          offer = e;
          seeninp = s.seeninp;
          agreed = s.agreed;
        }

    pub recall_keeps
        : (off : ℕ) (b : Block) (p d : ℕ) → BlockIn value b → d < z.drives → p < z.servers
        → Keeps value z (ruling (recall_rule off v b p d))
    recall_keeps off b p d t h l = recall_cases (Keeps value z) (λ n. tt) v off b p d (λ e. recalling_in b p d t h l)

    pub rejoin_keeps : (servers drives p b : ℕ) → Keeps value z (ruling (rejoin_rule servers drives v p b))
    unfolding rejoining
    rejoin_keeps servers drives p b =
        rejoin_cases (Keeps value z) (λ n. tt) v servers drives p b
        (λ o e m t. begun_in v s 1 _ _ _ (omega arith) (owned_within servers p b o) s.seenbal s.seeninp)

    pub bid_keeps : (servers p b : ℕ) → Keeps value z (ruling (bid_rule servers v p b))
    bid_keeps servers p b =
        bid_cases (Keeps value z) (λ n. tt) v servers p b (λ o e h. bidding_in v s b (owned_within servers p b o))

    pub write_keeps : (off d : ℕ) → d < z.drives → Keeps value z (ruling (write_rule off v d))
    unfolding writing
    write_keeps off d h =
        write_cases (Keeps value z) (λ n. tt) v off d
        (λ e.
        notes_in v s _ _ _ _ _ s.top s.seenbal s.seeninp
        (within_marked v.written (masks_of z).drives d s.written (drive_legal z fit d h)) s.read)

    pub read_keeps
        : (servers off : ℕ) (b : Block) (p d q : ℕ) → BlockIn value b → d < z.drives → q < z.servers
        → Keeps value z (ruling (read_rule servers off v b p d q))
    unfolding reading
    read_keeps servers off b p d q t h l =
        read_cases (Keeps value z) (λ n. tt) v servers off b p d q
        (λ e w m. meeting_in (marking v d q) (marking_in v s fit d q h l) b t)
        (λ next e o m. bidding_in v s next (owned_within servers p next o))
        (λ e some. agreeing_in v s b.done t.done)

    pub finish_keeps : (servers drives p : ℕ) → Keeps value z (ruling (finish_rule servers drives v p))
    unfolding proposing
    finish_keeps servers drives p =
        finish_cases (Keeps value z) (λ n. tt) v servers drives p
        (λ e m n.
        begun_in v s 2 _ _ _ (omega arith) s.mbal s.mbal
        (pick_value value (eqb v.seeninp 0) v.offer v.seeninp s.offer s.seeninp))
        (λ e m. agreeing_in v s v.inp s.inp)
