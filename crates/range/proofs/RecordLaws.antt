-- What the range rule says of one record and of one block, number by number, whatever the test of a value; and which marks
-- are legal.
use Prim.Native.Nat.{ℕ, ◌+◌, ◌*◌, ◌/◌, ◌%◌, ◌<◌, ◌≤◌}
use mathlib.Core.Path.{◌≡◌, refl, ◌∙◌, ap}
use mathlib.Core.Bool.{Bool, true, ◌&&◌}
use mathlib.Core.List.{List}
use native.Mathlib.Omega.{arith}
use lib.Dec.{eqb, leb, ltb}
use borrow.Author.Tests.{leb-true, le-leb, lt-ltb}
use Rattle.lemmas.proofs.Tests.{and_left, and_right, and_intro, or_right}
use Rattle.state.specs.Block.{limit, ballot_fits}
use Rattle.command.specs.Command.{is_command}
use Rattle.quorum.specs.Marks.{stands}
use Rattle.quorum.specs.Sets.{within}
use Rattle.quorum.proofs.Gathered.{stands_gathered}
use Rattle.state.specs.declared.Block.{Block}
use Rattle.state.specs.declared.Server.{Server}
use Rattle.state.specs.declared.Sizes.{Sizes}
use Rattle.layout.specs.Places.{Fit}
use Rattle.range.specs.declared.Masks.{Masks}
use Rattle.range.specs.Range.{legal_drives, legal_reads, value_fits, numbers_fit, server_fits, block_fits}

pub record ServerIn (value : ℕ → Bool) (k : Masks) (v : Server) : Type 0 where
  pub phase : v.phase ≤ 3
  pub mbal : v.mbal ≤ limit
  pub bal : v.bal ≤ limit
  pub top : v.top ≤ limit
  pub seenbal : v.seenbal ≤ limit
  pub written : within v.written k.drives ≡ true
  pub read : within v.read k.reads ≡ true
  pub inp : value v.inp ≡ true
  pub offer : value v.offer ≡ true
  pub seeninp : value v.seeninp ≡ true
  pub agreed : value v.agreed ≡ true

pub record BlockIn (value : ℕ → Bool) (b : Block) : Type 0 where
  pub mbal : b.mbal ≤ limit
  pub bal : b.bal ≤ limit
  pub inp : value b.inp ≡ true
  pub done : value b.done ≡ true

pub server_says : (value : ℕ → Bool) (k : Masks) (v : Server) → server_fits value k v ≡ true → ServerIn value k v
unfolding server_fits numbers_fit
server_says value k v e =
    let a = leb v.phase 3 in
    let b = ballot_fits v.mbal in
    let c = ballot_fits v.bal in
    let d = ballot_fits v.top in
    let f = ballot_fits v.seenbal in
    let g = within v.written k.drives in
    let h = within v.read k.reads in
    let i = value v.inp in
    let o = value v.offer in
    let n = value v.seeninp in
    let m = value v.agreed in
    let numbers = a && b && c && d && f && g && h in
    let e10 = and_left (numbers && i && o && n) m e in
    let e9 = and_left (numbers && i && o) n e10 in
    let e8 = and_left (numbers && i) o e9 in
    let e7 = and_left numbers i e8 in
    let e6 = and_left (a && b && c && d && f && g) h e7 in
    let e5 = and_left (a && b && c && d && f) g e6 in
    let e4 = and_left (a && b && c && d) f e5 in
    let e3 = and_left (a && b && c) d e4 in
    let e2 = and_left (a && b) c e3 in
    record {
      phase = leb-true v.phase 3 (and_left a b e2);
      mbal = leb-true v.mbal limit (and_right a b e2);
      bal = leb-true v.bal limit (and_right (a && b) c e3);
      top = leb-true v.top limit (and_right (a && b && c) d e4);
      seenbal = leb-true v.seenbal limit (and_right (a && b && c && d) f e5);
      written = and_right (a && b && c && d && f) g e6;
      read = and_right (a && b && c && d && f && g) h e7;
      inp = and_right numbers i e8;
      offer = and_right (numbers && i) o e9;
      seeninp = and_right (numbers && i && o) n e10;
      agreed = and_right (numbers && i && o && n) m e;
    }

pub says_server : (value : ℕ → Bool) (k : Masks) (v : Server) → ServerIn value k v → server_fits value k v ≡ true
unfolding server_fits numbers_fit
says_server value k v s =
    let a = le-leb v.phase 3 s.phase in
    let b = le-leb v.mbal limit s.mbal in
    let c = le-leb v.bal limit s.bal in
    let d = le-leb v.top limit s.top in
    let f = le-leb v.seenbal limit s.seenbal in
    let ballots = and_intro _ _ (and_intro _ _ (and_intro _ _ (and_intro _ _ a b) c) d) f in
    let numbers = and_intro _ _ (and_intro _ _ ballots s.written) s.read in
    and_intro _ _ (and_intro _ _ (and_intro _ _ (and_intro _ _ numbers s.inp) s.offer) s.seeninp) s.agreed

pub block_says : (value : ℕ → Bool) (b : Block) → block_fits value b ≡ true → BlockIn value b
unfolding block_fits
block_says value b e =
    let m = ballot_fits b.mbal in
    let c = ballot_fits b.bal in
    let v = value b.inp in
    let d = value b.done in
    let ballots = and_left (m && c) (v && d) e in
    let values = and_right (m && c) (v && d) e in
    record {
      mbal = leb-true b.mbal limit (and_left m c ballots);
      bal = leb-true b.bal limit (and_right m c ballots);
      inp = and_left v d values;
      done = and_right v d values;
    }

pub says_block : (value : ℕ → Bool) (b : Block) → BlockIn value b → block_fits value b ≡ true
unfolding block_fits
says_block value b s =
    and_intro _ _
    (and_intro _ _ (le-leb b.mbal limit s.mbal) (le-leb b.bal limit s.bal))
    (and_intro _ _ s.inp s.done)

-- 0 and every command are values
pub zero_fits : (limits : List ℕ) → value_fits limits 0 ≡ true
unfolding value_fits
zero_fits limits = refl

pub command_fits_lem : (limits : List ℕ) (v : ℕ) → is_command limits v ≡ true → value_fits limits v ≡ true
unfolding value_fits
command_fits_lem limits v e = or_right (eqb v 0) (is_command limits v) e

-- the marks of a drive, and of a server's block on a drive, are legal
pub drive_legal : (z : Sizes) → Fit z → (d : ℕ) → d < z.drives → stands (legal_drives z) d ≡ true
unfolding legal_drives
drive_legal z f d h =
    let b = f.drives in
    stands_gathered 32 (λ i. ltb i z.drives) d (omega arith) ∙ lt-ltb d z.drives h

pub read_legal : (z : Sizes) → Fit z → (d q : ℕ) → d < z.drives → q < z.servers → stands (legal_reads z) (4 * d + q) ≡ true
unfolding legal_reads
read_legal z f d q h l =
    let b = f.drives in
    let c = f.servers in
    let high : (4 * d + q) / 4 ≡ d = omega arith in
    let low : (4 * d + q) % 4 ≡ q = omega arith in
    stands_gathered 32 (λ i. ltb (i / 4) z.drives && ltb (i % 4) z.servers) (4 * d + q) (omega arith)
    ∙ and_intro (ltb ((4 * d + q) / 4) z.drives) (ltb ((4 * d + q) % 4) z.servers)
    (ap (λ (x : ℕ). ltb x z.drives) high ∙ lt-ltb d z.drives h)
    (ap (λ (x : ℕ). ltb x z.servers) low ∙ lt-ltb q z.servers l)
