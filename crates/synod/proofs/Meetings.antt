-- A block that is met: seenbal is then no less than before and no less than the block's bal, and the seen pair is one of
-- the two.
use Prim.Native.Nat.{ℕ, ◌≤◌}
use native.Mathlib.Omega.{arith}
use borrow.Author.Tests.{ltb-true, ltb-false}
use mathlib.Core.Bool.{Bool, true, false, cond}
use mathlib.Core.Path.{◌≡◌, refl}
use lib.Dec.{ltb}
use Rattle.state.specs.declared.Block.{Block}
use Rattle.state.specs.declared.Server.{Server}
use Rattle.synod.proofs.Past.{Ghost}
use Rattle.synod.specs.Changes.{meeting}
use Rattle.synod.proofs.Ghosts.{Known}

pub record Met (g : Ghost) (v : Server) (b : Block) (w : Server) : Type 0 where
  pub before : v.seenbal ≤ w.seenbal
  pub block : b.bal ≤ w.seenbal
  pub known : Known g v.seenbal v.seeninp → Known g b.bal b.inp → Known g w.seenbal w.seeninp

-- the larger of two numbers is no less than either
larger : (s b : ℕ) → (s ≤ cond (ltb s b) b s) × (b ≤ cond (ltb s b) b s)
larger s b = by_test (ltb s b) refl
  where
    by_test : (t : Bool) → ltb s b ≡ t → (s ≤ cond t b s) × (b ≤ cond t b s)
    by_test true e = let h = ltb-true s b e in (omega arith, omega arith)
    by_test false e = let h = ltb-false s b e in (omega arith, omega arith)

known_either : (g : Ghost) (t : Bool) (s i b j : ℕ) → Known g s i → Known g b j → Known g (cond t b s) (cond t j i)
known_either g true s i b j x y = y
known_either g false s i b j x y = x

pub meets : (g : Ghost) (v : Server) (b : Block) → Met g v b (meeting v b)
unfolding meeting
meets g v b =
    record {
      before = (larger v.seenbal b.bal).0;
      block = (larger v.seenbal b.bal).1;
      known = known_either g (ltb v.seenbal b.bal) v.seenbal v.seeninp b.bal b.inp;
    }
