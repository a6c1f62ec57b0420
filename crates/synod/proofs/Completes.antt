-- A drive that counts for Finish: it is written, and every other server's block on it was read.
use Prim.Native.Nat.{ℕ, ◌<◌}
use borrow.Author.Tests.{eqb-true}
use mathlib.Core.Bool.{true, ◌||◌}
use mathlib.Core.Path.{◌≡◌}
use mathlib.Core.Logic.{◌⊎◌, inl, inr}
use lib.Dec.{eqb}
use Rattle.quorum.specs.Sets.{majority}
use Rattle.state.specs.declared.Server.{Server}
use Rattle.synod.specs.Rules.{complete_on, others_read}
use Rattle.synod.specs.Slot.{Config}
use Rattle.quorum.proofs.AllBelow.{all_at}
use Rattle.lemmas.proofs.Tests.{and_left, and_right, or_either}
use Rattle.synod.proofs.Marks.{wrote, saw}
use Rattle.synod.proofs.Quorums.{Quorum}

pub record Complete (c : Config) (v : Server) (p d : ℕ) : Type 0 where
  pub written : wrote v d ≡ true
  pub others : (q : ℕ) → q < c.servers → (q ≡ p → ⊥) → saw v d q ≡ true

complete : (c : Config) (v : Server) (p d : ℕ) → complete_on c.servers v p d ≡ true → Complete c v p d
complete c v p d h = record { written = and_left (wrote v d) (others_read c.servers v p d) h; others = others }
  where
    others : (q : ℕ) → q < c.servers → (q ≡ p → ⊥) → saw v d q ≡ true
    others q lt ne =
        by_case
        (or_either (eqb q p) (saw v d q)
        (all_at c.servers (λ r. eqb r p || saw v d r) (and_right (wrote v d) (others_read c.servers v p d) h) q lt))
      where
        by_case : (eqb q p ≡ true) ⊎ (saw v d q ≡ true) → saw v d q ≡ true
        by_case (inl e) = absurd (ne (eqb-true q p e))
        by_case (inr m) = m

-- the majority that Finish asks for
pub completes : (c : Config) (v : Server) (p : ℕ) → majority c.drives (complete_on c.servers v p) ≡ true
    → Quorum c.drives (Complete c v p)
completes c v p h = record { set = complete_on c.servers v p; counts = h; each = λ d ld m. complete c v p d m }
