-- Server p alone in slot s: the room that it acts in, the mbals that it finds, and that its steps are in the room.
use Prim.Native.Nat.{ℕ, ◌<◌, ◌≤◌}
use mathlib.Core.Bool.{true, not, ◌&&◌}
use mathlib.Core.Path.{◌≡◌, ap}
use native.Mathlib.Omega.{arith}
use lib.Dec.{eqb, ltb}
use borrow.Author.Tests.{lt-ltb, ne_eqb, not-false}
use Rattle.lemmas.proofs.Tests.{and_intro}
use Rattle.quorum.specs.Marks.{stands}
use Rattle.quorum.specs.Sets.{majority}
use Rattle.quorum.proofs.AllBelow.{all_intro}
use Rattle.quorum.proofs.Larger.{majority_more}
use Rattle.state.specs.declared.Server.{Server}
use Rattle.state.specs.declared.Sizes.{Sizes}
use Rattle.state.specs.Sizes.{in_room, drive_fits}
use Rattle.synod.specs.Changes.{read_bit}
use Rattle.synod.specs.Rules.{is_on, other_read, others_read, complete_on}
use Rattle.layout.specs.Places.{Fit}
use Rattle.progress.specs.Follow.{low_mbal}
use Rattle.progress.specs.Used.{is_used}
use Rattle.progress.proofs.Members.{between_numbers}
use Rattle.progress.specs.Next.{unread}
use Rattle.progress.proofs.Drives.{used_in, says_used, used_majority}
use Rattle.progress.proofs.Left.{Complete}

pub record Setting (z : Sizes) (off p s : ℕ) (found : ℕ → ℕ → ℕ) : Type 0 where
  pub fit : Fit z
  pub server : p < z.servers
  pub slot : s < z.slots
  pub most : majority z.drives (is_on off) ≡ true
  pub low : (q d : ℕ) → q < z.servers → d < z.drives → found q d ≤ low_mbal

module _ {z : Sizes} {off p s : ℕ} {found : ℕ → ℕ → ℕ} (set : Setting z off p s found) where
  -- a read mark is a bit of its own
  pub bit_small : (d q : ℕ) → d < z.drives → q < z.servers → read_bit d q < 32
  bit_small d q a b = omega (arith, set.fit.drives, set.fit.servers)

  -- the places of its steps
  pub here : in_room z p s ≡ true
  here = and_intro (ltb p z.servers) (ltb s z.slots) (lt-ltb p z.servers set.server) (lt-ltb s z.slots set.slot)

  pub there : (d : ℕ) → d < z.drives → (in_room z p s && drive_fits z d) ≡ true
  there d ld = and_intro (in_room z p s) (drive_fits z d) here (lt-ltb d z.drives ld)

  pub beside
      : (d q : ℕ) → d < z.drives → q < z.servers → (q ≡ p → ⊥)
      → (in_room z p s && drive_fits z d && ltb q z.servers && not (eqb q p)) ≡ true
  beside d q ld lq n =
      and_intro (in_room z p s && drive_fits z d && ltb q z.servers) (not (eqb q p))
      (and_intro (in_room z p s && drive_fits z d) (ltb q z.servers) (there d ld) (lt-ltb q z.servers lq))
      (ap not (ne_eqb q p n))

  -- where all used drives are written and read, they are enough for a Finish
  pub complete : (v : Server) → Complete z off v p s (used_in z off) → majority z.drives (complete_on z.servers v p) ≡ true
  unfolding unread
  complete v w =
      majority_more z.drives (is_used z.drives off) (complete_on z.servers v p)
      (λ d l u.
      let i = says_used z.drives off d l u in
      and_intro (stands v.written d) (others_read z.servers v p d) (w.write d i)
      (all_intro z.servers (other_read v p d)
      (λ q m. not-false (other_read v p d q) (w.read d q i (between_numbers 0 z.servers q (omega arith) (omega arith))))))
      (used_majority z.drives off set.most)
