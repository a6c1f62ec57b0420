-- The potential of server p in slot s: an upper bound of the steps that are left until it commits.
use Prim.Native.Nat.{ℕ, zero, suc, ◌+◌, ◌*◌, ◌<◌, ◌≤◌}
use mathlib.Core.Bool.{Bool, true, false, not, ◌&&◌, cond}
use mathlib.Core.List.{Memᴰ}
use mathlib.Core.Path.{◌≡◌, refl, ap}
use native.Mathlib.Omega.{arith}
use lib.Dec.{eqb, ltb}
use lib.ListN.{length}
use borrow.Author.Tests.{ltb-true, lt-ltb, le-ltb, eq-eqb, ne_eqb}
use Rattle.lemmas.proofs.Tests.{by_test, clash, and_left, and_right, and_intro}
use Rattle.std.specs.Prelude.{sum_by}
use Rattle.std.proofs.lemmas.List.Sums.{sum_by-le, sum_by-le-sum_by}
use Rattle.quorum.specs.Marks.{stands}
use Rattle.quorum.specs.Sets.{size}
use Rattle.quorum.proofs.Sizes.{size_more, size_falls, size_most, size_without}
use Rattle.state.specs.declared.Server.{Server}
use Rattle.state.specs.declared.Sizes.{Sizes}
use Rattle.synod.specs.Changes.{read_bit}
use Rattle.synod.specs.Rules.{recalled_on}
use Rattle.progress.proofs.Drives.{used_in}
use Rattle.progress.proofs.Sums.{sum_falls, sum_some}

-- Server q's place on drive d is open to p: the block is not read; at p's own number, the drive is not written.
unfoldable pub is_open : ℕ → Server → ℕ → ℕ → Bool
is_open p v d q = cond (eqb q p) (not (stands v.written d)) (not (stands v.read (read_bit d q)))

-- The block of another server q on drive d outbids the ballot b. found q d is its mbal.
unfoldable pub outbids : ℕ → (ℕ → ℕ → ℕ) → ℕ → ℕ → ℕ → Bool
outbids p found b d q = not (eqb q p) && not (ltb (found q d) b)

module _ (z : Sizes) (off p : ℕ) where
  -- the drives used, times the servers
  abbrev pub pairs : ℕ
  pairs = length (used_in z off) * z.servers

  -- the used drives that are not recalled
  unfoldable pub recalls_missing : Server → ℕ
  recalls_missing v = sum_by (λ d. cond (recalled_on v p d) 0 1) (used_in z off)

  -- the open places on the used drives
  unfoldable pub open_places : Server → ℕ
  open_places v = sum_by (λ d. size z.servers (is_open p v d)) (used_in z off)

  -- the blocks there that outbid the ballot b
  unfoldable pub outbidding : (ℕ → ℕ → ℕ) → ℕ → ℕ
  outbidding found b = sum_by (λ d. size z.servers (outbids p found b d)) (used_in z off)

  -- what is left with this ballot, by the phase
  unfoldable pub remaining : ℕ → Server → ℕ
  remaining zero v = recalls_missing v + 3 + 2 * pairs
  remaining (suc zero) v = open_places v + 2 + pairs
  remaining (suc (suc k)) v = open_places v + 1

  unfoldable pub potential : (ℕ → ℕ → ℕ) → Server → ℕ
  potential found v = outbidding found v.mbal * pairs + remaining v.phase v

  module _ (found : ℕ → ℕ → ℕ) (v : Server) where
    pub potential_in : (k : ℕ) → v.phase ≡ k → potential found v ≡ outbidding found v.mbal * pairs + remaining k v
    unfolding potential
    potential_in k e = ap (λ (j : ℕ). outbidding found v.mbal * pairs + remaining j v) e

    pub some_left : 0 < potential found v
    unfolding potential remaining
    some_left = omega (arith, some v.phase)
      where
        some : (k : ℕ) → 0 < remaining k v
        some zero = omega arith
        some (suc zero) = omega arith
        some (suc (suc k)) = omega arith

  -- all of it at most
  pub open_most : (v : Server) → open_places v ≤ pairs
  unfolding open_places
  open_most v =
      sum_by-le (λ d. size z.servers (is_open p v d)) z.servers (used_in z off) (λ i d l. size_most z.servers (is_open p v _))

  pub missing_most : (v : Server) → recalls_missing v ≤ length (used_in z off)
  unfolding recalls_missing
  missing_most v =
      omega (arith, sum_by-le (λ d. cond (recalled_on v p d) 0 1) 1 (used_in z off) (λ i d l. at_most (recalled_on v p _)))
    where
      at_most : (t : Bool) → cond {A = ℕ} t 0 1 ≤ 1
      at_most true = omega arith
      at_most false = omega arith

  pub outbidding_most
      : p < z.servers → (found : ℕ → ℕ → ℕ) (b l : ℕ) → suc l ≡ z.servers → outbidding found b ≤ length (used_in z off) * l
  unfolding outbidding outbids
  outbidding_most lp found b l e =
      sum_by-le (λ d. size z.servers (outbids p found b d)) l (used_in z off) (λ i d k. fewer _)
    where
      fewer : (d : ℕ) → size z.servers (outbids p found b d) ≤ l
      fewer d = omega (arith, size_without z.servers (outbids p found b d) p lp (rw (eq-eqb p p refl) refl), e)

  -- a recall that was missing is made, and none is lost
  pub recall_falls
      : (v w : Server) (x : ℕ) → Memᴰ x (used_in z off) → recalled_on v p x ≡ false → recalled_on w p x ≡ true
      → ((d : ℕ) → recalled_on v p d ≡ true → recalled_on w p d ≡ true) → recalls_missing w < recalls_missing v
  unfolding recalls_missing
  recall_falls v w x i e f keeps =
      sum_falls (λ d. cond (recalled_on v p d) 0 1) (λ d. cond (recalled_on w p d) 0 1)
      (λ d. less (recalled_on v p d) (recalled_on w p d) (keeps d)) (used_in z off) x i (rw (e, f) (omega arith))
    where
      less : (a b : Bool) → (a ≡ true → b ≡ true) → cond {A = ℕ} b 0 1 ≤ cond a 0 1
      less a true h = omega arith
      less true false h = clash false (h refl) refl
      less false false h = omega arith

  -- a place that was open is open no longer, and none is opened
  pub open_falls
      : (v w : Server) (x y : ℕ) → Memᴰ x (used_in z off) → y < z.servers → is_open p v x y ≡ true → is_open p w x y ≡ false
      → ((d q : ℕ) → is_open p w d q ≡ true → is_open p v d q ≡ true) → open_places w < open_places v
  unfolding open_places
  open_falls v w x y i l e f keeps =
      sum_falls (λ d. size z.servers (is_open p v d)) (λ d. size z.servers (is_open p w d))
      (λ d. size_more z.servers (is_open p w d) (is_open p v d) (λ q m. keeps d q)) (used_in z off) x i
      (size_falls z.servers (is_open p v x) (is_open p w x) (keeps x) y l e f)

  pub open_some : (v : Server) (x y : ℕ) → Memᴰ x (used_in z off) → y < z.servers → is_open p v x y ≡ true → 0 < open_places v
  unfolding open_places
  open_some v x y i l e =
      sum_some (λ d. size z.servers (is_open p v d)) (used_in z off) x i
      (omega (arith, size_falls z.servers (is_open p v x) (λ q. false) (λ q h. clash false h refl) y l e refl))

  module _ (found : ℕ → ℕ → ℕ) (a b : ℕ) (up : a ≤ b) where
    fewer_at : (d q : ℕ) → outbids p found b d q ≡ true → outbids p found a d q ≡ true
    unfolding outbids
    fewer_at d q h =
        let other = and_left (not (eqb q p)) (not (ltb (found q d) b)) h in
        let high = and_right (not (eqb q p)) (not (ltb (found q d) b)) h in
        and_intro (not (eqb q p)) (not (ltb (found q d) a)) other
        (by_test (ltb (found q d) a)
        (λ t.
        let l = ltb-true (found q d) a t in
        clash (not (ltb (found q d) b)) high (ap not (lt-ltb (found q d) b (omega arith))))
        (λ t. ap not t))

    fewer : (d : ℕ) → size z.servers (outbids p found b d) ≤ size z.servers (outbids p found a d)
    fewer d = size_more z.servers (outbids p found b d) (outbids p found a d) (λ q m. fewer_at d q)

    pub outbidding_less : outbidding found b ≤ outbidding found a
    unfolding outbidding
    outbidding_less =
        sum_by-le-sum_by (λ d. size z.servers (outbids p found b d)) (λ d. size z.servers (outbids p found a d)) (used_in z off) fewer

    -- a block that outbids a and not b
    pub outbidding_falls
        : (x y : ℕ) → Memᴰ x (used_in z off) → y < z.servers → (y ≡ p → ⊥) → a ≤ found y x → found y x < b
        → outbidding found b < outbidding found a
    unfolding outbidding outbids
    outbidding_falls x y i l n high low =
        sum_falls (λ d. size z.servers (outbids p found a d)) (λ d. size z.servers (outbids p found b d)) fewer (used_in z off) x i
        (size_falls z.servers (outbids p found a x) (outbids p found b x) (fewer_at x) y l
        (rw (ne_eqb y p n, le-ltb (found y x) a high) refl)
        (rw (ne_eqb y p n, lt-ltb (found y x) b low) refl))
