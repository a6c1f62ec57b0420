-- Laws of ballots: a ballot has one owner, and the next own ballot is the owner's least above the one found (request E2).
use Prim.Native.Nat.{ℕ, ◌-◌, ◌%◌, ◌<◌, ◌≤◌}
use mathlib.Core.Path.{◌≡◌, refl, ◌∙◌, sym}
use mathlib.Core.Bool.{true, ◌&&◌}
use native.Mathlib.Omega.{arith}
use lib.Dec.{eqb, leb, ltb}
use borrow.Author.Tests.{eqb-true, leb-true, ltb-true, lt-ltb, le-leb, eq-eqb}
use Rattle.lemmas.proofs.Tests.{by_test, and_left, and_right, and_intro}
use Rattle.state.specs.Block.{limit}
use Rattle.ballot.specs.Ballot.{is_ballot, owned, least_above, askable, next_own}
use Rattle.ballot.specs.Least.{LeastOwn, NoneLeft, IsNext}
use Rattle.std.specs.Prelude.{Option, Some, None}
use Rattle.ballot.proofs.Remainders.{Asked, asked, formula, none_nearer}

-- what owning a ballot says
pub record Owned (n p b : ℕ) : Type 0 where
  pub server : p < n
  pub positive : 1 ≤ b
  pub within : b ≤ limit
  pub owner : (b - 1) % n ≡ p

pub owned_says : (n p b : ℕ) → owned n p b ≡ true → Owned n p b
unfolding owned
owned_says n p b e =
    let front = and_left (ltb p n && is_ballot b) (eqb ((b - 1) % n) p) e in
    let ballot = and_right (ltb p n) (is_ballot b) front in
    record {
      server = ltb-true p n (and_left (ltb p n) (is_ballot b) front);
      positive = leb-true 1 b (and_left (leb 1 b) (leb b limit) ballot);
      within = leb-true b limit (and_right (leb 1 b) (leb b limit) ballot);
      owner = eqb-true ((b - 1) % n) p (and_right (ltb p n && is_ballot b) (eqb ((b - 1) % n) p) e);
    }

pub says_owned : (n p b : ℕ) → Owned n p b → owned n p b ≡ true
unfolding owned
says_owned n p b o =
    and_intro (ltb p n && is_ballot b) (eqb ((b - 1) % n) p)
    (and_intro (ltb p n) (is_ballot b) (lt-ltb p n o.server)
    (and_intro (leb 1 b) (leb b limit) (le-leb 1 b o.positive) (le-leb b limit o.within)))
    (eq-eqb ((b - 1) % n) p o.owner)

pub owned_positive : (n p b : ℕ) → owned n p b ≡ true → 1 ≤ b
owned_positive n p b e = (owned_says n p b e).positive

pub owned_within : (n p b : ℕ) → owned n p b ≡ true → b ≤ limit
owned_within n p b e = (owned_says n p b e).within

-- a ballot has one owner
pub one_owner : (n p q b : ℕ) → owned n p b ≡ true → owned n q b ≡ true → p ≡ q
one_owner n p q b hp hq = sym (owned_says n p b hp).owner ∙ (owned_says n q b hq).owner

-- what a ballot that is answered is by the formula
record Answered (n p f b : ℕ) : Type 0 where
  may : Asked n p f
  within : b ≤ limit
  value : b ≡ least_above n p f

answered : (n p f b : ℕ) → next_own n p f ≡ Some b → Answered n p f b
unfolding next_own
answered n p f b e =
    by_test (askable n p f && leb (least_above n p f) limit)
    (λ t.
    let v : Some (least_above n p f) ≡ Some b = sym (simp t) ∙ e in
    let w : least_above n p f ≡ b = cc in
    record {
      may = asked n p f (and_left (askable n p f) (leb (least_above n p f) limit) t);
      within = omega (arith, leb-true (least_above n p f) limit (and_right (askable n p f) (leb (least_above n p f) limit) t));
      value = sym w;
    })
    (λ t.
    let v : None ≡ Some b = sym (simp t) ∙ e in
    let w : ◌≡◌ {A = ℕ} 0 1 = cc in
    absurd (omega arith))

-- a ballot that is answered is the least own one above
pub ballot_answered : (n p f b : ℕ) → next_own n p f ≡ Some b → LeastOwn n p f b
ballot_answered n p f b e =
    let i = answered n p f b e in
    let server = i.may.server in
    let few = i.may.few in
    let m = formula n p f server few in
    let v : b ≡ least_above n p f = i.value in
    record {
      own = says_owned n p b
          (record { server = server; positive = omega (arith, m.above); within = i.within; owner = rw v m.owner });
      above = omega (arith, m.above);
      within = i.within;
      none_between = λ a o h k. omega (arith, none_nearer n p f a server few h (owned_says n p a o).owner, v);
    }

pub next_owned : (n p f b : ℕ) → next_own n p f ≡ Some b → owned n p b ≡ true
next_owned n p f b e = (ballot_answered n p f b e).own

pub next_above : (n p f b : ℕ) → next_own n p f ≡ Some b → f < b
next_above n p f b e = (ballot_answered n p f b e).above

-- where none is answered, no own ballot is above
pub none_answered : (n p f : ℕ) → n ≤ 4 → next_own n p f ≡ None → NoneLeft n p f
unfolding next_own
none_answered n p f few e a o h =
    let own = owned_says n p a o in
    let small : least_above n p f ≤ limit = omega (arith, none_nearer n p f a own.server few h own.owner, own.within) in
    let t : (askable n p f && leb (least_above n p f) limit) ≡ true =
    and_intro (askable n p f) (leb (least_above n p f) limit)
    (and_intro (ltb p n && leb n 4) (leb f limit)
    (and_intro (ltb p n) (leb n 4) (lt-ltb p n own.server) (le-leb n 4 few))
    (le-leb f limit (omega (arith, own.within))))
    (le-leb (least_above n p f) limit small) in
    let v : Some (least_above n p f) ≡ None = sym (simp t) ∙ e in
    let w : ◌≡◌ {A = ℕ} 0 1 = cc in
    omega arith

either : (n p f : ℕ) → n ≤ 4 → (next : Option ℕ) → next_own n p f ≡ next → IsNext n p f next
either n p f few (Some b) e = ballot_answered n p f b e
either n p f few None e = none_answered n p f few e

-- request E2, for rooms of up to four servers, every server and every number found
pub least_own_ballot : (n p f : ℕ) → n ≤ 4 → IsNext n p f (next_own n p f)
least_own_ballot n p f few = either n p f few (next_own n p f) refl
