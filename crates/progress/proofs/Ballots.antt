-- Above a number of at most 999,990 every server has a ballot.
use Prim.Native.Nat.{ℕ, ◌+◌, ◌-◌, ◌%◌, ◌<◌, ◌≤◌}
use mathlib.Core.Path.{◌≡◌, refl}
use native.Mathlib.Omega.{arith}
use native.Mathlib.Nat.{mod-lt}
use borrow.Author.Tests.{lt-ltb, le-leb}
use Rattle.std.specs.Prelude.{Some}
use Rattle.progress.specs.Follow.{low_mbal}
use Rattle.ballot.specs.Ballot.{least_above, next_own}

pub record OneAbove (n p f : ℕ) : Type 0 where
  pub ballot : ℕ
  pub is : next_own n p f ≡ Some ballot

pub ballot_left : (n p f : ℕ) → p < n → n ≤ 4 → f ≤ low_mbal → OneAbove n p f
unfolding next_own least_above
ballot_left n p f l few low = record { ballot = least_above n p f; is = answers }
  where
    answers : next_own n p f ≡ Some (least_above n p f)
    answers =
        let near : (p + n - f % n) % n < n = mod-lt (p + n - f % n) (omega arith) in
        let small : least_above n p f ≤ 1000000 = omega arith in
        rw (lt-ltb p n l, le-leb n 4 few, le-leb f 1000000 (omega arith), le-leb (least_above n p f) 1000000 small) refl
