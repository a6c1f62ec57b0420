-- What the machine computes for `1 << i` at 32 bits, and a cell cut at a bit that it does not have.
use Prim.Native.Nat.{ℕ, ◌*◌, ◌%◌, ◌^◌, ◌<◌, ◌≤◌}
use mathlib.Core.Path.{◌≡◌, ◌∙◌, ap}
use native.Mathlib.Nat.{one-mul, mod-eq_of_lt, lt_of_lt_of_le}
use lib.Pow.{pow-lt, pow_mono}

pub one_shifted : (i : ℕ) → i < 32 → 1 * 2 ^ i % 4294967296 ≡ 2 ^ i
one_shifted i h = ap (λ (x : ℕ). x % 4294967296) (one-mul (2 ^ i)) ∙ mod-eq_of_lt (pow-lt {i = i} {j = 32} h)

pub whole_cell : (m n : ℕ) → m < 2 ^ 32 → 32 ≤ n → m % 2 ^ n ≡ m
whole_cell m n f h = mod-eq_of_lt (lt_of_lt_of_le f (pow_mono h))
