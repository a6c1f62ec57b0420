-- The packing loses nothing: both halves of an answer can be had back.
use Prim.Native.Nat.{ℕ, ◌/◌, ◌%◌, ◌<◌}
use mathlib.Core.Path.{◌≡◌}
use native.Mathlib.Omega.{arith}
use Rattle.packing.specs.Packing.{packed}

module _ (word number : ℕ) (fits : number < 4294967296) where
  pub upper : packed word number / 4294967296 ≡ word
  upper = omega arith

  pub lower : packed word number % 4294967296 ≡ number
  lower = omega arith
