-- The masks that the code computes are the cells of legal marks: one computed test over all sizes of a room.
use Prim.Native.Nat.{ℕ, ◌-◌, ◌*◌, ◌/◌, ◌%◌, ◌^◌}
use mathlib.Core.Path.{◌≡◌, refl}
use mathlib.Core.Bool.{Bool, true, ◌&&◌}
use native.Mathlib.Omega.{arith}
use lib.Dec.{eqb, ltb}
use borrow.Author.Tests.{eqb-true}
use Rattle.quorum.specs.Sets.{all_below, gathered}
use Rattle.quorum.proofs.AllBelow.{all_at}
use Rattle.state.specs.declared.Sizes.{Sizes}
use Rattle.layout.specs.Places.{Fit}
use Rattle.range.specs.Range.{legal_drives, legal_reads}

-- what the code computes for d drives, and for n servers and d drives
abbrev pub drive_bits : ℕ → ℕ
drive_bits d = 1 * 2 ^ d % 4294967296 - 1

abbrev pub read_bits : ℕ → ℕ → ℕ
read_bits n d = (1 * 2 ^ n % 4294967296 - 1) * (17895697 % (1 * 2 ^ (4 * d) % 4294967296))

-- the legal marks by the same numbers
abbrev drives_of : ℕ → ℕ
drives_of d = gathered 32 (λ i. ltb i d)

abbrev reads_of : ℕ → ℕ → ℕ
reads_of n d = gathered 32 (λ i. ltb (i / 4) d && ltb (i % 4) n)

drives_right : ℕ → Bool
drives_right d = eqb (drive_bits d) (drives_of d)

reads_right : ℕ → ℕ → Bool
reads_right n d = eqb (read_bits n d) (reads_of n d)

drives_table : all_below 8 drives_right ≡ true
unfolding all_below drives_right gathered
drives_table = refl

reads_table : all_below 5 (λ n. all_below 8 (reads_right n)) ≡ true
unfolding all_below reads_right gathered
reads_table = refl

module _ (z : Sizes) (f : Fit z) where
  pub drive_mask : drive_bits z.drives ≡ legal_drives z
  unfolding legal_drives drives_right
  drive_mask =
      eqb-true (drive_bits z.drives) (drives_of z.drives)
      (all_at 8 drives_right drives_table z.drives (omega (arith, f.drives)))

  pub read_mask : read_bits z.servers z.drives ≡ legal_reads z
  unfolding legal_reads reads_right
  read_mask =
      eqb-true (read_bits z.servers z.drives) (reads_of z.servers z.drives)
      (all_at 8 (reads_right z.servers)
      (all_at 5 (λ n. all_below 8 (reads_right n)) reads_table z.servers (omega (arith, f.servers)))
      z.drives (omega (arith, f.drives)))
