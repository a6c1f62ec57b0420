-- Laws of commands: how one quotient tells the kind and a small piece at once, and that zero is no command.
use Prim.Native.Nat.{ℕ, ◌/◌, ◌%◌, ◌≤◌}
use mathlib.Core.Path.{◌≡◌, refl, ◌∙◌, sym, ap}
use mathlib.Core.Bool.{true, false, true≢false}
use mathlib.Core.List.{List}
use native.Mathlib.Omega.{arith}
use lib.Dec.{eqb, leb}
use borrow.Author.Tests.{ne_eqb, le-leb, leb-true}
use Rattle.lemmas.proofs.Tests.{by_test}
use Rattle.command.specs.Command.{kind_of, piece_of, limit_of, hoard_fits, is_command}

-- a command of kind 3
pub strikes : (limits : List ℕ) (v : ℕ) → v / 16384 ≡ 12 → eqb (v % 256) 0 ≡ is_command limits v
unfolding is_command hoard_fits limit_of
strikes limits v h =
    let small : leb (piece_of v) 63 ≡ true = le-leb (piece_of v) 63 (omega arith) in
    let k : kind_of v ≡ 3 = omega arith in
    simp (small, k)

-- no command
pub no_command : (limits : List ℕ) (v : ℕ) → (v / 16384 ≡ 4 → ⊥) → (v / 16384 ≡ 8 → ⊥) → (v / 16384 ≡ 12 → ⊥) → false ≡ is_command limits v
unfolding is_command hoard_fits limit_of
no_command limits v a b c =
    by_test (leb (piece_of v) 63)
    (λ e.
    let small : piece_of v ≤ 63 = leb-true (piece_of v) 63 e in
    let one : eqb (kind_of v) 1 ≡ false = ne_eqb (kind_of v) 1 (λ k. a (omega arith)) in
    let two : eqb (kind_of v) 2 ≡ false = ne_eqb (kind_of v) 2 (λ k. b (omega arith)) in
    let three : eqb (kind_of v) 3 ≡ false = ne_eqb (kind_of v) 3 (λ k. c (omega arith)) in
    simp (e, one, two, three))
    (λ e. simp e)

-- 0 is none
pub zero_no_command : (limits : List ℕ) → is_command limits 0 ≡ false
unfolding is_command hoard_fits
zero_no_command limits = refl

pub command_nonzero : (limits : List ℕ) (v : ℕ) → is_command limits v ≡ true → v ≡ 0 → ⊥
command_nonzero limits v c e = true≢false (sym c ∙ ap (is_command limits) e ∙ zero_no_command limits)
