-- What is judged together: values by the table, and the cells of a block.
use Prim.Native.Nat.{ℕ}
use mathlib.Core.Path.{◌≡◌, refl, ◌∙◌, ap}
use mathlib.Core.Bool.{true, ◌&&◌, ◌||◌}
use mathlib.Core.List.{List}
use mathlib.Core.Logic.{◌⊎◌, inl, inr}
use native.Mathlib.Omega.{arith}
use borrow.Author.Tests.{eqb-true}
use lib.Bits.{bit_or, or_add_and, and_le_l, and_le_r}
use lib.Dec.{eqb}
use Rattle.lemmas.proofs.Tests.{and_left, and_right, and_intro, or_either}
use Rattle.command.specs.Tops.{tops_of, value_by}
use Rattle.command.proofs.TopLaws.{value_by_table}
use Rattle.state.specs.declared.Block.{Block}
use Rattle.state.specs.Block.{same_block}
use Rattle.range.specs.Range.{value_fits, values_fit, holds_only}

-- the table of a room's limits judges values as the limits do
pub by_table : (limits : List ℕ) → value_by (tops_of limits) ≡ value_fits limits
unfolding value_fits
by_table limits i v = value_by_table limits v i

pub zero_by : (tops : List ℕ) → value_by tops 0 ≡ true
unfolding value_by
zero_by tops = refl

-- four values of which none is above 0
or_none : (a b : ℕ) → bit_or a b ≡ 0 → (a ≡ 0) × (b ≡ 0)
or_none a b e =
    let s = or_add_and a b in
    let l = and_le_l a b in
    let r = and_le_r a b in
    (omega arith, omega arith)

pub all_zero
    : (tops : List ℕ) (a b c d : ℕ) → bit_or (bit_or (bit_or a b) c) d ≡ 0
    → true ≡ (value_by tops a && value_by tops b && value_by tops c && value_by tops d)
all_zero tops a b c d e =
    let l = or_none (bit_or (bit_or a b) c) d e in
    let k = or_none (bit_or a b) c l.0 in
    let j = or_none a b k.0 in
    simp (j.0, j.1, k.1, l.1, zero_by)

-- equal blocks, by the test of each cell
pub same_block_lem : (a b : Block) → same_block a b ≡ true → a ≡ b
unfolding same_block
same_block_lem a b e =
    let three = and_left (eqb a.mbal b.mbal && eqb a.bal b.bal && eqb a.inp b.inp) (eqb a.done b.done) e in
    let two = and_left (eqb a.mbal b.mbal && eqb a.bal b.bal) (eqb a.inp b.inp) three in
    let mbal = eqb-true a.mbal b.mbal (and_left (eqb a.mbal b.mbal) (eqb a.bal b.bal) two) in
    let bal = eqb-true a.bal b.bal (and_right (eqb a.mbal b.mbal) (eqb a.bal b.bal) two) in
    let inp = eqb-true a.inp b.inp (and_right (eqb a.mbal b.mbal && eqb a.bal b.bal) (eqb a.inp b.inp) three) in
    let done = eqb-true a.done b.done (and_right (eqb a.mbal b.mbal && eqb a.bal b.bal && eqb a.inp b.inp) (eqb a.done b.done) e) in
    λ i. record { mbal = mbal i; bal = bal i; inp = inp i; done = done i }

-- one value and no other: each is 0 or a value
module _ (tops : List ℕ) (v : ℕ) (known : value_by tops v ≡ true) where
  either : (x : ℕ) → (eqb x 0 || eqb x v) ≡ true → value_by tops x ≡ true
  either x e = by_case (or_either (eqb x 0) (eqb x v) e)
    where
      by_case : (eqb x 0 ≡ true) ⊎ (eqb x v ≡ true) → value_by tops x ≡ true
      by_case (inl z) = ap (value_by tops) (eqb-true x 0 z) ∙ zero_by tops
      by_case (inr s) = ap (value_by tops) (eqb-true x v s) ∙ known

  pub only_fits : (b : Block) → holds_only v b ≡ true → values_fit (value_by tops) b ≡ true
  unfolding holds_only
  only_fits b e =
      let first = eqb b.inp 0 || eqb b.inp v in
      let second = eqb b.done 0 || eqb b.done v in
      and_intro _ _ (either b.inp (and_left first second e)) (either b.done (and_right first second e))
