-- Laws of the table: how it is made, and that one look into it says whether v is 0 or a command.
use Prim.Native.Nat.{ℕ, zero, suc, ◌+◌, ◌/◌, ◌%◌, ◌<◌, ◌≤◌}
use mathlib.Core.Path.{◌≡◌, refl, ◌∙◌, sym, ap, ap₂}
use mathlib.Core.Bool.{Bool, true, false, ◌&&◌, ◌||◌, cond, and-true, and-false, or-false}
use mathlib.Core.List.{List}
use native.Mathlib.Omega.{arith}
use native.Mathlib.Numerals.{add-one}
use lib.ListN.{get_or, set, replicate}
use lib.Dec.{eqb, leb, ltb}
use borrow.Author.Tests.{ltb-true, ltb-false, leb-true, leb-false, eqb-true, eqb-false, le-leb, lt-leb, lt-ltb, ne_eqb}
use Rattle.lemmas.proofs.Tests.{by_test, same_test}
use Rattle.command.specs.Command.{kind_of, piece_of, hoard_of, enter, move, strike, limit_of, hoard_fits, is_command}
use Rattle.command.specs.Tops.{byte_of, top_of, listed, tops_of, value_by}
use Rattle.command.proofs.Laws.{strikes, no_command}

-- the table with the first n limits stored
unfoldable pub tops_after : List ℕ → ℕ → List ℕ
tops_after limits zero = replicate 96 0
tops_after limits (suc n) =
    set (set (tops_after limits n) (32 + n) (byte_of (get_or limits n 0))) (64 + n) (byte_of (get_or limits n 0))

-- one more, as a loop counts it
pub tops_more
    : (limits t : List ℕ) (n b : ℕ) → t ≡ tops_after limits n → b ≡ byte_of (get_or limits n 0)
    → set (set t (32 + n) b) (64 + n) b ≡ tops_after limits (n + 1)
unfolding tops_after
tops_more limits t n b e f =
    ap₂ (λ (u : List ℕ) (x : ℕ). set (set u (32 + n) x) (64 + n) x) e f ∙ sym (ap (tops_after limits) (add-one n))

pub tops_all : (limits : List ℕ) → tops_after limits 8 ≡ tops_of limits
unfolding tops_after listed top_of
tops_all limits = refl

listed_at : (f : ℕ → ℕ) (i n k : ℕ) → k < n → get_or (listed f i n) k 0 ≡ f (i + k)
unfolding listed
listed_at f i zero k h = absurd (omega arith)
listed_at f i (suc n) zero h = ap f (omega arith)
listed_at f i (suc n) (suc k) h = listed_at f (i + 1) n k (omega arith) ∙ ap f (omega arith)

-- a hoard is one byte
byte_judges : (h limit : ℕ) → h ≤ 255 → leb h (byte_of limit) ≡ leb h limit
byte_judges h limit b =
    by_test (ltb limit 255)
    (λ e. simp e)
    (λ e. let l = ltb-false limit 255 e in simp e (le-leb h 255 b ∙ sym (le-leb h limit (omega arith))))

none_below : (h : ℕ) → (leb 1 h && leb h 0) ≡ false
none_below h = by_test (leb 1 h) (λ e. let l = leb-true 1 h e in simp (e, lt-leb h 0 (omega arith))) (λ e. simp e)

-- enter and move by the table
apart : (h limit : ℕ) (kind small : Bool) → h ≤ 255
    → (leb 1 h && leb h (cond (kind && small) (byte_of limit) 0)) ≡ (small && (kind && leb 1 h && leb h limit))
apart h limit true true b = ap (λ (x : Bool). leb 1 h && x) (byte_judges h limit b)
apart h limit true false b = none_below h
apart h limit false true b = none_below h
apart h limit false false b = none_below h

module _ (limits : List ℕ) (v : ℕ) where
  -- what is looked up, in the words of `is_command`
  top_at
      : v < 196608
      → get_or (tops_of limits) (v / 2048) 0
      ≡ cond ((eqb (kind_of v) enter || eqb (kind_of v) move) && leb (piece_of v) 63) (byte_of (limit_of limits (piece_of v))) 0
  unfolding top_of limit_of
  top_at small =
      let here : 0 + v / 2048 ≡ v / 2048 = omega arith in
      let kind : v / 2048 / 32 ≡ kind_of v = omega arith in
      let cabinet : v / 2048 % 32 ≡ piece_of v / 8 = omega arith in
      let piece : ltb (piece_of v / 8) 8 ≡ leb (piece_of v) 63 =
      same_test (ltb (piece_of v / 8) 8) (leb (piece_of v) 63)
      (λ e. let l = ltb-true (piece_of v / 8) 8 e in le-leb (piece_of v) 63 (omega arith))
      (λ e. let l = leb-true (piece_of v) 63 e in lt-ltb (piece_of v / 8) 8 (omega arith)) in
      listed_at (top_of limits) 0 96 (v / 2048) (omega arith) ∙ ap (top_of limits) here ∙ simp (kind, cabinet, piece)

  below : v < 196608 → (leb 1 (hoard_of v) && leb (hoard_of v) (get_or (tops_of limits) (v / 2048) 0)) ≡ is_command limits v
  unfolding is_command hoard_fits
  below small =
      let none : eqb (kind_of v) strike ≡ false = ne_eqb (kind_of v) strike (λ e. omega arith) in
      let kind = eqb (kind_of v) enter || eqb (kind_of v) move in
      simp (top_at small, none, or-false) (apart (hoard_of v) (limit_of limits (piece_of v)) kind (leb (piece_of v) 63) (omega arith))

  strike_judged : 196608 ≤ v → (eqb (hoard_of v) 0 && eqb (v / 16384) 12) ≡ is_command limits v
  strike_judged low =
      by_test (eqb (v / 16384) 12)
      (λ s. simp (s, and-true) (strikes limits v (eqb-true (v / 16384) 12 s)))
      (λ s. simp (s, and-false) (no_command limits v (λ x. omega arith) (λ x. omega arith) (eqb-false (v / 16384) 12 s)))

  pub value_by_table : value_by (tops_of limits) v ≡ (eqb v 0 || is_command limits v)
  unfolding value_by
  value_by_table =
      ap (λ (x : Bool). eqb v 0 || x)
      (by_test (leb 196608 v)
      (λ e. simp e (strike_judged (leb-true 196608 v e)))
      (λ e. simp e (below (leb-false 196608 v e))))
