-- Laws of open: its refusals in their order, the lowest that applies, and the room that it makes.
use Prim.Native.Nat.{ℕ, suc, ◌+◌, ◌-◌, ◌≤◌}
use mathlib.Core.Path.{◌≡◌, refl, ◌∙◌, sym, ap}
use mathlib.Core.Bool.{Bool, true, false, true≢false, ◌&&◌}
use mathlib.Core.List.{List, [], ◌∷◌, ◌++◌}
use native.Mathlib.Omega.{arith}
use lib.ListN.{length, set, drop, replicate, length-replicate}
use lib.Dec.{eqb}
use borrow.Author.Tests.{eqb-true}
use Rattle.lemmas.proofs.Tests.{by_test, and_left, and_right}
use Rattle.std.proofs.lemmas.List.{drop-replicate}
use Rattle.std.specs.Prelude.{⊤, Result, Ok, Err}
use Rattle.command.specs.Command.{cabinets, limits_fit}
use Rattle.checks.specs.declared.Refusal.{Refusal}
use Rattle.checks.specs.declared.Refusal.TheVariants.{SizesUnfit, WrongLength, LimitsUnfit}
use Rattle.checks.specs.Checks.{must, left_by, accepted}
use Rattle.checks.specs.Refusals.{numbers_of, rises}
use Rattle.checks.specs.Lowest.{LowestFirst}
use Rattle.checks.proofs.LowestLaws.{left_as_it_was, orderly}
use Rattle.state.specs.declared.Sizes.{Sizes}
use Rattle.layout.specs.Places.{base, sizes_fit, room_length, Fit}
use Rattle.layout.specs.Cells.{put, limits_at}
use Rattle.layout.proofs.PlaceLaws.{base_room}
use Rattle.layout.proofs.CellLaws.{put_parts}
use Rattle.room.specs.Open.{open_checks, opening, opened, opened_cells}

-- what open answers, and what becomes of the row
pub record Opens (z : Sizes) (limits cells : List ℕ) (answer : Result ⊤ Refusal) (after : List ℕ) : Type 0 where
  pub answers : answer ≡ opening z limits cells
  pub leaves : after ≡ opened z limits cells

module _ (z : Sizes) (limits cells : List ℕ) where
  opens : (answer : Result ⊤ Refusal) → opening z limits cells ≡ answer → Opens z limits cells answer (left_by (λ _. opened_cells z limits) cells answer)
  unfolding opened
  opens answer e = record { answers = sym e; leaves = ap (left_by (λ _. opened_cells z limits) cells) (sym e) }

  -- the row and the limits are as long as they must be
  abbrev long : Bool
  long = eqb (length cells) (room_length z) && eqb (length limits) cabinets

  pub opens_1 : sizes_fit z ≡ false → Opens z limits cells (Err SizesUnfit) cells
  unfolding opening open_checks must
  opens_1 a = opens (Err SizesUnfit) (simp a)

  pub opens_2 : sizes_fit z ≡ true → long ≡ false → Opens z limits cells (Err WrongLength) cells
  unfolding opening open_checks must
  opens_2 a b = opens (Err WrongLength) (simp (a, b))

  pub opens_18 : sizes_fit z ≡ true → long ≡ true → limits_fit limits ≡ false → Opens z limits cells (Err LimitsUnfit) cells
  unfolding opening open_checks must
  opens_18 a b c = opens (Err LimitsUnfit) (simp (a, b, c))

  pub opens_room
      : sizes_fit z ≡ true → long ≡ true → limits_fit limits ≡ true → Opens z limits cells (Ok tt) (opened_cells z limits)
  unfolding opening open_checks must
  opens_room a b c = opens (Ok tt) (simp (a, b, c))

  -- what open says where it is not refused
  pub record Accepted : Type 0 where
    pub fits : sizes_fit z ≡ true
    pub exact : length cells ≡ room_length z
    pub eight : length limits ≡ cabinets
    pub hoards : limits_fit limits ≡ true
    pub room : opened z limits cells ≡ opened_cells z limits

  pub open_accepted : accepted (opening z limits cells) ≡ true → Accepted
  open_accepted e =
      by_test (sizes_fit z)
      (λ a.
      by_test long
      (λ b.
      by_test (limits_fit limits)
      (λ c.
      record {
        fits = a;
        exact = eqb-true (length cells) (room_length z) (and_left (eqb (length cells) (room_length z)) (eqb (length limits) cabinets) b);
        eight = eqb-true (length limits) cabinets (and_right (eqb (length cells) (room_length z)) (eqb (length limits) cabinets) b);
        hoards = c;
        room = sym (opens_room a b c).leaves;
      })
      (λ c. absurd (refuses LimitsUnfit (opens_18 a b c).answers)))
      (λ b. absurd (refuses WrongLength (opens_2 a b).answers)))
      (λ a. absurd (refuses SizesUnfit (opens_1 a).answers))
    where
      refuses : (n : Refusal) → Err n ≡ opening z limits cells → ⊥
      refuses n k = true≢false (sym (ap accepted k ∙ e))

  -- the lowest refusal that applies is given, and a refusal leaves the row as it was
  pub open_lowest_first
      : LowestFirst (open_checks z limits cells) (1 ∷ 2 ∷ 18 ∷ []) (opening z limits cells) cells (opened z limits cells)
  unfolding opening opened open_checks numbers_of rises
  open_lowest_first = orderly refl refl refl (left_as_it_was (λ _. opened_cells z limits) cells (opening z limits cells))

-- the sizes stored in a row of zeros, and then the limits
head_set
    : (n a b c : ℕ) (limits : List ℕ) → length limits ≡ cabinets → base ≤ n
    → put (set (set (set (replicate n 0) 0 a) 1 b) 2 c) limits_at limits ≡ a ∷ b ∷ c ∷ 0 ∷ (limits ++ replicate (n - base) 0)
head_set n a b c limits e h =
    let four : n ≡ suc (suc (suc (suc (n - 4)))) = omega arith in
    let zeros : List ℕ = replicate (n - 4) 0 in
    let row : List ℕ = a ∷ b ∷ c ∷ 0 ∷ zeros in
    let long = length-replicate {A = ℕ} (n - 4) 0 in
    let behind : limits_at + length limits ≡ base = omega arith in
    let rest : n - 4 - cabinets ≡ n - base = omega arith in
    ap (λ (m : ℕ). put (set (set (set (replicate m 0) 0 a) 1 b) 2 c) limits_at limits) four
    ∙ put_parts row limits_at limits (omega arith)
    ∙ ap (λ (xs : List ℕ). a ∷ b ∷ c ∷ 0 ∷ (limits ++ xs))
    (ap (λ (m : ℕ). drop m row) behind ∙ drop-replicate cabinets (n - 4) 0 ∙ ap (λ (m : ℕ). replicate m 0) rest)

pub cleared_room
    : (z : Sizes) → Fit z → (zeros limits : List ℕ) (n : ℕ) → zeros ≡ replicate n 0 → n ≡ room_length z → length limits ≡ cabinets
    → put (set (set (set zeros 0 z.servers) 1 z.drives) 2 z.slots) limits_at limits ≡ opened_cells z limits
unfolding opened_cells
cleared_room z fit zeros limits n e m eight =
    ap (λ (l : List ℕ). put (set (set (set l 0 z.servers) 1 z.drives) 2 z.slots) limits_at limits)
    (e ∙ ap (λ (k : ℕ). replicate k 0) m)
    ∙ head_set (room_length z) z.servers z.drives z.slots limits eight (base_room z fit)
