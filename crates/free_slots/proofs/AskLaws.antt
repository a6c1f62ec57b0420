-- Laws of ask: its answers in the order of its checks; it names a free slot and no lower one is free; 17 says that none
-- is; and of the refusals that apply it gives the lowest.
use Prim.Native.Nat.{ℕ, zero, suc, ◌+◌, ◌<◌, ◌≤◌}
use mathlib.Core.Path.{◌≡◌, refl, sym, ap, subst}
use mathlib.Core.Bool.{Bool, true, false, true≢false, cond}
use mathlib.Core.List.{List, [], ◌∷◌}
use native.Mathlib.Omega.{arith}
use native.Mathlib.Decide.{dec_lt}
use lib.Dec.{ltb, eqb}
use borrow.Author.Tests.{lt-ltb, le-ltb, ltb-true, ltb-false, eqb-true, eqb-false}
use Rattle.lemmas.proofs.Tests.{by_test, clash}
use Rattle.std.specs.Prelude.{Option, None, Some, Result, Ok, Err}
use Rattle.std.specs.Option.{MatchOption}
use Rattle.checks.specs.declared.Refusal.{Refusal}
use Rattle.checks.specs.declared.Refusal.TheVariants.{OutOfRange, BeyondRoom, NoSlotFree}
use Rattle.checks.specs.Checks.{must, accepted}
use Rattle.checks.specs.Refusals.{refusal_number, refusal_in, numbers_of, rises}
use Rattle.checks.specs.Lowest.{LowestFirst}
use Rattle.checks.proofs.LowestLaws.{orderly}
use Rattle.layout.specs.Cells.{sizes_of}
use Rattle.range.specs.Range.{in_range}
use Rattle.free_slots.specs.Ask.{free_at, first_from, lowest_free, ask_checks, asked, slot_named}
use Rattle.free_slots.specs.AskThenPut.{Names, NoneFree}

-- r is the first of the n numbers from s on at which f holds, or the one after them
pub record First (f : ℕ → Bool) (s n r : ℕ) : Type 0 where
  pub from : s ≤ r
  pub most : r ≤ s + n
  pub lower : (t : ℕ) → s ≤ t → t < r → f t ≡ false
  pub here : r < s + n → f r ≡ true

module _ (f : ℕ → Bool) where
  first_more : (s n r : ℕ) → f s ≡ false → First f (suc s) n r → First f s (suc n) r
  first_more s n r e i =
      record {
        from = omega (arith, i.from);
        most = omega (arith, i.most);
        lower =
            λ t a b.
            by_test (eqb t s)
            (λ k. subst (λ (u : ℕ). f u ≡ false) (sym (eqb-true t s k)) e)
            (λ k. i.lower t (omega (arith, eqb-false t s k)) b);
        here = λ a. i.here (omega arith);
      }

  first : (s n : ℕ) → First f s n (first_from f s n)
  unfolding first_from
  first s zero = record { from = omega arith; most = omega arith; lower = λ t a b. absurd (omega arith); here = λ a. absurd (omega arith) }
  first s (suc n) =
      by_test (f s)
      (λ e. rw e (record { from = omega arith; most = omega arith; lower = λ t a b. absurd (omega arith); here = λ a. e }))
      (λ e. rw e (first_more s n (first_from f (suc s) n) e (first (suc s) n)))

  -- a number is the first of n if f holds at none below it, and at it if it is one of them
  is_first_from
      : (n r : ℕ) → r ≤ n → ((t : ℕ) → 0 ≤ t → t < r → f t ≡ false) → (r < n → f r ≡ true) → r ≡ first_from f 0 n
  is_first_from n r most lower here = by_order (dec_lt r x) (dec_lt x r)
    where
      x : ℕ
      x = first_from f 0 n

      i : First f 0 n x
      i = first 0 n

      by_order : Dec (r < x) → Dec (x < r) → r ≡ x
      by_order (yes l) b = clash (f r) (here (omega (arith, i.most))) (i.lower r (omega arith) l)
      by_order (no a) (yes l) = clash (f x) (i.here (omega arith)) (lower x (omega arith) l)
      by_order (no a) (no b) = omega arith

  -- what a search of the first n numbers answers
  pub first_found
      : (n : ℕ) (r : Option ℕ)
      → MatchOption r ((t : ℕ) → 0 ≤ t → t < n → f t ≡ false)
      (λ s. (0 ≤ s) × (s < n) × (f s ≡ true) × ((t : ℕ) → 0 ≤ t → t < s → f t ≡ false))
      → r ≡ cond (ltb (first_from f 0 n) n) (Some (first_from f 0 n)) None
  first_found n None h =
      let e = is_first_from n n (omega arith) h (λ l. absurd (omega arith)) in
      simp (sym e, le-ltb n n (omega arith))
  first_found n (Some s) h =
      let e = is_first_from n s (omega (arith, h.1)) h.3 (λ l. h.2) in
      simp (sym e, lt-ltb s n h.1)

module _ (cells : List ℕ) (p : ℕ) where
  -- whether slot s of this room is free for the server
  abbrev free : ℕ → Bool
  free s = free_at (sizes_of cells) cells p s

  is_first : First free 0 (sizes_of cells).slots (lowest_free (sizes_of cells) cells p)
  unfolding lowest_free
  is_first = first free 0 (sizes_of cells).slots

  pub asked_3 : in_range cells ≡ false → asked cells p ≡ Err OutOfRange
  unfolding asked ask_checks must
  asked_3 a = simp a

  pub asked_4 : in_range cells ≡ true → ltb p (sizes_of cells).servers ≡ false → asked cells p ≡ Err BeyondRoom
  unfolding asked ask_checks must
  asked_4 a b = simp (a, b)

  pub asked_17
      : in_range cells ≡ true → ltb p (sizes_of cells).servers ≡ true
      → ltb (lowest_free (sizes_of cells) cells p) (sizes_of cells).slots ≡ false → asked cells p ≡ Err NoSlotFree
  unfolding asked ask_checks must
  asked_17 a b c = simp (a, b, c)

  pub asked_slot
      : in_range cells ≡ true → ltb p (sizes_of cells).servers ≡ true
      → ltb (lowest_free (sizes_of cells) cells p) (sizes_of cells).slots ≡ true
      → asked cells p ≡ Ok (lowest_free (sizes_of cells) cells p)
  unfolding asked ask_checks must
  asked_slot a b c = simp (a, b, c)

  -- the answer, by cases
  abbrev Says : Result ℕ Refusal → Type 0
  Says (Ok s) = Names cells p s
  Says (Err n) = refusal_number n ≡ 17 → NoneFree cells p

  says_17 : (sizes_of cells).slots ≤ lowest_free (sizes_of cells) cells p → NoneFree cells p
  says_17 h t l = is_first.lower t (omega arith) (omega arith)

  says : Says (asked cells p)
  says =
      by_test (in_range cells)
      (λ a.
      by_test (ltb p (sizes_of cells).servers)
      (λ b.
      let s = lowest_free (sizes_of cells) cells p in
      by_test (ltb s (sizes_of cells).slots)
      (λ c.
      let l = ltb-true s (sizes_of cells).slots c in
      subst Says (sym (asked_slot a b c))
      (record {
        range = a;
        server = ltb-true p (sizes_of cells).servers b;
        slot = l;
        free = is_first.here (omega arith);
        lower = λ t h. is_first.lower t (omega arith) h;
      }))
      (λ c. subst Says (sym (asked_17 a b c)) (λ e. says_17 (ltb-false s (sizes_of cells).slots c))))
      (λ b. subst Says (sym (asked_4 a b)) (λ e. absurd (omega arith))))
      (λ a. subst Says (sym (asked_3 a)) (λ e. absurd (omega arith)))

  named : (a : Result ℕ Refusal) → Says a → accepted a ≡ true → Names cells p (slot_named a)
  named (Ok s) i e = i
  named (Err n) i e = absurd (true≢false (sym e))

  stopped : (a : Result ℕ Refusal) → Says a → refusal_in a ≡ 17 → NoneFree cells p
  stopped (Ok s) i e = absurd (omega arith)
  stopped (Err n) i e = i e

  -- the slot that is named is free, and no lower one is
  pub ask_names : accepted (asked cells p) ≡ true → Names cells p (slot_named (asked cells p))
  ask_names = named (asked cells p) says

  -- 17 exactly where none is free
  pub ask_17_none : refusal_in (asked cells p) ≡ 17 → NoneFree cells p
  ask_17_none = stopped (asked cells p) says

  pub none_ask_17 : in_range cells ≡ true → p < (sizes_of cells).servers → NoneFree cells p → refusal_in (asked cells p) ≡ 17
  none_ask_17 a h none =
      let s = lowest_free (sizes_of cells) cells p in
      by_test (ltb s (sizes_of cells).slots)
      (λ c.
      let l = ltb-true s (sizes_of cells).slots c in
      clash (free s) (is_first.here (omega arith)) (none s l))
      (λ c. ap refusal_in (asked_17 a (lt-ltb p (sizes_of cells).servers h) c))

  -- the lowest refusal that applies is given; the room is lent to be read alone
  pub ask_lowest_first : LowestFirst (ask_checks cells p) (3 ∷ 4 ∷ 17 ∷ []) (asked cells p) cells cells
  unfolding asked ask_checks numbers_of rises
  ask_lowest_first = orderly refl refl refl (λ e. refl)
