-- Laws of the next step: what it gives is accepted; its refusals in the order of their numbers.
use Prim.Native.Nat.{ℕ}
use mathlib.Core.Bool.{true, false, not, true≢false}
use mathlib.Core.List.{List, [], ◌∷◌}
use mathlib.Core.Path.{◌≡◌, refl, ◌∙◌, sym, ap, subst}
use native.Mathlib.Omega.{arith}
use lib.Dec.{eqb}
use borrow.Author.Tests.{not-true}
use Rattle.lemmas.proofs.Tests.{by_test, and_right}
use Rattle.std.specs.Prelude.{Option, Some, None, Ok, option_map, option_and_then}
use Rattle.checks.specs.Checks.{must, accepted}
use Rattle.checks.specs.Refusals.{numbers_of, rises}
use Rattle.checks.specs.Lowest.{LowestFirst}
use Rattle.checks.proofs.LowestLaws.{orderly}
use Rattle.state.specs.declared.Step.{Step}
use Rattle.room.specs.Step.{answered}
use Rattle.state.specs.declared.Step.TheVariants.{Rejoin, Finish}
use Rattle.state.specs.declared.Server.{Server}
use Rattle.state.specs.declared.Sizes.{Sizes}
use Rattle.state.specs.Sizes.{in_room}
use Rattle.ballot.specs.Ballot.{next_own}
use Rattle.ballot.proofs.Laws.{ballot_answered}
use Rattle.quorum.specs.Sets.{majority}
use Rattle.synod.specs.Rules.{balloting, is_on}
use Rattle.layout.specs.Cells.{sizes_of, off_of, server_of}
use Rattle.range.specs.Range.{in_range}
use Rattle.progress.specs.Used.{on_below, is_used}
use Rattle.progress.specs.Next.{rejoin, wished, if_accepted, next_of, next_checks, next_answered}
use Rattle.progress.specs.Given.{Given, FirstMajority}
use Rattle.progress.proofs.Drives.{used_says, early, used_majority}
use Rattle.progress.proofs.Left.{first_recall, first_round}

no_step : {X : Type 0} (st : Step) → None ≡ Some st → X
no_step st e = let z : ◌≡◌ {A = ℕ} 0 1 = cc in absurd (omega arith)

module _ (cells : List ℕ) (p s : ℕ) where
  -- the lowest refusal that applies is given; the room is lent to be read alone
  pub next_lowest_first : LowestFirst (next_checks cells p s) (3 ∷ 4 ∷ 19 ∷ []) (next_answered cells p s) cells cells
  unfolding next_answered next_checks numbers_of rises
  next_lowest_first = orderly refl refl refl (λ e. refl)

  -- without a refusal the answer is the step or none
  when_accepted : accepted (next_answered cells p s) ≡ true → next_answered cells p s ≡ Ok (next_of cells p s)
  unfolding next_answered next_checks must
  when_accepted =
      by_test (in_range cells)
      (λ a.
      by_test (in_room (sizes_of cells) p s)
      (λ b.
      by_test (majority (sizes_of cells).drives (is_on (off_of cells)))
      (λ c. rw (a, b, c) (λ e. refl))
      (λ c. rw (a, b, c) (λ e. absurd (true≢false (sym e)))))
      (λ b. rw (a, b) (λ e. absurd (true≢false (sym e)))))
      (λ a. rw a (λ e. absurd (true≢false (sym e))))

  next_of_is : (x : Option Step) → next_answered cells p s ≡ Ok x → next_of cells p s ≡ x
  next_of_is x e =
      let same : Ok (next_of cells p s) ≡ Ok x = sym (when_accepted (ap accepted e)) ∙ e in
      cc

  -- a wish that is given
  record Wished (o : Option Step) (st : Step) : Type 0 where
    wish : o ≡ Some st
    is_accepted : accepted (answered cells st) ≡ true

  wish_given : (o : Option Step) (st : Step) → option_and_then (if_accepted cells) o ≡ Some st → Wished o st
  wish_given None st e = no_step st e
  wish_given (Some y) st e =
      by_test (accepted (answered cells y))
      (λ t.
      let same : Some y ≡ Some st = sym (simp t) ∙ e in
      let is : y ≡ st = cc in
      record { wish = same; is_accepted = subst (λ x. accepted (answered cells x) ≡ true) is t })
      (λ t. no_step st (sym (simp t) ∙ e))

  abbrev own : Server
  own = server_of (sizes_of cells) cells s p

  given : (st : Step) → next_answered cells p s ≡ Ok (Some st) → Wished (wished (sizes_of cells) (off_of cells) own p s) st
  unfolding next_of
  given st e = wish_given (wished (sizes_of cells) (off_of cells) own p s) st (next_of_is (Some st) e)

module _ (z : Sizes) (off : ℕ) (v : Server) (p s : ℕ) where
  -- a wish to rejoin has the next own ballot
  abbrev ByNext : ℕ → ℕ → ℕ → Option Step → Type 0
  ByNext q t b x = x ≡ Some (Rejoin q t b) → next_own z.servers p v.top ≡ Some b

  by_rejoin : (q t b : ℕ) (next : Option ℕ) → option_map (Rejoin p s) next ≡ Some (Rejoin q t b) → next ≡ Some b
  by_rejoin q t b None e = no_step (Rejoin q t b) e
  by_rejoin q t b (Some c) e = let same : c ≡ b = cc in ap Some same

  rejoin_by_next : (q t b : ℕ) → ByNext q t b (wished z off v p s)
  unfolding wished rejoin
  rejoin_by_next q t b =
      by_test (eqb v.phase 0)
      (λ e.
      rw e
      (first_recall (ByNext q t b) z off v p s (rejoin z off v p s)
      (λ d i h k. let w : ◌≡◌ {A = ℕ} 0 1 = cc in absurd (omega arith))
      (λ all. by_rejoin q t b (next_own z.servers p v.top))))
      (λ e.
      rw e
      (by_test (balloting v)
      (λ f.
      rw f
      (first_round (ByNext q t b) z off v p s (Some (Finish p s))
      (λ d i h k. let w : ◌≡◌ {A = ℕ} 0 1 = cc in absurd (omega arith))
      (λ d y i j h g k. let w : ◌≡◌ {A = ℕ} 0 1 = cc in absurd (omega arith))
      (λ all k. let w : ◌≡◌ {A = ℕ} 0 1 = cc in absurd (omega arith))))
      (λ f. rw f (no_step (Rejoin q t b)))))

  none_in_phase_3 : v.phase ≡ 3 → wished z off v p s ≡ None
  unfolding wished
  none_in_phase_3 e = rw e refl

pub next_given : (cells : List ℕ) (p s : ℕ) → Given cells p s
unfolding next_of
next_given cells p s =
    record {
      step_accepted = λ st e. (given cells p s st e).is_accepted;
      least =
          λ q t b e.
          ballot_answered (sizes_of cells).servers p _ b
          (rejoin_by_next (sizes_of cells) (off_of cells) (server_of (sizes_of cells) cells s p) p s q t b
          (given cells p s (Rejoin q t b) e).wish);
      phase_3 =
          λ e a.
          when_accepted cells p s a
          ∙ ap (λ o. Ok (option_and_then (if_accepted cells) o))
          (none_in_phase_3 (sizes_of cells) (off_of cells) (server_of (sizes_of cells) cells s p) p s e);
    }

pub first_majority : (drives off : ℕ) → FirstMajority drives off
unfolding is_used
first_majority drives off =
    record {
      used = λ d i. let u = used_says drives off d i in (u.within, u.on);
      run = λ d e u l o. early drives off d e (shortest d u) (omega arith) o;
      most = used_majority drives off;
      shortest = shortest;
    }
  where
    shortest : (d : ℕ) → is_used drives off d ≡ true → majority drives (on_below off d) ≡ false
    shortest d u =
        not-true (majority drives (on_below off d)) (and_right (is_on off d) (not (majority drives (on_below off d))) u)
