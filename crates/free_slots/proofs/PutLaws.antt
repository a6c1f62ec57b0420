-- Laws of put: its answers in the order of its checks, the lowest refusal that applies, what a refusal leaves; and a Put in
-- the slot that an Ask of the same room named is done with any command.
use Prim.Native.Nat.{ℕ, ◌≤◌}
use mathlib.Core.Path.{◌≡◌, refl, ◌∙◌, sym, ap, subst}
use mathlib.Core.Bool.{true, false, true≢false}
use mathlib.Core.List.{List, [], ◌∷◌}
use mathlib.Core.Logic.{inl, inr}
use native.Mathlib.Omega.{arith}
use lib.Dec.{ltb}
use borrow.Author.Tests.{lt-ltb, ltb-true}
use Rattle.lemmas.proofs.Tests.{by_test, and_intro, and_left, and_right}
use Rattle.std.specs.Prelude.{Result, Ok, Err}
use Rattle.checks.specs.declared.Refusal.{Refusal}
use Rattle.checks.specs.declared.Refusal.TheVariants.{OutOfRange, BeyondRoom, NoCommand, SlotNotFree}
use Rattle.checks.specs.Checks.{must, mapped, left_by, accepted}
use Rattle.checks.specs.Refusals.{refusal_number, refusal_in, numbers_of, rises}
use Rattle.checks.specs.Lowest.{LowestFirst}
use Rattle.checks.proofs.CheckLaws.{must_cases}
use Rattle.checks.proofs.LowestLaws.{refusal_mapped, accepted_mapped, left_as_it_was, orderly}
use Rattle.command.specs.Command.{is_command}
use Rattle.state.specs.declared.Answer.TheVariants.{Done}
use Rattle.state.specs.declared.Answer.{Answer}
use Rattle.state.specs.declared.Server.{Server}
use Rattle.state.specs.declared.Step.TheVariants.{Offer}
use Rattle.state.specs.Answers.{Answered}
use Rattle.state.specs.Sizes.{in_room}
use Rattle.synod.specs.Arguments.{places_fit, command_fits}
use Rattle.synod.specs.Rules.{Ruling, ruling, offer_rule, rule_of}
use Rattle.layout.specs.Cells.{sizes_of, limits_of, server_of}
use Rattle.range.specs.Range.{in_range}
use Rattle.range.proofs.Laws.{range_says}
use Rattle.room.specs.declared.effect.Effect.{Effect}
use Rattle.room.specs.Judge.{recording, effect_of, judged, answer_of}
use Rattle.room.specs.Ready.{InSlot}
use Rattle.room.specs.Step.{settled, answered, stepped}
use Rattle.free_slots.specs.Ask.{free_at, asked, slot_named}
use Rattle.free_slots.specs.Put.{put_rule, put_judged, put_answered, put_cells}
use Rattle.free_slots.specs.AskThenPut.{Names, AsOffer, OnlyCommand}
use Rattle.room.proofs.Checks.{passed}
use Rattle.free_slots.proofs.AskLaws.{ask_names}

module _ (r : List ℕ) (p s v : ℕ) where
  module _ (a : in_range r ≡ true) (b : in_room (sizes_of r) p s ≡ true) where
    pub put_5 : is_command (limits_of r) v ≡ false → ruling (put_rule r p s v) ≡ Err NoCommand
    unfolding put_rule must
    put_5 c = simp (a, b, c)

    pub put_passed
        : is_command (limits_of r) v ≡ true → free_at (sizes_of r) r p s ≡ true
        → ruling (put_rule r p s v) ≡ ruling (offer_rule (server_of (sizes_of r) r s p) v)
    unfolding put_rule must
    put_passed c d = simp (a, b, c, d)

  -- what holds of every refusal, and of the rule of Offer where the checks pass, holds of the ruling
  pub by_rule {ℓ}
      : (P : Ruling → Type ℓ) → ((n : Refusal) → 1 ≤ refusal_number n → P (Err n))
      → (in_range r ≡ true → in_room (sizes_of r) p s ≡ true → is_command (limits_of r) v ≡ true
      → free_at (sizes_of r) r p s ≡ true → P (ruling (offer_rule (server_of (sizes_of r) r s p) v)))
      → P (ruling (put_rule r p s v))
  unfolding put_rule
  by_rule P stop way =
      must_cases P _ OutOfRange _ (stop OutOfRange (omega arith))
      (λ a.
      must_cases P _ BeyondRoom _ (stop BeyondRoom (omega arith))
      (λ b.
      must_cases P _ NoCommand _ (stop NoCommand (omega arith))
      (λ c.
      must_cases P _ SlotNotFree _ (stop SlotNotFree (omega arith)) (way a b c))))

  -- the same of the effects
  pub by_put {ℓ}
      : (P : Result Effect Refusal → Type ℓ) → ((n : Refusal) → 1 ≤ refusal_number n → P (Err n))
      → (in_range r ≡ true → in_room (sizes_of r) p s ≡ true → is_command (limits_of r) v ≡ true
      → free_at (sizes_of r) r p s ≡ true → P (effect_of (sizes_of r) r (Offer p s v)))
      → P (put_judged r p s v)
  unfolding put_judged effect_of rule_of
  by_put P stop way = by_rule (λ x. P (mapped (recording s p) x)) stop way

  -- where a Put is accepted, its place is in the room
  abbrev Placed : Ruling → Type 0
  Placed (Ok x) = InSlot (sizes_of r) r s p
  Placed (Err n) = Unit {0}

  offer_placed : in_range r ≡ true → in_room (sizes_of r) p s ≡ true → Placed (ruling (offer_rule (server_of (sizes_of r) r s p) v))
  unfolding offer_rule
  offer_placed a b =
      record {
        row = (range_says r a).row;
        slot = ltb-true s (sizes_of r).slots (and_right (ltb p (sizes_of r).servers) (ltb s (sizes_of r).slots) b);
        server = ltb-true p (sizes_of r).servers (and_left (ltb p (sizes_of r).servers) (ltb s (sizes_of r).slots) b);
      }

  pub put_placed : (y : Ruling) (own : Server) (a : Answer) → y ≡ ruling (put_rule r p s v) → y ≡ Ok (own, a) → InSlot (sizes_of r) r s p
  put_placed y own a said is = subst Placed (sym said ∙ is) (by_rule Placed (λ n h. tt) (λ a b c d. offer_placed a b))

  -- the lowest refusal that applies is given, and a refusal leaves every cell as it was
  pub put_lowest_first : LowestFirst (put_rule r p s v) (3 ∷ 4 ∷ 5 ∷ 16 ∷ []) (put_answered r p s v) r (put_cells r p s v)
  unfolding put_answered put_judged put_cells put_rule offer_rule numbers_of rises
  put_lowest_first =
      orderly refl refl
      (refusal_mapped answer_of (put_judged r p s v) ∙ refusal_mapped (recording s p) (ruling (put_rule r p s v)))
      (λ e.
      left_as_it_was (settled (sizes_of r) r) r (put_judged r p s v)
      (sym (accepted_mapped answer_of (put_judged r p s v)) ∙ e))

  -- where a Put is not refused, it is judged as the Offer, and so does what that does
  judged_alike : accepted (put_answered r p s v) ≡ true → put_judged r p s v ≡ judged r (Offer p s v)
  unfolding put_answered places_fit command_fits
  judged_alike =
      by_put (λ e. accepted (mapped answer_of e) ≡ true → e ≡ judged r (Offer p s v))
      (λ n h k. absurd (true≢false (sym k)))
      (λ a b c d k. sym (passed r (Offer p s v) a b c))

  pub put_as_offer : accepted (put_answered r p s v) ≡ true → AsOffer r p s v
  unfolding put_answered put_cells answered stepped
  put_as_offer e =
      let same = judged_alike e in
      record { answers = ap (mapped answer_of) same; leaves = ap (left_by (settled (sizes_of r) r) r) same }

  named : Names r p s → OnlyCommand r p s v
  unfolding put_answered put_judged offer_rule
  named n =
      let places = and_intro _ _ (lt-ltb p (sizes_of r).servers n.server) (lt-ltb s (sizes_of r).slots n.slot) in
      let said-by : Ruling → Answered = λ x. mapped answer_of (mapped (recording s p) x) in
      let done : is_command (limits_of r) v ≡ true → put_answered r p s v ≡ Ok Done =
      λ c. ap said-by (put_passed n.range places c n.free) in
      let five : is_command (limits_of r) v ≡ false → put_answered r p s v ≡ Err NoCommand =
      λ c. ap said-by (put_5 n.range places c) in
      record {
        command = done;
        otherwise = five;
        no_other =
            by_test (is_command (limits_of r) v) (λ c. inl (ap refusal_in (done c))) (λ c. inr (ap refusal_in (five c)));
      }

-- where Ask names a slot, a Put of the same server there, on the same room, is done if it is a command and 5 if not
pub put_after_ask
    : (r : List ℕ) (p v : ℕ) → accepted (asked r p) ≡ true → OnlyCommand r p (slot_named (asked r p)) v
put_after_ask r p v e = named r p (slot_named (asked r p)) v (ask_names r p e)
