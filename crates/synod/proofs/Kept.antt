-- Every step keeps the invariant, accepted or refused.
use Prim.Native.Nat.{ℕ, ◌<◌}
use native.Mathlib.Omega.{arith}
use borrow.Author.Tests.{ltb-true}
use mathlib.Core.Bool.{true}
use mathlib.Core.List.Memᴰ
use mathlib.Core.Path.{◌≡◌, refl}
use Rattle.state.specs.declared.Sizes.{Sizes}
use Rattle.state.specs.declared.Step.{Step}
use Rattle.state.specs.declared.Step.TheVariants.{Offer, Recall, Rejoin, Bid, Write, Read, Finish, Fail, DriveOff, DriveOn}
use Rattle.state.specs.declared.Answer.TheVariants.{Done}
use Rattle.state.specs.Server.{failed}
use Rattle.std.specs.Prelude.{Ok, Err}
use Rattle.checks.specs.declared.Refusal.{Refusal}
use Rattle.synod.specs.Arguments.{places_fit}
use Rattle.synod.proofs.Machine.{ruled, after, Fits}
use Rattle.synod.proofs.Past.{Ghost, noted, heard}
use Rattle.synod.specs.Rules.{Ruling, ruling, offer_rule, recall_rule, rejoin_rule, bid_rule, write_rule, read_rule, finish_rule, rule_of}
use Rattle.synod.specs.Slot.{Slot, Config, config_of}
use Rattle.synod.proofs.Places.{at_server, at_drive, at_other}
use Rattle.synod.proofs.Rulings.{recall_cases, rejoin_cases, bid_cases, write_cases, read_cases, finish_cases}
use Rattle.synod.proofs.Invariant.{Invariant}
use Rattle.synod.proofs.Frame.{frame}
use Rattle.synod.proofs.OfferStep.{offered_more, offer_change}
use Rattle.synod.proofs.RejoinStep.{recall_change, rejoin_change}
use Rattle.synod.proofs.BidStep.{bid_change, fail_change}
use Rattle.synod.proofs.WriteStep.{write_change}
use Rattle.synod.proofs.ReadStep.{read_change}
use Rattle.synod.proofs.AgreeStep.{learn_kept}
use Rattle.synod.proofs.Completes.{completes}
use Rattle.synod.proofs.ChooseStep.{choose_kept}
use Rattle.synod.proofs.CommitStep.{commit_kept}

-- the invariant after the step st, if its rule says r
abbrev Keeps : Config → Ghost → Slot → Step → Ruling → Type 0
Keeps c g σ st r = Invariant c (noted g σ st r) (after σ st r)

module _ {c : Config} {g : Ghost} {σ : Slot} (inv : Invariant c g σ) where
  refused : (st : Step) (n : Refusal) → Keeps c g σ st (Err n)
  unfolding noted after
  refused st n = inv

  module _ (p : ℕ) (lp : p < c.servers) (s : ℕ) where
    offer_kept : (v : ℕ) → Keeps c g σ (Offer p s v) (ruling (offer_rule (σ p).own v))
    unfolding noted after heard offer_rule
    offer_kept v = let now = offered_more v inv in frame now p lp _ (offer_change now p lp v (Memᴰ.head refl))

    recall_kept : (off d : ℕ) → Keeps c g σ (Recall p s d) (ruling (recall_rule off (σ p).own ((σ p).disk d) p d))
    unfolding noted after heard
    recall_kept off d =
        recall_cases (Keeps c g σ (Recall p s d)) (refused (Recall p s d)) (σ p).own off ((σ p).disk d) p d
        (λ phase. frame inv p lp _ (recall_change inv p lp d phase))

    rejoin_kept : (b : ℕ) → Keeps c g σ (Rejoin p s b) (ruling (rejoin_rule c.servers c.drives (σ p).own p b))
    unfolding noted after heard
    rejoin_kept b =
        rejoin_cases (Keeps c g σ (Rejoin p s b)) (refused (Rejoin p s b)) (σ p).own c.servers c.drives p b
        (λ mine phase most up. frame inv p lp _ (rejoin_change inv p lp b mine phase most up))

    bid_kept : (b : ℕ) → Keeps c g σ (Bid p s b) (ruling (bid_rule c.servers (σ p).own p b))
    unfolding noted after heard
    bid_kept b =
        bid_cases (Keeps c g σ (Bid p s b)) (refused (Bid p s b)) (σ p).own c.servers p b
        (λ mine two up. frame inv p lp _ (bid_change inv p lp b mine two.least up))

    write_kept : (off d : ℕ) → d < 32 → Keeps c g σ (Write p s d) (ruling (write_rule off (σ p).own d))
    unfolding noted after heard
    write_kept off d ld =
        write_cases (Keeps c g σ (Write p s d)) (refused (Write p s d)) (σ p).own off d
        (λ joined. frame inv p lp _ (write_change inv p lp d ld joined))

    read_kept : Fits c → (off d q : ℕ) → q < c.servers
        → Keeps c g σ (Read p s d q) (ruling (read_rule c.servers off (σ p).own ((σ q).disk d) p d q))
    unfolding noted after heard
    read_kept fits off d q lq =
        read_cases (Keeps c g σ (Read p s d q)) (refused (Read p s d q)) (σ p).own c.servers off ((σ q).disk d) p d q
        (λ two here low. frame inv p lp _ (read_change fits inv p lp d q lq two.least two.most here low))
        (λ b two mine up. frame inv p lp _ (bid_change inv p lp b mine two.least up))
        (λ two some. learn_kept inv p lp two.least q d lq some)

    finish_kept : Keeps c g σ (Finish p s) (ruling (finish_rule c.servers c.drives (σ p).own p))
    unfolding noted after heard
    finish_kept =
        finish_cases (Keeps c g σ (Finish p s)) (refused (Finish p s)) (σ p).own c.servers c.drives p
        (λ one most some.
        choose_kept
        (record { inv = inv; within = lp; one = one; full = completes c (σ p).own p most; some = some }))
        (λ two most. commit_kept inv p lp two (completes c (σ p).own p most))

    fail_kept : Keeps c g σ (Fail p) (Ok (failed, Done))
    unfolding noted after heard
    fail_kept = frame inv p lp _ (fail_change inv p lp)

module _ (z : Sizes) (fits : Fits (config_of z)) (off : ℕ) {g : Ghost} {σ : Slot} (inv : Invariant (config_of z) g σ) where
  pub kept : (st : Step) → places_fit z st ≡ true
      → Invariant (config_of z) (noted g σ st (ruled (config_of z) off σ st)) (after σ st (ruled (config_of z) off σ st))
  unfolding places_fit rule_of
  kept (Offer p s v) h = offer_kept inv p (at_server z p s h).server s v
  kept (Recall p s d) h = recall_kept inv p (at_drive z p s d h).server s off d
  kept (Rejoin p s b) h = rejoin_kept inv p (at_server z p s h).server s b
  kept (Bid p s b) h = bid_kept inv p (at_server z p s h).server s b
  kept (Write p s d) h =
      let at = at_drive z p s d h in
      let few = fits.drives in
      write_kept inv p at.server s off d (omega (arith, at.drive))
  kept (Read p s d q) h =
      let at = at_other z p s d q h in
      read_kept inv p at.server s fits off d q at.other
  kept (Finish p s) h = finish_kept inv p (at_server z p s h).server s
  kept (Fail p) h = fail_kept inv p (ltb-true p z.servers h) 0
  kept (DriveOff d) h = unfold noted after in inv
  kept (DriveOn d) h = unfold noted after in inv
