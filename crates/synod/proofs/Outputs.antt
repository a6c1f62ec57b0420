-- What the steps do to every server's output and offer (SPEC, "The one-value machine"): both are told by the step and its
-- ruling alone. A committed answer comes from a server that had no output.
use mathlib.Core.Bool.{cond}
use Prim.Native.Nat.{ℕ, ◌≤◌}
use native.Mathlib.Omega.{arith}
use borrow.Author.Tests.{ne_eqb}
use mathlib.Core.Path.{◌≡◌, refl, sym, ap}
use Rattle.state.specs.declared.Server.{Server}
use Rattle.state.specs.declared.Step.{Step}
use Rattle.state.specs.declared.Step.TheVariants.{Offer, Recall, Rejoin, Bid, Write, Read, Finish, Fail, DriveOff, DriveOn}
use Rattle.state.specs.declared.Answer.{Answer}
use Rattle.state.specs.declared.Answer.TheVariants as answer
use Rattle.state.specs.Answers.{code_of}
use Rattle.state.specs.Server.{output_of, offer_of}
use Rattle.state.specs.View.{Brings, Stores, Alone, View, AtSlot, AtServer, AtDrive, view_of}
use Rattle.std.specs.Prelude.{Ok, Err}
use Rattle.synod.specs.Changes.{marking, meeting, topping, recalling, rejoining, bidding, writing, reading, agreeing, proposing}
use Rattle.synod.proofs.Machine.{ruled, after}
use Rattle.synod.specs.Rules.{Ruling, offer_rule, rule_of, recall_rule, rejoin_rule, bid_rule, write_rule, outbid_rule, read_rule, finish_rule}
use Rattle.synod.specs.Slot.{Node, Slot, Config, updated}
use Rattle.checks.proofs.CheckLaws.{AllGive, all_give}
use Rattle.synod.proofs.Rulings.{recall_cases, rejoin_cases, bid_cases, write_cases, read_cases, finish_cases}
use Rattle.synod.proofs.Update.{everywhere, updated_map}

-- a committed answer is its server's output
unfoldable pub told : (ℕ → ℕ) → ℕ → Answer → ℕ → ℕ
told out p answer.Done = out
told out p (answer.Outbid b) = out
told out p (answer.Chosen c) = out
told out p (answer.Committed c) = updated out p c

-- the outputs after a step, from those before it
abbrev pub outputs_at : (ℕ → ℕ) → View → Answer → ℕ → ℕ
outputs_at out (AtSlot p s k) a = told out p a
outputs_at out (AtServer p) a = updated out p 0
outputs_at out (AtDrive d on) a = out

unfoldable pub outputs_after : (ℕ → ℕ) → Step → Ruling → ℕ → ℕ
outputs_after out st (Err n) = out
outputs_after out st (Ok (v, a)) = outputs_at out (view_of st) a

-- the offers after a step, from those before it
abbrev pub offers_at : (ℕ → ℕ) → View → ℕ → ℕ
offers_at offer (AtSlot p s (Brings c)) = updated offer p c
offers_at offer (AtSlot p s (Stores d)) = offer
offers_at offer (AtSlot p s Alone) = offer
offers_at offer (AtServer p) = updated offer p 0
offers_at offer (AtDrive d on) = offer

unfoldable pub offers_after : (ℕ → ℕ) → Step → Ruling → ℕ → ℕ
offers_after offer st (Err n) = offer
offers_after offer st (Ok (v, a)) = offers_at offer (view_of st)

abbrev pub outputs : Slot → ℕ → ℕ
outputs σ q = output_of (σ q).own

abbrev pub offers : Slot → ℕ → ℕ
offers σ q = offer_of (σ q).own

-- only phase 3 has an output
pub quiet : (v : Server) → v.phase ≤ 2 → output_of v ≡ 0
quiet v h = ap (λ t. cond t v.agreed 0) (ne_eqb v.phase 3 (λ e. omega arith))

-- one node changed, and what it shows did not
unchanged : (f : Server → ℕ) (σ : Slot) (p : ℕ) (m : Node) → f m.own ≡ f (σ p).own → (q : ℕ)
    → f (updated σ p m q).own ≡ f (σ q).own
unchanged f σ p m e = everywhere (λ q n. f n.own ≡ f (σ q).own) σ p m e (λ q ne. refl)

-- one node changed, and shows x
changed : (f : Server → ℕ) (σ : Slot) (p : ℕ) (m : Node) (q : ℕ)
    → f (updated σ p m q).own ≡ updated (λ r. f (σ r).own) p (f m.own) q
changed f σ p m q = updated_map (λ n. f n.own) σ p m q

-- the outputs are as the step and the ruling r tell
abbrev TellsOutputs : Slot → Step → ℕ → Ruling → Type 0
TellsOutputs σ st q r = outputs (after σ st r) q ≡ outputs_after (outputs σ) st r q

abbrev TellsOffers : Slot → Step → ℕ → Ruling → Type 0
TellsOffers σ st q r = offers (after σ st r) q ≡ offers_after (offers σ) st r q

module _ (c : Config) (off : ℕ) (σ : Slot) (q : ℕ) where
  pub outputs_told : (st : Step) → TellsOutputs σ st q (ruled c off σ st)
  unfolding rule_of after outputs_after told offer_rule marking meeting topping recalling rejoining bidding writing reading proposing agreeing
  outputs_told (Offer p s v) = unchanged output_of σ p _ refl q
  outputs_told (Recall p s d) =
      recall_cases (TellsOutputs σ (Recall p s d) q) (λ n. refl) (σ p).own off ((σ p).disk d) p d
      (λ phase. unchanged output_of σ p _ refl q)
  outputs_told (Rejoin p s b) =
      rejoin_cases (TellsOutputs σ (Rejoin p s b) q) (λ n. refl) (σ p).own c.servers c.drives p b
      (λ mine phase most up. unchanged output_of σ p _ (sym (quiet (σ p).own (omega arith))) q)
  outputs_told (Bid p s b) =
      bid_cases (TellsOutputs σ (Bid p s b) q) (λ n. refl) (σ p).own c.servers p b
      (λ mine two up. unchanged output_of σ p _ (sym (quiet (σ p).own two.most)) q)
  outputs_told (Write p s d) =
      write_cases (TellsOutputs σ (Write p s d) q) (λ n. refl) (σ p).own off d (λ two. unchanged output_of σ p _ refl q)
  outputs_told (Read p s d r) =
      read_cases (TellsOutputs σ (Read p s d r) q) (λ n. refl) (σ p).own c.servers off ((σ r).disk d) p d r
      (λ two here low. unchanged output_of σ p _ refl q)
      (λ b two mine up. unchanged output_of σ p _ (sym (quiet (σ p).own two.most)) q)
      (λ two some. changed output_of σ p _ q)
  outputs_told (Finish p s) =
      finish_cases (TellsOutputs σ (Finish p s) q) (λ n. refl) (σ p).own c.servers c.drives p
      (λ one most some. unchanged output_of σ p _ (sym (quiet (σ p).own (omega arith))) q)
      (λ two most. changed output_of σ p _ q)
  outputs_told (Fail p) = changed output_of σ p _ q
  outputs_told (DriveOff d) = refl
  outputs_told (DriveOn d) = refl

  -- where every end of the step's rule leaves the offers as its view tells
  offer_ends : (st : Step) → AllGive (λ x. TellsOffers σ st q (Ok x)) (rule_of c off σ st)
  unfolding rule_of after offers_after offer_rule recall_rule rejoin_rule bid_rule write_rule outbid_rule read_rule finish_rule marking meeting topping recalling rejoining bidding writing reading proposing agreeing
  offer_ends (Offer p s v) = changed offer_of σ p _ q
  offer_ends (Recall p s d) = unchanged offer_of σ p _ refl q
  offer_ends (Rejoin p s b) = unchanged offer_of σ p _ refl q
  offer_ends (Bid p s b) = unchanged offer_of σ p _ refl q
  offer_ends (Write p s d) = unchanged offer_of σ p _ refl q
  offer_ends (Read p s d r) =
      (unchanged offer_of σ p _ refl q, (unchanged offer_of σ p _ refl q, unchanged offer_of σ p _ refl q))
  offer_ends (Finish p s) = (unchanged offer_of σ p _ refl q, unchanged offer_of σ p _ refl q)
  offer_ends (Fail p) = changed offer_of σ p _ q
  offer_ends (DriveOff d) = refl
  offer_ends (DriveOn d) = refl

  pub offers_told : (st : Step) → TellsOffers σ st q (ruled c off σ st)
  unfolding after offers_after
  offers_told st = all_give (TellsOffers σ st q) (λ n. refl) (rule_of c off σ st) (offer_ends st)

-- 0 for done to 3 for committed; 4 for a refusal
abbrev pub word_of : Ruling → ℕ
word_of (Err n) = 4
word_of (Ok (v, a)) = code_of (Ok a)

-- the server that acts; 0 where there is none
abbrev pub view_server : View → ℕ
view_server (AtSlot p s k) = p
view_server (AtServer p) = p
view_server (AtDrive d on) = 0

-- if r is committed, then its server had no output
abbrev TellsCommit : Slot → Step → Ruling → Type 0
TellsCommit σ st r = word_of r ≡ 3 → outputs σ (view_server (view_of st)) ≡ 0

module _ (c : Config) (off : ℕ) (σ : Slot) where
  pub none_before : (st : Step) → TellsCommit σ st (ruled c off σ st)
  unfolding rule_of offer_rule
  none_before (Offer p s v) = λ e. absurd (omega arith)
  none_before (Recall p s d) =
      recall_cases (TellsCommit σ (Recall p s d)) (λ n e. absurd (omega arith)) (σ p).own off ((σ p).disk d) p d
      (λ phase e. absurd (omega arith))
  none_before (Rejoin p s b) =
      rejoin_cases (TellsCommit σ (Rejoin p s b)) (λ n e. absurd (omega arith)) (σ p).own c.servers c.drives p b
      (λ mine phase most up e. absurd (omega arith))
  none_before (Bid p s b) =
      bid_cases (TellsCommit σ (Bid p s b)) (λ n e. absurd (omega arith)) (σ p).own c.servers p b
      (λ mine two up e. absurd (omega arith))
  none_before (Write p s d) =
      write_cases (TellsCommit σ (Write p s d)) (λ n e. absurd (omega arith)) (σ p).own off d
      (λ two e. absurd (omega arith))
  none_before (Read p s d r) =
      read_cases (TellsCommit σ (Read p s d r)) (λ n e. absurd (omega arith)) (σ p).own c.servers off ((σ r).disk d) p d r
      (λ two here low e. absurd (omega arith))
      (λ b two mine up e. absurd (omega arith))
      (λ two some e. quiet (σ p).own two.most)
  none_before (Finish p s) =
      finish_cases (TellsCommit σ (Finish p s)) (λ n e. absurd (omega arith)) (σ p).own c.servers c.drives p
      (λ one most some e. absurd (omega arith))
      (λ two most e. quiet (σ p).own (omega arith))
  none_before (Fail p) = λ e. absurd (omega arith)
  none_before (DriveOff d) = λ e. absurd (omega arith)
  none_before (DriveOn d) = λ e. absurd (omega arith)
