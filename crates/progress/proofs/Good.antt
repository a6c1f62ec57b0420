-- What stays true of server p while it follows next, and how a step goes on: it commits, or it lowers the potential.
use Prim.Native.Nat.{ℕ, ◌<◌, ◌≤◌}
use mathlib.Core.Bool.{true}
use mathlib.Core.List.{Memᴰ}
use mathlib.Core.Path.{◌≡◌, refl, ◌∙◌, ap}
use Rattle.std.specs.Prelude.{Some, Ok}
use Rattle.quorum.specs.Marks.{stands}
use Rattle.state.specs.declared.Server.{Server}
use Rattle.state.specs.declared.Sizes.{Sizes}
use Rattle.state.specs.declared.Step.{Step}
use Rattle.state.specs.declared.Answer.{Answer}
use Rattle.state.specs.declared.Answer.TheVariants.{Committed}
use Rattle.state.specs.View.{AtSlot, Stores, Alone, View, view_of}
use Rattle.synod.specs.Changes.{read_bit}
use Rattle.synod.specs.Arguments.{places_fit}
use Rattle.synod.specs.Slot.{Slot, config_of, updated}
use Rattle.synod.proofs.Machine.{ruled, after, with_record, with_block}
use Rattle.synod.proofs.Update.{updated_at, updated_off, everywhere}
use Rattle.progress.specs.Follow.{low_mbal}
use Rattle.progress.specs.Next.{wished}
use Rattle.progress.proofs.Drives.{used_in}
use Rattle.progress.proofs.Potential.{potential}

module _ (z : Sizes) (off p s : ℕ) (found : ℕ → ℕ → ℕ) where
  -- The record of p is v. The mbal found is on every other server's block, and in phase 0 on p's own blocks too.
  pub record Matches (σ : Slot) (v : Server) : Type 0 where
    pub own : (σ p).own ≡ v
    pub blocks
        : (q d : ℕ) → q < z.servers → d < z.drives → (1 ≤ v.phase → q ≡ p → ⊥) → ((σ q).disk d).mbal ≡ found q d

  -- phase 0, 1 and 2
  pub record InPhase0 (v : Server) : Type 0 where
    pub phase : v.phase ≡ 0
    pub offer : v.offer ≡ 0 → ⊥
    pub mbal : v.mbal ≡ 0
    pub top : v.top ≤ low_mbal

  pub record InPhase1 (v : Server) : Type 0 where
    pub phase : v.phase ≡ 1
    pub offer : v.offer ≡ 0 → ⊥
    pub seen
        : (d q : ℕ) → Memᴰ d (used_in z off) → q < z.servers → (q ≡ p → ⊥) → stands v.read (read_bit d q) ≡ true
        → found q d < v.mbal

  pub record InPhase2 (v : Server) : Type 0 where
    pub phase : v.phase ≡ 2
    pub ahead : (d q : ℕ) → Memᴰ d (used_in z off) → q < z.servers → (q ≡ p → ⊥) → found q d < v.mbal

  pub data Good (v : Server) : Type 0 where
    in_0 : InPhase0 v → Good v
    in_1 : InPhase1 v → Good v
    in_2 : InPhase2 v → Good v

  -- a step of p in slot s that stores no offer
  pub data Own : View → Type 0 where
    writes : (d : ℕ) → Own (AtSlot p s (Stores d))
    in_record : Own (AtSlot p s Alone)

  -- the step that p wishes, accepted with the record w and the answer a
  pub record Taken (σ : Slot) (v : Server) (st : Step) (w : Server) (a : Answer) : Type 0 where
    pub wish : wished z off v p s ≡ Some st
    pub places : places_fit z st ≡ true
    pub view : Own (view_of st)
    pub rule : ruled (config_of z) off σ st ≡ Ok (w, a)

  pub data GoesOn (σ : Slot) (v : Server) : Type 0 where
    commits : (st : Step) (w : Server) (x : ℕ) → Taken σ v st w (Committed x) → GoesOn σ v
    lowers
        : (st : Step) (w : Server) (a : Answer) → Taken σ v st w a
        → Matches (after σ st (Ok (w, a))) w → Good w → potential z off p found w < potential z off p found v → GoesOn σ v

  -- the record of p becomes w, and no block changes
  pub record_becomes
      : (σ : Slot) (w : Server)
      → ((q d : ℕ) → q < z.servers → d < z.drives → (1 ≤ w.phase → q ≡ p → ⊥) → ((σ q).disk d).mbal ≡ found q d)
      → Matches (updated σ p (with_record (σ p) w)) w
  record_becomes σ w blocks =
      record {
        own = ap (λ n. n.own) (updated_at σ p (with_record (σ p) w));
        blocks =
            λ q d lq ld h.
            ap (λ b. b.mbal) (everywhere (λ j n. n.disk d ≡ (σ j).disk d) σ p (with_record (σ p) w) refl (λ j ne. refl) q)
            ∙ blocks q d lq ld h;
      }

  module _ (σ : Slot) (v w : Server) (matched : Matches σ v) where
    pub record_matches : (1 ≤ v.phase → 1 ≤ w.phase) → Matches (updated σ p (with_record (σ p) w)) w
    record_matches on = record_becomes σ w (λ q d lq ld h. matched.blocks q d lq ld (λ one. h (on one)))

    -- a block of p's is written too
    pub block_matches : (d : ℕ) → 1 ≤ w.phase → Matches (updated σ p (with_block (σ p) d w)) w
    block_matches x one =
        record {
          own = ap (λ n. n.own) (updated_at σ p (with_block (σ p) x w));
          blocks =
              λ q d lq ld h.
              ap (λ n. (n.disk d).mbal) (updated_off σ p (with_block (σ p) x w) q (h one)) ∙ matched.blocks q d lq ld (λ l. h one);
        }
