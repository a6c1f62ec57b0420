-- One step at a slot that it concerns: the machine made of the slot's records and of its past makes the move that the
-- step and its answer tell.
use Prim.Native.Nat.{ℕ}
use mathlib.Core.Path.{◌≡◌, refl, ◌∙◌, sym, ap}
use mathlib.Core.Bool.{true, cond}
use mathlib.Core.List.{◌∷◌, Memᴰ}
use Rattle.std.specs.Prelude.{Ok}
use Rattle.state.specs.declared.Answer.{Answer}
use Rattle.state.specs.declared.Answer.TheVariants as answer
use Rattle.synod.proofs.Past.{Ghost, Tried, heard, note_commit, commit_ballot}
use Rattle.synod.specs.Slot.{Slot, Config, updated}
use Rattle.synod.proofs.Agreement.{agree, valid}
use Rattle.synod.proofs.Ghosts.{tried}
use Rattle.synod.proofs.Invariant.{Invariant}
use Rattle.synod.proofs.Outputs.{outputs, offers, told}
use Rattle.synod.proofs.Update.{updated_at}
use Rattle.history.specs.Run.{Move, Chooses, Rests, committed, output_in, or_else, given, WhenChooses}
use Rattle.history.specs.Machine.{Machine, Makes}
use Rattle.history.proofs.Firsts.{or_some, or_zero, first_command, first_of}

-- the machine that a slot and its past stand for
abbrev pub machine_of : Ghost → Slot → Machine
machine_of g σ = record { offers = offers σ; outputs = outputs σ; given = g.offered; chosen = first_command g.commits }

-- what one step does to the machine, to the first output and to the offers
pub record Moves (g : Ghost) (σ : Slot) (m : Move) (out : ℕ) (h : Ghost) (τ : Slot) : Type 0 where
  pub makes : Makes m (machine_of g σ) (machine_of h τ)
  pub first : first_command h.commits ≡ or_else (first_command g.commits) out
  pub hears : h.offered ≡ given m g.offered
  pub early : WhenChooses m (λ p. Memᴰ out g.offered)
  pub agrees : WhenChooses m (λ p. (out ≡ first_command h.commits) × (out ≡ 0 → ⊥))
  pub shows : WhenChooses m (λ p. outputs τ p ≡ out)

-- a move without a commit: it chooses nothing and shows no output
pub unchosen
    : (g h : Ghost) (σ τ : Slot) (m : Move) → ((A : ℕ → Type 0) → WhenChooses m A) → Makes m (machine_of g σ) (machine_of h τ)
    → h.commits ≡ g.commits → h.offered ≡ given m g.offered → Moves g σ m 0 h τ
unchosen g h σ τ m none makes same hears =
    record {
      makes = makes;
      first = ap first_command same ∙ sym (or_zero (first_command g.commits));
      hears = hears;
      early = none _;
      agrees = none _;
      shows = none _;
    }

pub rests : (g : Ghost) (σ : Slot) → Moves g σ Rests 0 g σ
rests g σ = unchosen g g σ σ Rests (λ A. tt) refl refl refl

-- nothing shows
quietly
    : (g h : Ghost) (σ τ : Slot) → h.offered ≡ g.offered → h.commits ≡ g.commits
    → ((q : ℕ) → outputs τ q ≡ outputs σ q) → ((q : ℕ) → offers τ q ≡ offers σ q) → Moves g σ Rests 0 h τ
quietly g h σ τ a b outs offs =
    unchosen g h σ τ Rests (λ A. tt)
    (λ i. record { offers = λ q. offs q i; outputs = λ q. outs q i; given = a i; chosen = first_command (b i) }) b a

-- a commit is a Choose: the server had no output, and the command is the one chosen before or a member of given
commits
    : (c : Config) (g : Ghost) (σ τ : Slot) (p b y : ℕ) → Invariant c (note_commit b y g) τ → outputs σ p ≡ 0
    → ((q : ℕ) → outputs τ q ≡ updated (outputs σ) p y q) → ((q : ℕ) → offers τ q ≡ offers σ q)
    → Moves g σ (Chooses p) y (note_commit b y g) τ
commits c g σ τ p b y inv none outs offs =
    let this = valid inv {t = tried b y} (Memᴰ.head refl) in
    let all : (t : Tried) → Memᴰ t (tried b y ∷ g.commits) → t.command ≡ y = λ t m. agree inv m (Memᴰ.head refl) in
    let now = first_of (tried b y ∷ g.commits) y this.0 all (tried b y) (Memᴰ.head refl) in
    record {
      makes =
          record {
            choice = y;
            no_output = none;
            member = λ e. this.1;
            keeps =
                λ n. sym now ∙ or_some (first_command g.commits) y n;
            becomes =
                λ i.
                record { offers = λ q. offs q i; outputs = λ q. outs q i; given = g.offered; chosen = now i };
          };
      first = refl;
      hears = refl;
      early = this.1;
      agrees = (sym now, this.0);
      shows = outs p ∙ updated_at (outputs σ) p y;
    }

-- a step whose ruling is accepted with the answer a, by server p
pub listens
    : (c : Config) (g : Ghost) (σ τ : Slot) (p b : ℕ) (a : Answer) → Invariant c (heard g b a) τ
    → (committed (Ok a) ≡ true → outputs σ p ≡ 0)
    → ((q : ℕ) → outputs τ q ≡ told (outputs σ) p a q) → ((q : ℕ) → offers τ q ≡ offers σ q)
    → Moves g σ (cond (committed (Ok a)) (Chooses p) Rests) (output_in (cond (committed (Ok a)) (Chooses p) Rests) (Ok a))
    (heard g b a) τ
unfolding heard told
listens c g σ τ p b answer.Done inv none outs offs = quietly g g σ τ refl refl outs offs
listens c g σ τ p b (answer.Outbid n) inv none outs offs = quietly g g σ τ refl refl outs offs
listens c g σ τ p b (answer.Chosen y) inv none outs offs = quietly g (heard g b (answer.Chosen y)) σ τ refl refl outs offs
listens c g σ τ p b (answer.Committed y) inv none outs offs =
    commits c g σ τ p (commit_ballot b y g.commits) y inv (none refl) outs offs
