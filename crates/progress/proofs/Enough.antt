-- While all is good, following next commits within as many steps as the potential says.
use Prim.Native.Nat.{ℕ, zero, suc, ◌<◌, ◌≤◌}
use mathlib.Core.Bool.{true}
use mathlib.Core.List.{List}
use mathlib.Core.Path.{◌≡◌, refl}
use native.Mathlib.Omega.{arith}
use lib.Dec.{eqb}
use Rattle.lemmas.proofs.Tests.{or_right}
use Rattle.std.specs.Prelude.{Ok}
use Rattle.state.specs.declared.Answer.{Answer}
use Rattle.state.specs.declared.Answer.TheVariants.{Committed}
use Rattle.state.specs.declared.Step.{Step}
use Rattle.synod.proofs.Machine.{after}
use Rattle.state.specs.declared.Server.{Server}
use Rattle.state.specs.declared.Sizes.{Sizes}
use Rattle.state.specs.Answers.{code_of}
use Rattle.layout.specs.Cells.{sizes_of, off_of}
use Rattle.range.specs.Range.{in_range}
use Rattle.room.specs.Judge.{seen}
use Rattle.room.specs.Step.{answered, stepped}
use Rattle.step_laws.proofs.StepKeeps.{step_in_range}
use Rattle.progress.specs.Follow.{commits_within}
use Rattle.progress.proofs.Potential.{potential, some_left}
use Rattle.progress.proofs.Good.{Matches, Good, in_0, in_1, in_2, Taken, GoesOn, commits, lowers}
use Rattle.progress.proofs.Setting.{Setting}
use Rattle.progress.proofs.Phase0.{goes_0}
use Rattle.progress.proofs.Phase1.{goes_1}
use Rattle.progress.proofs.Phase2.{goes_2}
use Rattle.progress.proofs.Cells.{carried, answer_is, next_gives, switches_is, matches_next}

module _ (p s : ℕ) (found : ℕ → ℕ → ℕ) where
  -- all is good in slot s of these cells, and k steps are enough by the potential
  pub record Holds (cells : List ℕ) (v : Server) (k : ℕ) (z : Sizes) (off : ℕ) : Type 0 where
    pub set : Setting z off p s found
    pub matched : Matches z off p s found (seen z cells s) v
    pub good : Good z off p s found v
    pub few : potential z off p found v ≤ k

  goes_by_phase
      : (cells : List ℕ) (v : Server) (k : ℕ) → Holds cells v k (sizes_of cells) (off_of cells)
      → GoesOn (sizes_of cells) (off_of cells) p s found (seen (sizes_of cells) cells s) v
  goes_by_phase cells v k h = by_phase h.good
    where
      by_phase : Good (sizes_of cells) (off_of cells) p s found v → GoesOn (sizes_of cells) (off_of cells) p s found (seen (sizes_of cells) cells s) v
      by_phase (in_0 g) = goes_0 h.set (seen (sizes_of cells) cells s) v h.matched g
      by_phase (in_1 g) = goes_1 h.set (seen (sizes_of cells) cells s) v h.matched g
      by_phase (in_2 g) = goes_2 h.set (seen (sizes_of cells) cells s) v h.matched g

  module _ (cells : List ℕ) (i : in_range cells ≡ true) (v : Server) (k : ℕ)
      (h : Holds cells v (suc k) (sizes_of cells) (off_of cells)) (st : Step) (w : Server) (a : Answer)
      (t : Taken (sizes_of cells) (off_of cells) p s found (seen (sizes_of cells) cells s) v st w a) where
    -- the step commits
    at_once : code_of (Ok a) ≡ 3 → commits_within (suc k) cells p s ≡ true
    unfolding commits_within
    at_once e = rw (next_gives cells p s found i h.set v h.matched st w a t, answer_is cells p s found i h.set v h.matched st w a t, e) refl

    -- or what follows does
    later : commits_within k (stepped cells st) p s ≡ true → commits_within (suc k) cells p s ≡ true
    unfolding commits_within
    later e =
        rw (next_gives cells p s found i h.set v h.matched st w a t)
        (or_right (eqb (code_of (answered cells st)) 3) (commits_within k (stepped cells st) p s) e)

    -- all is good after the step
    stays
        : Matches (sizes_of cells) (off_of cells) p s found (after (seen (sizes_of cells) cells s) st (Ok (w, a))) w
        → Good (sizes_of cells) (off_of cells) p s found w
        → potential (sizes_of cells) (off_of cells) p found w < potential (sizes_of cells) (off_of cells) p found v
        → Holds (stepped cells st) w k (sizes_of (stepped cells st)) (off_of (stepped cells st))
    stays matched good less =
        carried cells st i (switches_is cells p s found i h.set v h.matched st w a t) (Holds (stepped cells st) w k)
        (record {
          set = h.set;
          matched = matches_next cells p s found i h.set v h.matched st w a t matched;
          good = good;
          few = omega (arith, h.few);
        })

  -- as many steps as the potential says are enough
  pub enough
      : (k : ℕ) (cells : List ℕ) (v : Server) → in_range cells ≡ true → Holds cells v k (sizes_of cells) (off_of cells)
      → commits_within k cells p s ≡ true
  enough zero cells v i h = absurd (omega (arith, h.few, some_left (sizes_of cells) (off_of cells) p found v))
  enough (suc k) cells v i h = by_step (goes_by_phase cells v (suc k) h) (enough k)
    where
      by_step
          : GoesOn (sizes_of cells) (off_of cells) p s found (seen (sizes_of cells) cells s) v
          → ((next : List ℕ) (w : Server) → in_range next ≡ true → Holds next w k (sizes_of next) (off_of next) → commits_within k next p s ≡ true)
          → commits_within (suc k) cells p s ≡ true
      by_step (commits st w x t) rest = at_once cells i v k h st w (Committed x) t refl
      by_step (lowers st w a t matched good less) rest =
          later cells i v k h st w a t
          (rest (stepped cells st) w (step_in_range cells st i) (stays cells i v k h st w a t matched good less))
