-- A whole list of calls from a moment: one path of machine states for each slot, every command offered before it is
-- output, and at every moment every output equal to the first one of the whole run.
use Prim.Native.Nat.{ℕ, ◌<◌}
use mathlib.Core.Path.{◌≡◌, ◌∙◌, sym, ap, subst}
use mathlib.Core.Bool.{true}
use mathlib.Core.List.{List, [], ◌∷◌}
use Rattle.state.specs.declared.Sizes.{Sizes}
use Rattle.state.specs.Server.{offer_of, output_of}
use Rattle.synod.proofs.Agreement.{agree, output_committed}
use Rattle.layout.specs.Cells.{sizes_of, server_of}
use Rattle.range.specs.Range.{in_range}
use Rattle.range.proofs.Laws.{Says-range}
use Rattle.history.specs.Calls.{Call, event_of, called}
use Rattle.history.specs.Run.{history, Always, or_else, output_by, first_output, Move, move_in, OfferedEarlier, AllCommit, CommitsOutput}
use Rattle.history.specs.Machine.{Equal, Follows, ends, goes}
use Rattle.history.proofs.Firsts.{or_some, or_assoc, first_command, first_of}
use Rattle.history.proofs.SlotMoves.{machine_of}
use Rattle.history.proofs.Choosers.{chooses_both, chooses_map}
use Rattle.history.proofs.Moments.{Moment, next}

-- a room of a run, whose outputs are those of the list first
pub record Shown (z : Sizes) (first : ℕ → ℕ) (room : List ℕ) : Type 0 where
  pub range : in_range room ≡ true
  pub sizes : sizes_of room ≡ z
  pub outputs
      : (t p : ℕ) → t < z.slots → p < z.servers → (output_of (server_of z room t p) ≡ 0 → ⊥)
      → output_of (server_of z room t p) ≡ first t

-- what a run from a moment tells, in one induction over its calls; first is the first output of each slot
pub record Tells (limits : List ℕ) (z : Sizes) (first : ℕ → ℕ) (cells : List ℕ) (now : Moment limits z cells) (calls : List Call) : Type 0 where
  pub follows : (t : ℕ) → t < z.slots → Follows z t (machine_of (now.ghosts t) (now.slots t)) cells calls
  pub offered : (t : ℕ) → t < z.slots → OfferedEarlier t (now.ghosts t).offered (history cells calls)
  pub agreed : (t : ℕ) → t < z.slots → AllCommit t (first t) (history cells calls)
  pub outputs : (t : ℕ) → t < z.slots → CommitsOutput z t cells calls
  pub shown : Always (Shown z first) cells calls

module _ (limits : List ℕ) (z : Sizes) (first : ℕ → ℕ) where
  -- the first output of each slot is that of its past, and where there is none, the later one
  abbrev Firsts : (cells : List ℕ) → Moment limits z cells → (ℕ → ℕ) → Type 0
  Firsts cells now later = (t : ℕ) → t < z.slots → first t ≡ or_else (first_command (now.ghosts t).commits) (later t)

  module _ (cells : List ℕ) (now : Moment limits z cells) where
    same_output : (t p : ℕ) → t < z.slots → p < z.servers → output_of (now.slots t p).own ≡ output_of (server_of z cells t p)
    same_output t p h l = ap output_of (now.alike t h p l).own

    equal_at : (t : ℕ) → t < z.slots → Equal z t (machine_of (now.ghosts t) (now.slots t)) cells
    equal_at t h = record { offers = λ p l. sym (ap offer_of (now.alike t h p l).own); outputs = λ p l. sym (same_output t p h l) }

    -- an output is the slot's first commit
    output_first
        : (t p : ℕ) → t < z.slots → p < z.servers → (output_of (server_of z cells t p) ≡ 0 → ⊥)
        → first_command (now.ghosts t).commits ≡ output_of (server_of z cells t p)
    output_first t p h l n =
        let same = same_output t p h l in
        let this = (output_committed (now.holds t h) p l (λ e. n (sym same ∙ e))).committed in
        first_of (now.ghosts t).commits (output_of (server_of z cells t p)) n (λ u m. agree (now.holds t h) m this ∙ same) _ this

    shown_now : (later : ℕ → ℕ) → Firsts cells now later → Shown z first cells
    shown_now later e =
        record {
          range = Says-range limits z cells (sym now.whole.table) (sym now.whole.sizes) now.whole.range;
          sizes = now.whole.sizes;
          outputs =
              λ t p h l n.
              let out = output_of (server_of z cells t p) in
              sym (e t h ∙ ap (λ (x : ℕ). or_else x (later t)) (output_first t p h l n) ∙ or_some out (later t) n);
        }

  pub tells
      : (cells : List ℕ) (now : Moment limits z cells) (calls : List Call)
      → Firsts cells now (λ t. first_output t (history cells calls)) → Tells limits z first cells now calls
  unfolding Always history OfferedEarlier AllCommit CommitsOutput first_output output_by
  tells cells now [] e =
      record {
        follows = λ t h. ends (equal_at cells now t h);
        offered = λ t h. tt;
        agreed = λ t h. tt;
        outputs = λ t h. tt;
        shown = shown_now cells now (λ t. 0) e;
      }
  tells cells now (c ∷ cs) e =
      let n = next limits z cells now c in
      let move : ℕ → Move = λ t. move_in t (event_of cells c) in
      let out : ℕ → ℕ = λ t. output_by t (event_of cells c) in
      let rest : ℕ → ℕ = λ t. first_output t (history (called cells c) cs) in
      let all : Firsts (called cells c) n.moment rest =
      λ t h.
      e t h
      ∙ sym (or_assoc (first_command (now.ghosts t).commits) (out t) (rest t))
      ∙ ap (λ (x : ℕ). or_else x (rest t)) (sym (n.moves t h).first) in
      let later = tells (called cells c) n.moment cs all in
      record {
        follows = λ t h. goes (equal_at cells now t h) (n.moves t h).makes (later.follows t h);
        offered =
            λ t h. (
              (n.moves t h).early,
              subst (λ (l : List ℕ). OfferedEarlier t l (history (called cells c) cs)) (n.moves t h).hears (later.offered t h),
            );
        agreed =
            λ t h. (
              chooses_map (move t) _ _
                  (λ p a.
                  let is : first t ≡ out t = all t h ∙ ap (λ (x : ℕ). or_else x (rest t)) (sym a.0) ∙ or_some (out t) (rest t) a.1 in
                  (sym is, λ k. a.1 (sym is ∙ k)))
                  (n.moves t h).agrees,
              later.agreed t h,
            );
        outputs =
            λ t h. (
              chooses_both (move t) _ _ _ (λ p l shows. sym (same_output (called cells c) n.moment t p h l) ∙ shows)
                  (n.within t) (n.moves t h).shows,
              later.outputs t h,
            );
        shown = (shown_now cells now (λ t. or_else (out t) (rest t)) e, later.shown);
      }
