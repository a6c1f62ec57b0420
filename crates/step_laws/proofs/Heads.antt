-- A step looks at no sizes in a row's head: it sees and stores the same in two rows that are alike from the off marks on.
use Prim.Native.Nat.{ℕ, zero, suc, ◌+◌, ◌-◌, ◌*◌, ◌≤◌}
use mathlib.Core.Path.{◌≡◌, refl, ◌∙◌, sym, ap, ap₂, subst}
use mathlib.Core.List.{List, [], ◌∷◌, ◌++◌}
use native.Mathlib.Omega.{arith}
use lib.ListN.{get_or, set, take, drop, length-drop}
use lib.Seq.{sets, drop-drop, drop-set-add, get_or-drop}
use Rattle.std.specs.Prelude.{Result, Ok, Err}
use Rattle.checks.specs.declared.Refusal.{Refusal}
use Rattle.checks.specs.Checks.{mapped, left_by}
use Rattle.state.specs.declared.Server.{Server}
use Rattle.state.specs.declared.Sizes.{Sizes}
use Rattle.state.specs.declared.Step.{Step}
use Rattle.state.specs.Server.{failed, own_block}
use Rattle.state.specs.View.{view_of, view_slot}
use Rattle.synod.specs.Rules.{ruling, rule_of, off_after}
use Rattle.synod.specs.Slot.{Slot, config_of}
use Rattle.layout.specs.Places.{server_length, block_length, server_at, block_at, Fit, Row}
use Rattle.layout.specs.Cells.{put, sizes_cells, off_at, off_of, server_in, server_cells, block_in, block_cells, server_of, block_of, put_server, put_block}
use Rattle.layout.proofs.CellLaws.{put_sets, server_moved, block_moved}
use Rattle.layout.proofs.PlaceLaws.{row_head, base_server, base_nth}
use Rattle.room.specs.declared.effect.Effect.{Effect}
use Rattle.room.specs.declared.effect.Effect.TheVariants as effect
use Rattle.room.specs.Judge.{seen, effect_at, effect_of}
use Rattle.room.specs.Step.{failed_below, settled}

-- the row with the sizes z in its head
abbrev pub headed : Sizes → List ℕ → List ℕ
headed z r = sizes_cells z ++ drop off_at r

-- it is as long as the row
pub headed_row : (z : Sizes) (r : List ℕ) → Row z r → Row z (headed z r)
headed_row z r row =
    let h = row_head z r row in
    record { fit = row.fit; exact = omega (arith, length-drop off_at r, row.exact) }

-- two rows that differ at most in the sizes in their heads
pub record Behind (l m : List ℕ) : Type 0 where
  pub cells : drop off_at l ≡ drop off_at m

pub headed_behind : (z : Sizes) (r : List ℕ) → Behind r (headed z r)
headed_behind z r = record { cells = refl }

-- their off marks are the same, and so are the cells from a place on
module _ {l m : List ℕ} (e : Behind l m) where
  pub off_behind : off_of l ≡ off_of m
  off_behind = sym (get_or-drop off_at l 0 0) ∙ ap (λ (t : List ℕ). get_or t 0 0) e.cells ∙ get_or-drop off_at m 0 0

  drop_behind : (at : ℕ) → off_at ≤ at → drop at l ≡ drop at m
  drop_behind at h =
      let k : off_at + (at - off_at) ≡ at = omega arith in
      subst (λ (j : ℕ). drop j l ≡ drop j m) k
      (sym (drop-drop (at - off_at) off_at l) ∙ ap (drop (at - off_at)) e.cells ∙ drop-drop (at - off_at) off_at m)

  -- what is stored in both leaves them so
  set_behind : (at x : ℕ) → off_at ≤ at → Behind (set l at x) (set m at x)
  set_behind at x h =
      let k : off_at + (at - off_at) ≡ at = omega arith in
      subst (λ (j : ℕ). Behind (set l j x) (set m j x)) k
      (record {
        cells =
            drop-set-add off_at l (at - off_at) x
            ∙ ap (λ (t : List ℕ). set t (at - off_at) x) e.cells
            ∙ sym (drop-set-add off_at m (at - off_at) x);
      })

sets_behind : (xs : List ℕ) {l m : List ℕ} → Behind l m → (at : ℕ) → off_at ≤ at → Behind (sets l at xs) (sets m at xs)
sets_behind [] e at h = e
sets_behind (x ∷ xs) e at h = sets_behind xs (set_behind e at x h) (suc at) (omega arith)

put_behind : (xs : List ℕ) {l m : List ℕ} → Behind l m → (at : ℕ) → off_at ≤ at → Behind (put l at xs) (put m at xs)
put_behind xs {l} {m} e at h = rw (put_sets l at xs, put_sets m at xs) (sets_behind xs e at h)

module _ (z : Sizes) (fit : Fit z) where
  -- each place of the plan lies behind the sizes
  server_past : (s p : ℕ) → off_at ≤ server_at z s p
  server_past s p = omega (arith, base_server z fit s p)

  block_past : (s d p : ℕ) → off_at ≤ block_at z s d p
  unfolding block_at
  block_past s d p = omega (arith, base_nth z fit s (d * z.servers + p))

  -- a step sees the same in both
  module _ {l m : List ℕ} (e : Behind l m) where
    server_behind : (s p : ℕ) → server_of z l s p ≡ server_of z m s p
    unfolding server_of
    server_behind s p =
        let at = server_at z s p in
        sym (server_moved l at)
        ∙ ap (λ (t : List ℕ). server_in (take server_length t) 0) (drop_behind e at (server_past s p))
        ∙ server_moved m at

    block_behind : (s d p : ℕ) → block_of z l s d p ≡ block_of z m s d p
    unfolding block_of
    block_behind s d p =
        let at = block_at z s d p in
        sym (block_moved l at)
        ∙ ap (λ (t : List ℕ). block_in (take block_length t) 0) (drop_behind e at (block_past s d p))
        ∙ block_moved m at

    pub seen_behind : (t : ℕ) → seen z l t ≡ seen z m t
    seen_behind t = λ i p. record { own = server_behind t p i; disk = λ d. block_behind t d p i }

    effect_behind : (st : Step) → effect_of z l st ≡ effect_of z m st
    unfolding effect_of
    effect_behind st =
        ap₂ (λ (o : ℕ) (σ : Slot). mapped (effect_at (view_of st) (off_after o (view_of st))) (ruling (rule_of (config_of z) o σ st)))
        (off_behind e) (seen_behind (view_slot (view_of st)))

  -- it stores the same in both
  record_behind : (s p : ℕ) (v : Server) {l m : List ℕ} → Behind l m → Behind (put_server z l s p v) (put_server z m s p v)
  unfolding put_server
  record_behind s p v e = put_behind (server_cells v) e (server_at z s p) (server_past s p)

  failed_behind : (p k : ℕ) {l m : List ℕ} → Behind l m → Behind (failed_below z p k l) (failed_below z p k m)
  unfolding failed_below
  failed_behind p zero e = e
  failed_behind p (suc k) e = record_behind k p failed (failed_behind p k e)

  settled_behind : (x : Effect) {l m : List ℕ} → Behind l m → Behind (settled z l x) (settled z m x)
  unfolding settled put_block
  settled_behind (effect.Record s p v a) e = record_behind s p v e
  settled_behind (effect.Block s d p v) e =
      put_behind (block_cells (own_block v)) (record_behind s p v e) (block_at z s d p) (block_past s d p)
  settled_behind (effect.Failure p) e = failed_behind p z.slots e
  settled_behind (effect.Off marks) e = set_behind e off_at marks (omega arith)

  left_behind
      : (x : Result Effect Refusal) {l m : List ℕ} → Behind l m
      → Behind (left_by (settled z l) l x) (left_by (settled z m) m x)
  left_behind (Ok x) e = settled_behind x e
  left_behind (Err n) e = e

  -- what it leaves of both is seen as one
  pub left_seen
      : (st : Step) (t : ℕ) {l m : List ℕ} → Behind l m
      → seen z (left_by (settled z l) l (effect_of z l st)) t ≡ seen z (left_by (settled z m) m (effect_of z m st)) t
  left_seen st t {l} {m} e =
      seen_behind (left_behind (effect_of z l st) e) t
      ∙ ap (λ (x : Result Effect Refusal). seen z (left_by (settled z m) m x) t) (effect_behind e st)
