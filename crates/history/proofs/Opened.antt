-- A room just opened is a moment: every record is that of a failed server, every block is blank, and nothing has happened.
use Prim.Native.Nat.{ℕ, suc, ◌+◌, ◌-◌, ◌*◌, ◌<◌, ◌≤◌}
use mathlib.Core.Path.{◌≡◌, refl, ◌∙◌, sym, ap}
use mathlib.Core.Bool.{Bool, true}
use mathlib.Core.List.{List, ◌++◌}
use native.Mathlib.Omega.{arith}
use native.Mathlib.Decide.{dec_lt}
use lib.ListN.{length, get_or, replicate, length-replicate, length-append, get_or-replicate, get_or-eq_default}
use lib.Seq.{get_or-append-add, take_all, take-append-le}
use Rattle.command.specs.Command.{cabinets, limits_fit}
use Rattle.quorum.proofs.MaskLaws.{within-zero}
use Rattle.state.specs.declared.Server.{Server}
use Rattle.state.specs.declared.Sizes.{Sizes}
use Rattle.state.specs.Block.{blank}
use Rattle.state.specs.Server.{failed}
use Rattle.synod.proofs.Machine.{blank_slot}
use Rattle.synod.proofs.Past.{no_ghost}
use Rattle.synod.specs.Slot.{config_of}
use Rattle.synod.proofs.Invariant.{begins}
use Rattle.layout.specs.Places.{base, room_length, server_at, nth_block_at, block_at, Fit, server_length, block_length}
use Rattle.layout.proofs.CellLaws.{server_read, Block-read}
use Rattle.layout.specs.Cells.{limits_of, server_in, server_of, block_in, block_of}
use Rattle.layout.proofs.PlaceLaws.{base_room, base_server, base_nth}
use Rattle.range.specs.Range.{legal_drives, masks_of, value_fits, server_fits, block_fits}
use Rattle.range.proofs.RecordLaws.{BlockIn, says_server, says_block, zero_fits}
use Rattle.room.specs.Open.{opened_cells}
use Rattle.model.proofs.RulesKeep.{failed_in}
use Rattle.step_laws.proofs.StepKeeps.{WholeBy}
use Rattle.history.proofs.Moments.{Moment}

zeros_at : (n i : ℕ) → ◌≡◌ {A = ℕ} (get_or (replicate n 0) i 0) 0
zeros_at n i = go (dec_lt i n)
  where
    go : Dec (i < n) → ◌≡◌ {A = ℕ} (get_or (replicate n 0) i 0) 0
    go (yes h) = get_or-replicate n i 0 0 h
    go (no h) = get_or-eq_default {A = ℕ} (replicate n 0) 0 (let e = length-replicate {A = ℕ} n 0 in omega arith)

module _ (z : Sizes) (limits : List ℕ) (eight : length limits ≡ cabinets) where
  -- every cell behind the limits is 0
  opened_from : (i : ℕ) → base ≤ i → get_or (opened_cells z limits) i 0 ≡ 0
  unfolding opened_cells
  opened_from i h =
      let zeros : List ℕ = replicate (room_length z - base) 0 in
      let front : i ≡ suc (suc (suc (suc (i - 4)))) = omega arith in
      let behind : i - 4 ≡ length limits + (i - base) = omega arith in
      ap (λ (j : ℕ). get_or (opened_cells z limits) j 0) front
      ∙ ap (λ (j : ℕ). get_or (limits ++ zeros) j 0) behind
      ∙ get_or-append-add limits zeros (i - base) 0
      ∙ zeros_at (room_length z - base) (i - base)

  pub opened_server : (at : ℕ) → base ≤ at → server_in (opened_cells z limits) at ≡ failed
  opened_server at h =
      server_read (opened_cells z limits) at failed (λ i l. opened_from (at + i) (omega arith) ∙ sym (zeros_at server_length i))

  pub opened_block : (at : ℕ) → base ≤ at → block_in (opened_cells z limits) at ≡ blank
  opened_block at h =
      Block-read (opened_cells z limits) at blank (λ i l. opened_from (at + i) (omega arith) ∙ sym (zeros_at block_length i))

  opened_limits : limits_of (opened_cells z limits) ≡ limits
  unfolding opened_cells
  opened_limits =
      take-append-le cabinets limits (replicate (room_length z - base) 0) (omega (arith, eight))
      ∙ take_all cabinets limits (omega (arith, eight))

  opened-length : Fit z → length (opened_cells z limits) ≡ room_length z
  unfolding opened_cells
  opened-length f =
      let zeros : List ℕ = replicate (room_length z - base) 0 in
      let e = length-replicate {A = ℕ} (room_length z - base) 0 in
      omega (arith, base_room z f, length-append limits zeros)

blank_in : (value : ℕ → Bool) → value 0 ≡ true → BlockIn value blank
blank_in value nought = record { mbal = omega arith; bal = omega arith; inp = nought; done = nought }

-- a room just opened is in range, by any test of a value that 0 passes
pub opened_whole
    : (value : ℕ → Bool) → value 0 ≡ true → (z : Sizes) (limits : List ℕ) → Fit z → length limits ≡ cabinets
    → limits_fit limits ≡ true → WholeBy limits value z (opened_cells z limits)
unfolding server_of opened_cells
opened_whole value nought z limits f eight hoards =
    record {
      range =
          record {
            row = record { fit = f; exact = opened-length z limits eight f };
            hoards = hoards;
            off = within-zero (legal_drives z);
            servers =
                λ s p h l.
                ap (λ (v : Server). server_fits value (masks_of z) v) (opened_server z limits eight (server_at z s p) (base_server z f s p))
                ∙ says_server value (masks_of z) failed (failed_in value nought z);
            nths =
                λ s k h l.
                ap (block_fits value) (opened_block z limits eight (nth_block_at z s k) (base_nth z f s k))
                ∙ says_block value blank (blank_in value nought);
          };
      sizes = refl;
      table = opened_limits z limits eight;
    }

unfoldable pub opens
    : (z : Sizes) (limits : List ℕ) → Fit z → length limits ≡ cabinets → limits_fit limits ≡ true
    → Moment limits z (opened_cells z limits)
unfolding server_of block_of block_at
opens z limits f eight hoards =
    record {
      ghosts = λ t. no_ghost;
      slots = λ t. blank_slot;
      whole = opened_whole (value_fits limits) (zero_fits limits) z limits f eight hoards;
      alike =
          λ t h p l.
          record {
            own = sym (opened_server z limits eight (server_at z t p) (base_server z f t p));
            disk = λ d k. sym (opened_block z limits eight (nth_block_at z t (d * z.servers + p)) (base_nth z f t (d * z.servers + p)));
          };
      holds = λ t h. begins (config_of z);
    }
