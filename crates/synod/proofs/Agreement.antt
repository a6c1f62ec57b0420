-- What the invariant gives: all commits of a slot have one command, which was offered there, and every output is one.
use Prim.Native.Nat.{ℕ, ◌<◌, ◌≤◌}
use native.Mathlib.Decide.{dec_le}
use native.Mathlib.Omega.{arith}
use mathlib.Core.List.{Memᴰ}
use mathlib.Core.Path.{◌≡◌, sym}
use mathlib.Core.Logic.{inl, inr}
use Rattle.state.specs.Server.{output_of}
use Rattle.synod.proofs.Past.{Ghost, Tried}
use Rattle.synod.specs.Slot.{Slot, Config}
use Rattle.synod.proofs.Ghosts.{Offered, Settled, Agreed, shown_agreed}
use Rattle.synod.proofs.Invariant.{Invariant}

module _ {c : Config} {g : Ghost} {σ : Slot} (inv : Invariant c g σ) where
  pub agree : {t u : Tried} → Memᴰ t g.commits → Memᴰ u g.commits → t.command ≡ u.command
  agree {t} {u} m k = by_order (dec_le t.ballot u.ballot)
    where
      by_order : Dec (t.ballot ≤ u.ballot) → t.command ≡ u.command
      by_order (yes le) =
          sym
          ((inv.binding t.ballot t.command m).only u.ballot u.command
          (inv.binding u.ballot u.command k).proposed le)
      by_order (no gt) =
          (inv.binding u.ballot u.command k).only t.ballot t.command
          (inv.binding t.ballot t.command m).proposed (omega arith)

  pub valid : {t : Tried} → Memᴰ t g.commits → (t.command ≡ 0 → ⊥) × Offered g t.command
  valid {t} m =
      let f = inv.fair t.ballot t.command (inv.binding t.ballot t.command m).proposed in
      (f.command, f.offered)

pub output_committed : {c : Config} {g : Ghost} {σ : Slot} → Invariant c g σ → (p : ℕ) → p < c.servers
    → (output_of (σ p).own ≡ 0 → ⊥) → Settled g.commits (output_of (σ p).own)
output_committed {c} {g} {σ} inv p lt some = by_case (shown_agreed g (σ p).own (inv.each p lt).own_agreed)
  where
    by_case : Agreed g (output_of (σ p).own) → Settled g.commits (output_of (σ p).own)
    by_case (inl none) = absurd (some none)
    by_case (inr s) = s
