-- Finish in phase 1: the new proposal keeps every part of the invariant.
use Prim.Native.Nat.{ℕ}
use Rattle.synod.proofs.Past.{Ghost}
use Rattle.synod.specs.Slot.{Slot, Config}
use Rattle.synod.proofs.Invariant.{Invariant}
use Rattle.synod.proofs.Choosing.{Choice, past, next}
use Rattle.synod.proofs.ChooseProposals.{each_kept, fair_kept, spread_kept, crossed_kept}
use Rattle.synod.proofs.ChooseRivals.{rival_kept}
use Rattle.synod.proofs.ChooseCommits.{binding_kept}

-- 7 Finish, phase 1
pub choose_kept : {c : Config} {g : Ghost} {σ : Slot} {p : ℕ} (k : Choice c g σ p) → Invariant c (past k) (next k)
choose_kept k =
    record {
      each = each_kept k;
      fair = fair_kept k;
      spread = spread_kept k;
      crossed = crossed_kept k;
      rival = rival_kept k;
      binding = λ b v cm. binding_kept k b v (k.inv.binding b v cm);
    }
