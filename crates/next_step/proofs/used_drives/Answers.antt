-- `used_drives` meets its contract: each turn puts drive d to those gathered, or leaves it.
use mathlib.Core.Path.{◌≡◌, ◌∙◌, sym, ap}
use mathlib.Core.Bool.{true, false, not}
use native.Mathlib.Omega.{arith}
use Prim.Native.Nat.{◌+◌, ◌<◌}
use Rattle.std.proofs.Common.{rules}
use Rattle.quorum.specs.Marks.{stands}
use Rattle.quorum.specs.Sets.{gathered}
use Rattle.quorum.proofs.Gathered.{gathered-zero, joins, stays}
use Rattle.progress.specs.Used.{is_used}
use Rattle.synod.specs.Rules.{is_on}
use Rattle.next_step.proofs.UsedLaws.{off_unused, on_used}
use Rattle.next_step.proofs.used_drives.Goals as goal
use Rattle.next_step.proofs.used_drives.Goals.{then-not-has_mark, then-not-is_majority, else-not-is_majority, else-not-has_mark}

pub loop-d-init : goal.loop-d-init
loop-d-init c = (sym (gathered-zero (is_used c.args.drives c.args.off)), sym (gathered-zero (is_on c.args.off)))

pub loop-d-preserved : goal.loop-d-preserved
loop-d-preserved c =
    let drives = c.args.drives in
    let off = c.args.off in
    let d = c.loop-d.d in
    let inv = c.loop-d.invariant in
    let small : d < 32 = omega arith in
    elim c.if-not-has_mark.branch [
      | then-not-has_mark w ↦
          let on : stands off d ≡ false = search rules in
          let here : w.if-not-is_majority.used ≡ gathered (d + 1) (is_used drives off) =
          elim w.if-not-is_majority.branch [
            | then-not-is_majority u ↦
                joins d (is_used drives off) inv.0 small (on_used drives off d c.loop-d.below inv.1 on ∙ search rules)
                (u.used-is ∙ u.with_mark-used.ensures)
            | else-not-is_majority u ↦
                stays d (is_used drives off) inv.0 (on_used drives off d c.loop-d.below inv.1 on ∙ search rules) u.used-is
          ] in
          (w.used-is ∙ here, joins d (is_on off) inv.1 small (ap not on) (w.below-is ∙ w.with_mark-below.ensures))
      | else-not-has_mark w ↦
          let is_off : stands off d ≡ true = search rules in
          (stays d (is_used drives off) inv.0 (off_unused drives off d is_off) w.used-is, stays d (is_on off) inv.1 (ap not is_off) w.below-is)
    ]
