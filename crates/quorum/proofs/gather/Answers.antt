-- `quorum::gather` meets its contract: the drives passed so far are gathered.
use native.Mathlib.Omega.{arith}
use mathlib.Core.Path.{◌∙◌, sym}
use Rattle.quorum.proofs.Gathered.{gathered-zero, joins, stays}
use Rattle.quorum.proofs.gather.Goals as goal
use Rattle.quorum.proofs.gather.Goals.{then-test, else-test}

pub loop-d-init : goal.loop-d-init
loop-d-init g c set tells = sym (gathered-zero set)

pub loop-d-preserved : goal.loop-d-preserved
loop-d-preserved g c set tells =
    let so_far = c.loop-d.invariant set tells in
    let is = tells c.loop-d.d c.test.result (omega arith) c.test.ensures in
    elim c.if-test.branch [
      | then-test w ↦ joins c.loop-d.d set so_far (omega arith) (cc is) (w.marks-is ∙ w.with_mark-marks.ensures)
      | else-test w ↦ stays c.loop-d.d set so_far (cc is) w.marks-is
    ]
