-- `steps` meets its contract: each turn prints the line of a record.
use Rattle.std.proofs.Common.{rules}
use Rattle.rehearsal.proofs.Going.{turn}
use Rattle.rehearsal.proofs.steps.Goals as goal

pub loop-index-preserved : goal.loop-index-preserved
loop-index-preserved c =
    let s = c.in-Some.ensures.steps in
    let less = (c.in-Some.ensures.goes.on tt).2 in (
      search rules,
      search rules,
      turn c.loop-index.invariant.2 c.in-Some.record c.answer_of.result (search rules) (search rules) less s.0 s.1 s.2 (search rules)
          c.answer_of.ensures
          c.step_line.ensures,
    )
