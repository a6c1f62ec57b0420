-- `room::stepping::step` does what next gives, since it answers and leaves what its judgement says.
use mathlib.Core.Path.{◌≡◌, ◌∙◌, sym, ap}
use Rattle.std.proofs.Common.{rules}
use Rattle.std.specs.Prelude.{Ok, Err}
use Rattle.state.specs.Answers.{Answered}
use Rattle.room.proofs.Bridge.{refused_next, done_next}
use Rattle.room.proofs.stepping.step.Goals as goal

pub returns-in_err-e-clause-next : goal.returns-in_err-e-clause-next
returns-in_err-e-clause-next c =
    let is : ◌≡◌ {A = Answered} c.from_residual.result (Err c.in_err-e.field-0.0) = search rules in
    let n = refused_next c.args.room.now c.args.step c.in_err-e.field-0.0 (sym c.in_err-e.was ∙ c.judge.ensures) in
    (is ∙ n.0, n.1)

pub returns-clause-next : goal.returns-clause-next
returns-clause-next c =
    let n = done_next c.args.room.now c.args.step c.in_ok-e.e (sym c.in_ok-e.was ∙ c.judge.ensures) in
    (ap Ok c.answer.ensures ∙ n.0, c.settle.ensures ∙ n.1)
