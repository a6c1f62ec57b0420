-- `put_text` meets its contract: an input that is too long, or too short, has one line.
use native.Mathlib.Omega.{arith}
use Rattle.std.proofs.Common.{rules}
use Rattle.rehearsal.proofs.OpenedLaws.{long_told, short_told}
use Rattle.rehearsal.proofs.put_text.Goals as goal

pub returns-then-input-gt-INPUT_MAX : goal.returns-then-input-gt-INPUT_MAX
returns-then-input-gt-INPUT_MAX c =
    long_told c.args.input.now (omega (arith, c.if-input-gt-INPUT_MAX.true)) (search rules) c.number.ensures c.open_line.ensures

pub returns-in_default-2 : goal.returns-in_default-2
returns-in_default-2 c =
    short_told c.args.input.now (search rules) (search rules) c.number-in_default-2.ensures c.open_line-in_default-2.ensures
