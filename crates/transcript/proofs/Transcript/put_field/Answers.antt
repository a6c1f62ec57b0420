-- `Transcript::put_field` meets its contract: the digits follow the label.
use Rattle.transcript.proofs.LineLaws.{both}
use Rattle.transcript.proofs.Transcript.put_field.Goals as goal

pub returns : goal.returns
returns c = both c.put.ensures c.put_number.ensures
