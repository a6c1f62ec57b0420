-- `Transcript::put` meets its contract: the text is copied behind what is there.
use Rattle.std.proofs.Common.{ℕ, List, ◌+◌, ◌-◌, length, refl, ap, arith, ◌∙◌}
use borrow.Rule.Slice.PartMut.{put_mid}
use Rattle.transcript.proofs.LineLaws.{placed_copy, puts}
use Rattle.transcript.proofs.Transcript.put.Goals as goal

pub returns : goal.returns
returns c =
    let l : List ℕ = c.args.self.now.buffer.now in
    let at : ℕ = c.args.self.now.length in
    let text : List ℕ = c.args.text.now in
    puts c.requires (omega arith) refl
    (ap (put_mid at (at + length text - at) l) (c.copy_from_slice.ensures.after ∙ c.as_bytes.ensures.value) ∙ placed_copy l text at)
    refl
