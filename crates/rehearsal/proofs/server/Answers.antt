-- `server` meets its contract: the line is made of the two counts that the catalogue's answer has.
use Rattle.std.proofs.Common.{◌≡◌, ◌∙◌, ap, subst, List, ℕ, rules, arith}
use Rattle.catalogue.specs.declared.Counts.{Counts}
use Rattle.catalogue.specs.Listing.{counts_of}
use Rattle.transcript.specs.Lines.{line_max, server_line}
use Rattle.transcript.proofs.LineLaws.{server_max}
use Rattle.rehearsal.specs.Rehearsal.{counts_line, line_of}
use Rattle.rehearsal.specs.Buffer.{Adds}
use Rattle.rehearsal.proofs.BufferLaws.{adds_line}
use Rattle.rehearsal.proofs.server.Goals as goal

pub returns : goal.returns
unfolding counts_line line_of
returns c =
    let p = c.args.p in
    let counts = c.unwrap_or_default-counts.result in
    let told : counts ≡ counts_of c.catalogue.result = search rules in
    let line : server_line p counts.taken counts.skipped ≡ line_of c.args.room.now p =
    ap (λ (x : Counts). server_line p x.taken x.skipped) (told ∙ ap counts_of c.catalogue.ensures.0) in
    subst (λ (l : List ℕ). Adds c.args.text.now l c.server_line.new.self line_max) line
    (adds_line c.server_line.ensures (search rules)
    (server_max p counts.taken counts.skipped (search rules) (search rules) (search rules)) (omega arith))
