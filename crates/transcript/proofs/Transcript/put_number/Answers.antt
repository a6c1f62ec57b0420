-- `Transcript::put_number` meets its contract: the digits end where they are counted to end.
use Rattle.std.proofs.Common.{ℕ, List, ◌≡◌, ◌+◌, length, refl, sym, ap, arith, ◌∙◌}
use Rattle.std.specs.Fmt.{decimal}
use Rattle.transcript.specs.Text.{digits}
use Rattle.transcript.specs.Lines.{placed}
use Rattle.transcript.proofs.DigitLaws.{digits_ten, digits_decimal}
use Rattle.transcript.proofs.LineLaws.{written, puts}
use Rattle.transcript.proofs.Transcript.put_number.Goals as goal

pub returns : goal.returns
returns c =
    let l : List ℕ = c.args.self.now.buffer.now in
    let at : ℕ = c.args.self.now.length in
    let n : ℕ = c.args.number in
    let same : digits n ≡ decimal c.into.result =
    digits_decimal n (omega (arith, c.ranges.number.fits)) ∙ ap decimal (sym c.into.ensures) in
    let end : at + c.digit_count.result ≡ at + length (digits n) = ap (λ (k : ℕ). at + k) c.digit_count.ensures in
    puts (omega (arith, c.requires, digits_ten n c.ranges.number.fits)) (digits_ten n c.ranges.number.fits) end
    (written l c.write_digits.new.buf (decimal c.into.result) at c.write_digits.result (at + c.digit_count.result)
    c.write_digits.ensures.start
    (end ∙ ap (λ (ds : List ℕ). at + length ds) same)
    c.write_digits.ensures.written
    c.write_digits.ensures.before
    ∙ ap (placed l at) (sym same))
    refl
