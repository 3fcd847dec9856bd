use Rattle.std.proofs.Common.{◌^◌, ◌<◌, IfSome, decimal, refl, rules}
use Rattle.std.proofs.lemmas.Fmt.{parse-decimal, IsAscii-decimal}
use Rattle.command.proofs.Readings.{reads_of}
use Rattle.command.proofs.numbers.U64Word.from_word.Goals as goal

pub returns : goal.returns
returns c =
    let l : IfSome c.number.result (λ n. n < 2 ^ 64) = search rules in
    reads_of (λ n. n < 2 ^ 64) decimal c.args.word.now c.number.result l c.number.ensures.some c.number.ensures.none (λ n h none. none n (IsAscii-decimal n h) (λ r p. parse-decimal 64 n (decimal n) r h h refl p.0))
