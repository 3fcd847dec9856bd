use Rattle.std.proofs.Common.{IfSome, refl, rules, w32, SFits}
use Rattle.std.specs.Fmt.{signed_decimal}
use Rattle.std.proofs.lemmas.Fmt.{parse-signed_decimal, IsAscii-signed}
use Rattle.command.specs.Decimals.{small}
use Rattle.command.proofs.Readings.{reads_of}
use Rattle.command.proofs.numbers.I32Word.from_word.Goals as goal

pub returns : goal.returns
returns c =
    let l : IfSome c.number.result (SFits w32) = search rules in
    reads_of (SFits w32) signed_decimal c.args.word.now c.number.result l c.number.ensures.some c.number.ensures.none (λ z h none. none z (IsAscii-signed z (small z h)) (λ r p. parse-signed_decimal w32 z (signed_decimal z) r h (small z h) refl p.0))
