use Rattle.std.proofs.Common.{rules}
use Rattle.command.proofs.Readings as R
use Rattle.command.proofs.angles.F32Word.from_word.Goals as goal

pub returns : goal.returns
returns c =
    let f = c.in_ok-from_word.ensures in
    R.angle_read c.args.word.now c.in_ok-from_word.field-0 c.from_degrees.result f.0 f.1 (search rules)
