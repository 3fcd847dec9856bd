use Rattle.std.proofs.Common.{IsUtf8, rules}
use Rattle.std.proofs.lemmas.Str.{IsUtf8-from_ascii}
use Rattle.command.proofs.numbers.number.Goals as goal

pub returns-in_err-text-clause-none : goal.returns-in_err-text-clause-none
returns-in_err-text-clause-none g c = rw c.from_residual.ensures (λ n a b e. let t : IsUtf8 c.args.word.now = rw e (IsUtf8-from_ascii (g.N.Integer.text n) a) in search rules)
