use Rattle.std.proofs.Common.{◌≡◌, length, ap, arith, rules}
use Rattle.std.specs.Fmt.{signed_decimal}
use Rattle.answer_text.proofs.Fitting.{length_degrees}
use Rattle.answer_text.proofs.payloads.joint_text.Goals as goal

pub returns-in-Some-clause-bound : goal.returns-in-Some-clause-bound
returns-in-Some-clause-bound c =
    let z = c.in-Some.degrees in
    let t : c.as_bytes.result.now ≡ signed_decimal z = search rules in
    omega (arith, ap length t, length_degrees z c.in-Some.ensures.means.0)
