use Rattle.std.proofs.Common.{◌≤◌, ◌≡◌, ◌∷◌, length, arith, rules}
use Rattle.command.proofs.Letters.{read_line}
use Rattle.command.proofs.calls.parse_call.Goals as goal

pub returns : goal.returns
returns g c =
    let s = c.args.line.now in
    let l : length s ≤ 80 = omega arith in
    let e : s ≡ c.from.result ∷ c.in_ok-letter.rest.now = search rules in
    let k = read_line g.P.PayloadText.lawful g.P.PayloadText.written g.met.P.PayloadText.distinct s _ c.call_with.result e l c.call_with.ensures in
    record { value = k.0; only = k.1 }
