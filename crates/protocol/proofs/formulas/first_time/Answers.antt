use Rattle.std.proofs.Common.{◌≡◌, max, rules, arith, ap, ◌∙◌}
use Rattle.std.specs.List.{fold}
use Rattle.std.proofs.iter.runs.Made.{chains}
use Rattle.protocol.specs.Sites.{each_of}
use Rattle.protocol.specs.Formulas.{time_over}
use Rattle.protocol.proofs.formulas.first_time.Goals as goal

pub returns : goal.returns
returns c =
    let folded : c.fold.result ≡ fold max 0 c.into_array.result = search (rules, chains) in
    let same : fold max 0 (each_of c.map.result) ≡ time_over c.args.votes.now = omega arith in
    folded ∙ (ap (fold max 0) c.into_array.ensures ∙ same)
