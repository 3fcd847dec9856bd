use Rattle.std.proofs.Common.{◌≡◌, count_by, rules, arith, ap, ◌∙◌}
use Rattle.std.proofs.iter.runs.Made.{chains}
use Rattle.protocol.specs.Sites.{each_of, how_many}
use Rattle.protocol.proofs.sites.count_marked.Goals as goal

pub returns-clause-value : goal.returns-clause-value
returns-clause-value c =
    let m = c.args.marks.now in
    let counted : c.count.result ≡ count_by (λ b. b) c.into_array.result = search (rules, chains) in
    let same : count_by (λ b. b) (each_of m) ≡ how_many m = omega arith in
    counted ∙ (ap (count_by (λ b. b)) c.into_array.ensures ∙ same)
