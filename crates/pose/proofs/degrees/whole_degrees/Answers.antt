use Rattle.std.proofs.Common.{◌≡◌, sym, subst, rules}
use Rattle.pose.specs.Degrees.{whole_of, Whole}
use Rattle.pose.proofs.Wholes.{means}
use Rattle.pose.proofs.degrees.whole_degrees.Goals as goal

pub returns-clause-means : goal.returns-clause-means
returns-clause-means c =
    let x = c.args.angle in
    let v : c.then_some.result ≡ whole_of x = search rules in
    subst (Whole x) (sym v) (means x)
