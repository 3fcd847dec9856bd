use Rattle.std.proofs.Common.{◌≡◌, true, ap, ◌∙◌, w32, rules}
use lib.Ieee.{binary32, of_int}
use Rattle.std.proofs.lemmas.Int.{to_z-of_z}
use Rattle.pose.specs.Degrees.{in_turn, whole_of}
use Rattle.pose.proofs.Wholes.{comes_back}
use Rattle.pose.proofs.degrees.from_degrees.Goals as goal

pub returns-then-contains-clause-exact : goal.returns-then-contains-clause-exact
returns-then-contains-clause-exact c =
    let z = c.args.degrees in
    let h : in_turn z ≡ true = search rules in
    ap (λ x. whole_of (of_int binary32 x)) (to_z-of_z w32 z c.ranges.degrees) ∙ comes_back z h
