use Rattle.std.proofs.Common.{◌≡◌, rules, arith, ap, ◌∙◌}
use Rattle.std.specs.List.{list_all}
use Rattle.std.proofs.lemmas.Bool.Decides.{nat_tests}
use Rattle.std.proofs.lemmas.Iterator.{YieldsList-from_slice}
use Rattle.std.proofs.lemmas.Iterator.Search.{all_from_yields_List}
use Rattle.protocol.specs.Sites.{each_of}
use Rattle.protocol.specs.Formulas.{under, under_all}
use Rattle.protocol.proofs.formulas.all_allow.Goals as goal

pub returns : goal.returns
returns c =
    let v = c.args.votes.now in
    let t = c.args.time in
    let each : c.all.result ≡ list_all (λ o. under o t) c.into_array.result = all_from_yields_List (λ o. under o t) _ _ c.all.result c.all.ensures.ran (YieldsList-from_slice c.into_array.result (cc)) (λ x b q k. search rules) in
    let same : list_all (λ o. under o t) (each_of v) ≡ under_all v t = grind (arith, nat_tests) in
    each ∙ (ap (list_all (λ o. under o t)) c.into_array.ensures ∙ same)
