use Rattle.std.proofs.Common.{None, rules, tests, ◌∙◌}
use Rattle.std.proofs.lemmas.Iterator.{YieldsList-from_slice, YieldsList-from_map}
use Rattle.std.proofs.lemmas.Iterator.Consumers.{fold_from_yields_List, YieldsList-from_filter, YieldsList-at}
use Rattle.cohort.specs.Holds.{writes_in, blocking, lesser}
use Rattle.cohort.specs.Steps.{tx_of}
use Rattle.cohort.proofs.Least.{smallest_filtered}
use Rattle.cohort.proofs.holds.clash.Goals as goal

pub returns : goal.returns
returns c =
    let a = c.args.access in
    let cs = c.args.cohorts.now in
    fold_from_yields_List _ lesser None c.fold.result c.fold.ensures.ran
    (YieldsList-from_map _ tx_of
    (YieldsList-at c.map.ensures.source
    (YieldsList-from_filter _ (blocking a.tx a.item (writes_in a.mode)) (YieldsList-from_slice cs (cc)) c.filter.ensures.closure (λ x r q k. search (rules, tests))))
    c.map.ensures.closure (λ x r q k. search (rules, tests)))
    (λ best x r q k. search (rules, tests)) ∙ smallest_filtered a.tx a.item (writes_in a.mode) cs
