use Rattle.std.proofs.Common.{vec_items, ap, ◌∙◌, rules}
use Rattle.store.specs.Meaning.{last_of}
use Rattle.journal.specs.Rows.{version_in}
use Rattle.journal.proofs.Backward.{back_rev, last_found}
use Rattle.journal.proofs.Searches.{newest_by}
use Rattle.journal.proofs.Journal.newest_of.Goals as goal

pub returns : goal.returns
returns g c =
    let rows = vec_items c.args.self.now.rows in
    let k = c.args.item in
    let w = c.find_map.ensures.runs in
    let q = c.rev.ensures.runs w.0 w.0.seen w.1 in
    let b = back_rev w.0 q.0 (λ y. y.now) q.0.from.rest.now rows (c.iter.ensures.runs_back q.0 q.0.seen) q.2 (ap (λ s. s.rest.now) q.1 ∙ (c.iter.ensures.rest ∙ c.deref.ensures.value)) in
    newest_by w.0 (λ y. y.now) rows k c.find_map.result
    (last_found w.0 _ _ (λ x. last_of (version_in x.now k)) (λ y. y.now) rows (λ x o h. search rules) b c.find_map.result (λ a r f h. search rules) w.2)
