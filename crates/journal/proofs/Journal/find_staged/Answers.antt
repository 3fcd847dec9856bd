use Rattle.std.proofs.Common.{length, vec_items, ap, ◌∙◌, arith, rules}
use Rattle.journal.proofs.Backward.{back_enumerate, pushed, counted, last_found}
use Rattle.journal.proofs.Searches.{held_in, held_by}
use Rattle.journal.proofs.Journal.find_staged.Goals as goal

pub returns : goal.returns
returns g c =
    let rows = vec_items c.args.self.now.rows in
    let k = c.args.item in
    let w = c.find_map.ensures.runs in
    let a = c.rev.ensures.runs w.0 w.0.seen w.1 in
    let m = c.rev.ensures.runs_back a.0 a.0.seen a.1 in
    let q = m.1 in
    let e = ap (λ s. s.rest.now) c.enumerate.ensures.source ∙ (c.iter.ensures.rest ∙ c.deref.ensures.value) in
    let b = back_enumerate w.0 a.0 q.0 (λ y. y.now) q.0.from.rest.now rows (c.iter.ensures.runs_back q.0 q.0.seen) a.2 q.2.0 q.2.1 (ap (λ s. s.rest.now) q.1 ∙ e) in
    let n = ap length e in
    held_by w.0 (λ y. y.now) rows k c.find_map.result
    (λ i x f. counted _ (length rows) i _ (a.0.at i) x (a.2.0.2 i) f (m.0 (λ s y t h. pushed s.rest.now t.rest.now y.now h) i) (omega (arith, n, c.enumerate.ensures.count)))
    (last_found w.0 _ _ (held_in (λ y. y.now) k) (λ x. x.1.now) rows (λ x o h. search rules) b c.find_map.result (λ x r f h. search rules) w.2)
