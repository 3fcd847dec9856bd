use Rattle.std.proofs.Common.{vec_items, ◌∙◌, rules}
use Rattle.chain.proofs.Fresh.{fresh_sound, fresh_versions, fresh_staged}
use Rattle.chain.proofs.Chain.new.Goals as goal

pub invariant_of-result : goal.invariant_of-result
invariant_of-result g c =
    let n = fresh_sound g.row.P.Denot (vec_items c.fill.new.rows) c.row_before.result c.in_ok-capacity.capacity g.row.N c.fill.ensures.value c.row_before.ensures in
    record {
      small = search rules;
      room = search rules;
      wide = n.wide;
      frees = n.frees;
      links = n.links;
      stages = n.stages;
      full = n.full;
      rises = n.rises;
    }

pub returns : goal.returns
returns g c = (
  search rules,
  search rules,
  (
    (fresh_versions g.row.P.Denot (vec_items c.fill.new.rows) g.row.N, fresh_staged g.row.P.Denot (vec_items c.fill.new.rows) g.row.N),
    c.fill.ensures.len ∙ c.in_ok-capacity.ensures.2,
  ),
)
