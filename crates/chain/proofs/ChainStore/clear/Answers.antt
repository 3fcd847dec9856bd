use Rattle.std.proofs.Common.{vec_items, ◌∙◌, rules}
use Rattle.chain.proofs.Fresh.{fresh_sound, fresh_versions, fresh_staged}
use Rattle.chain.proofs.ChainStore.clear.Goals as goal

pub invariant_of-self : goal.invariant_of-self
invariant_of-self g c =
    let n = fresh_sound g.row.P.Denot (vec_items c.fill.new.rows) c.row_before-self.result c.len-capacity.result g.row.N c.fill.ensures.value c.row_before-self.ensures in
    record {
      small = c.args.self.now.small;
      room = search rules;
      wide = n.wide;
      frees = n.frees;
      links = n.links;
      stages = n.stages;
      full = n.full;
      rises = n.rises;
    }

pub returns : goal.returns
returns g c = record {
  stagings = fresh_staged g.row.P.Denot (vec_items c.fill.new.rows) g.row.N;
  versions = fresh_versions g.row.P.Denot (vec_items c.fill.new.rows) g.row.N;
  capacity = c.fill.ensures.len ∙ c.len-capacity.ensures;
}
