use Rattle.std.proofs.Common.{sym, ap, ◌∙◌, arith}
use Rattle.store.proofs.Answering.{answered}
use Rattle.chain.specs.Rows.{staged_at, staged_of, payload_at}
use Rattle.chain.proofs.Links.{look_read}
use Rattle.chain.proofs.Steps.{sound, staged_in_lem}
use Rattle.chain.proofs.ChainStore.staged.Goals as goal

pub index-requires : goal.index-requires
index-requires g c =
    let l = staged_in_lem (sound c.args.self.now) c.args.item c.in-Some.place c.in-Some.is in
    let m = c.args.self.now.rows.ok.0 in omega arith

pub returns-in-Some : goal.returns-in-Some
returns-in-Some g c =
    let rows = c.args.self.now.rows.items in
    let f = look_read rows c.in-Some.place c.index.result.now c.index.result.now
    (staged_in_lem (sound c.args.self.now) c.args.item c.in-Some.place c.in-Some.is) c.index.ensures in
    answered g.row.N c.args.item c.payload.result (staged_of rows c.args.self.now.slots c.args.item) (omega arith)
    (c.payload.ensures ∙ sym (ap (staged_at rows) c.in-Some.is ∙ ap payload_at f))
