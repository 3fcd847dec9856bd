use Rattle.std.proofs.Common.{sym, ◌∙◌, arith}
use Rattle.store.specs.Meaning.{last_of}
use Rattle.store.proofs.Answering.{answered}
use Rattle.chain.specs.Rows.{slot_at, versions_of}
use Rattle.chain.proofs.Links.{look_read, newest_some, newest_none}
use Rattle.chain.proofs.Steps.{sound, newest_in}
use Rattle.chain.proofs.ChainStore.newest.Goals as goal

pub index-requires : goal.index-requires
index-requires g c =
    let l = newest_in (sound c.args.self.now) c.args.item c.in-Some.place c.in-Some.is in
    let m = c.args.self.now.rows.ok.0 in omega arith

pub returns-in-Some : goal.returns-in-Some
returns-in-Some g c =
    let h = sound c.args.self.now in
    let rows = c.args.self.now.rows.items in
    let slot = slot_at c.args.self.now.slots c.args.item in
    let f = look_read rows c.in-Some.place c.index.result.now c.index.result.now (newest_in h c.args.item c.in-Some.place c.in-Some.is) c.index.ensures in
    answered g.row.N c.args.item c.version.result (last_of (versions_of rows c.args.self.now.slots c.args.item)) (omega arith)
    (c.version.ensures ∙ sym (newest_some c.args.item rows slot.count c.in-Some.place slot.newest c.index.result.now c.in-Some.is (h.links c.args.item) f))

pub returns-in-None : goal.returns-in-None
returns-in-None g c =
    let rows = c.args.self.now.rows.items in
    let slot = slot_at c.args.self.now.slots c.args.item in
    answered g.row.N c.args.item _ (last_of (versions_of rows c.args.self.now.slots c.args.item)) (omega arith) (sym (newest_none rows slot.count slot.newest c.in-None.is))
