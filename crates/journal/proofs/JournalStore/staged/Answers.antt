use Rattle.std.proofs.Common.{◌∙◌, arith, rules}
use Rattle.store.proofs.Answering.{answered}
use Rattle.journal.specs.Rows.{staged_of}
use Rattle.journal.proofs.Order.{found_payload}
use Rattle.journal.proofs.JournalStore.staged.Goals as goal

pub returns : goal.returns
returns g c =
    let rows = c.args.self.now.rows.items in
    answered g.row.N c.args.item c.map.result (staged_of rows c.args.item) (omega arith) (search rules ∙ found_payload g.row.N rows c.args.item c.find_staged.result c.args.self.now.ordered c.find_staged.ensures)
