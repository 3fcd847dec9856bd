use Rattle.std.proofs.Common.{ap, take, ◌-◌, ◌+◌, ◌∙◌, arith}
use Rattle.std.specs.List.{copy_within}
use Rattle.table.proofs.Removal.{moved_down}
use Rattle.table.proofs.Table.remove.Goals as goal

pub returns-then-place-self : goal.returns-then-place-self
returns-then-place-self g c =
    let t = c.args.self.now in
    ap (take (t.len - 1)) {y = copy_within t.items (c.args.place + 1) t.len c.args.place} c.copy_within.ensures.after ∙ moved_down t.len t.items c.args.place (omega arith) (omega arith)
