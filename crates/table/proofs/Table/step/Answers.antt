use Rattle.std.proofs.Common.{◌≡◌, get_or, set, position, Some, sym, ap, ◌∙◌, arith}
use Rattle.std.proofs.lemmas.List.{get_or-take, get_or_default, length-take-le}
use Rattle.std.proofs.lemmas.List.Quantifiers.{position-Some}
use Rattle.table.specs.Contents.{listed, has, reply_in}
use Rattle.table.proofs.Places.{found_at, stepped_at, take_set}
use Rattle.table.proofs.Table.step.Goals as goal

pub returns-clause-value : goal.returns-clause-value
returns-clause-value g c =
    let items = c.args.self.now.items in
    let xs = listed c.args.self.now in
    let num = g.T.Numbered.number in
    let i = c.in_ok-place.place in
    let d = get_or items i c.index-self-place.result in
    let stands : position (has num c.args.number) xs ≡ Some i = sym c.in_ok-place.ensures in
    let within = (position-Some (has num c.args.number) xs i d stands).0 in
    let l = length-take-le c.args.self.now.len items (omega arith) in
    let at : d ≡ get_or xs i d = get_or_default items i c.index-self-place.result d (omega arith) ∙ sym (get_or-take c.args.self.now.len items i d (omega arith)) in
    ap (λ r. Some r) c.step.ensures.value ∙ sym (ap (λ o. reply_in g.T.Machine.reply o c.args.event) (found_at num xs c.args.number i d stands at))

pub returns-clause-after : goal.returns-clause-after
returns-clause-after g c =
    let items = c.args.self.now.items in
    let xs = listed c.args.self.now in
    let num = g.T.Numbered.number in
    let next = g.T.Machine.next in
    let i = c.in_ok-place.place in
    let d = get_or items i c.index-self-place.result in
    let stands : position (has num c.args.number) xs ≡ Some i = sym c.in_ok-place.ensures in
    let within = (position-Some (has num c.args.number) xs i d stands).0 in
    let l = length-take-le c.args.self.now.len items (omega arith) in
    let at : d ≡ get_or xs i d = get_or_default items i c.index-self-place.result d (omega arith) ∙ sym (get_or-take c.args.self.now.len items i d (omega arith)) in
    take_set c.args.self.now.len items i c.step.new.self
    ∙ (ap (λ y. set xs i y) c.step.ensures.after ∙ stepped_at num next xs c.args.number c.args.event i d stands at)
