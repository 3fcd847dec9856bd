use Rattle.std.proofs.Common.{vec_items}
use Rattle.store_runs.specs.Plain.{meant}
use Rattle.store_runs.proofs.Observing.{known_after}
use Rattle.store_runs.proofs.run_cleared.Goals as goal

pub returns-clause-known : goal.returns-clause-known
returns-clause-known g c =
    known_after (meant g.S.Store c.args.store.now) (meant g.S.Store c.answer_cleared.new.store) c.args.calls.now (vec_items c.answer_cleared.new.answers)
    c.answer_cleared.ensures.answers c.answer_cleared.ensures.after
