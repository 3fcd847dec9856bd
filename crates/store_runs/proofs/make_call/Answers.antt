use Rattle.std.proofs.Common.{rules}
use Rattle.store_runs.specs.Plain.{meant}
use Rattle.store_runs.proofs.Counting.{free_after}
use Rattle.store_runs.proofs.make_call.Goals as goal

pub returns-in-Stage-clause-rows : goal.returns-in-Stage-clause-rows
returns-in-Stage-clause-rows g c =
    let old = c.args.store.now in
    let new = c.stage.new.self in
    free_after (meant g.S.Store old) (meant g.S.Store new) c.args.call (search rules) (g.met.S.Store.fits old) (g.met.S.Store.fits new)

pub returns-in-Unstage-clause-rows : goal.returns-in-Unstage-clause-rows
returns-in-Unstage-clause-rows g c =
    let old = c.args.store.now in
    let new = c.unstage.new.self in
    free_after (meant g.S.Store old) (meant g.S.Store new) c.args.call (search rules) (g.met.S.Store.fits old) (g.met.S.Store.fits new)

pub returns-in-Install-clause-rows : goal.returns-in-Install-clause-rows
returns-in-Install-clause-rows g c =
    let old = c.args.store.now in
    let new = c.install.new.self in
    free_after (meant g.S.Store old) (meant g.S.Store new) c.args.call (search rules) (g.met.S.Store.fits old) (g.met.S.Store.fits new)

pub returns-in-Clear-clause-rows : goal.returns-in-Clear-clause-rows
returns-in-Clear-clause-rows g c =
    let old = c.args.store.now in
    let new = c.clear.new.self in
    free_after (meant g.S.Store old) (meant g.S.Store new) c.args.call (search rules) (g.met.S.Store.fits old) (g.met.S.Store.fits new)
