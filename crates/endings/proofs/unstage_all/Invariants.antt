use Rattle.std.proofs.Common.{◌≡◌}
use Rattle.endings.specs.After.{cleared_to}
use Rattle.endings.proofs.unstage_all.Given as goal

abbrev pub invariant-loop-item : goal.invariant-loop-item
invariant-loop-item g l =
    (g.S.Store.versions l.store ≡ g.S.Store.versions l.initial.store)
    × (g.S.Store.stagings l.store ≡ cleared_to g.S.Store.K (g.S.Store.stagings l.initial.store) l.items l.item)
    × (g.S.Store.capacity l.store ≡ g.S.Store.capacity l.initial.store)
