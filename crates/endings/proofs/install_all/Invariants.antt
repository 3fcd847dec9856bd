use Rattle.std.proofs.Common.{◌≡◌}
use Rattle.endings.specs.After.{versions_to, staged_to}
use Rattle.endings.proofs.install_all.Given as goal

abbrev pub invariant-loop-item : goal.invariant-loop-item
invariant-loop-item g l =
    (g.S.Store.versions l.store ≡ versions_to g.S.Store.K (g.S.Store.versions l.initial.store) (g.S.Store.stagings l.initial.store) l.items l.time l.item)
    × (g.S.Store.stagings l.store ≡ staged_to g.S.Store.K (g.S.Store.versions l.initial.store) (g.S.Store.stagings l.initial.store) l.items l.time l.item)
    × (g.S.Store.capacity l.store ≡ g.S.Store.capacity l.initial.store)
