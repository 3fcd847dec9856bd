use Rattle.std.proofs.Common.{◌&&◌, is_ok, None, refl, ap, ◌∙◌}
use Rattle.items.specs.Sets.{has}
use Rattle.store.specs.Meaning.{grown, install_answer}
use Rattle.endings.specs.After.{installs}
use Rattle.endings.proofs.Walks.{next, still, same_answer}
use Rattle.endings.proofs.install_all.Goals as goal

pub loop-item-preserved : goal.loop-item-preserved
loop-item-preserved g c =
    let n = g.S.Store.K in
    let v = g.S.Store.versions c.args.store.now in
    let s = g.S.Store.stagings c.args.store.now in
    let vi = g.S.Store.versions c.loop-item.store in
    let si = g.S.Store.stagings c.loop-item.store in
    let i = c.loop-item.item in
    let t = c.args.time in
    let w = c.args.items in
    let go = installs n v s w t in
    let ve = still go (λ k. grown (v k) t (s k)) v vi i c.loop-item.invariant.0 in
    let se = still go (λ _. None) s si i c.loop-item.invariant.1 in
    let u = ap (λ r. has w i && is_ok r) (same_answer n vi v si s i t ve se) in (
      next go (λ k. grown (v k) t (s k)) v vi (g.S.Store.versions c.install_if.new.store) i
          (has w i && is_ok (install_answer n vi si i t)) (grown (vi i) t (si i)) c.loop-item.invariant.0 u
          (ap (λ y. grown y t (si i)) ve ∙ ap (λ y. grown (v i) t y) se) c.install_if.ensures.versions,
      next go (λ _. None) s si (g.S.Store.stagings c.install_if.new.store) i
          (has w i && is_ok (install_answer n vi si i t)) None c.loop-item.invariant.1 u refl c.install_if.ensures.stagings,
      c.install_if.ensures.capacity ∙ c.loop-item.invariant.2,
    )
