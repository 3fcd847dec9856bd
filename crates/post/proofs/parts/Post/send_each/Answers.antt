use Rattle.std.proofs.Common.{sym, ◌∙◌}
use Rattle.post.specs.View.{waiting}
use Rattle.post.proofs.Sending.{sent_on, passed_on}
use Rattle.post.proofs.parts.Post.send_each.Goals as goal
use Rattle.post.proofs.parts.Post.send_each.Goals.{then-get, else-get}

pub loop-site-preserved : goal.loop-site-preserved
loop-site-preserved c =
    elim c.if-get.branch [
      | then-get w ↦ rw (w.self-is, w.push-sent.ensures.after, w.order_to.ensures) (sent_on c.args.marks c.args.tx c.args.order _ c.loop-site.site-index _ (waiting c.args.self.now)
          (waiting c.loop-site.self) c.loop-site-test.true c.loop-site.invariant (sym c.get.ensures ∙ w.if-get.true) c.requires)
      | else-get w ↦ rw w.self-is (passed_on c.args.marks c.args.tx c.args.order _ c.loop-site.site-index _ (waiting c.args.self.now)
          (waiting c.loop-site.self) c.loop-site-test.true c.loop-site.invariant (sym c.get.ensures ∙ w.if-get.false))
    ]
