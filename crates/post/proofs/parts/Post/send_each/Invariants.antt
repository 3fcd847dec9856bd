use Rattle.std.proofs.Common.{◌≡◌, ◌++◌, drop}
use Rattle.model.specs.Lines.{orders_to}
use Rattle.post.specs.View.{waiting}
use Rattle.post.proofs.Sending.{orders_over}
use Rattle.post.proofs.parts.Post.send_each.Given as goal

abbrev pub invariant-loop-site : goal.invariant-loop-site
invariant-loop-site l =
    waiting l.self ++ orders_over l.marks l.tx l.order (drop l.site-index l.site-items) ≡ waiting l.fn.self ++ orders_to l.marks l.tx l.order
