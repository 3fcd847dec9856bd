-- Deliver: a message of a live transaction goes to its cell or to the coordinator, any other is stale.
use Rattle.std.proofs.Common.{◌≡◌, ℕ, true, Some, None, Option, sym, refl, ap, ◌∙◌, subst}
use Rattle.protocol.specs.declared.sites.Site.{Site}
use Rattle.protocol.specs.declared.messages.Vote.TheVariants.{Yes, No}
use Rattle.protocol.specs.declared.messages.Order.TheVariants.{Prepare, Decide}
use Rattle.protocol.specs.declared.messages.Report.TheVariants.{Cast, Ack}
use Rattle.protocol.specs.declared.messages.Body.{Body}
use Rattle.protocol.specs.declared.messages.Body.TheVariants.{ToCell, ToCoordinator}
use Rattle.protocol.specs.declared.messages.Message.{Message}
use Rattle.protocol.specs.declared.answers.Delivery.TheVariants.{Stale}
use Rattle.protocol.specs.declared.calls.Call.TheVariants.{Deliver}
use Rattle.table.specs.Contents.{nth_in}
use Rattle.model.specs.Lines.{LineView, transaction_of, body_told, body_done, live_told, live_done, deliver_by, deliver_done_by}
use Rattle.model.specs.Calls.{delivered}
use Rattle.serial.specs.Observer.{Seen, see_body, see_arrival, if_some, delivery_in}
use Rattle.serial.proofs.Histories.{History, Means, Fits, Good, Next, Keeps}
use Rattle.serial.proofs.Sites.{all_nth}
use Rattle.serial.proofs.Moves.{stay}
use Rattle.serial.proofs.Admits.{by_live}
use Rattle.serial.proofs.Orders.{order_next}
use Rattle.serial.proofs.Reports.{report_next}

stale_body : {P : Type 0} (o : Seen P) (x : ℕ) (s : Site) (b : Body) → see_body o x s b Stale ≡ o
stale_body o x s (ToCell Prepare) = refl
stale_body o x s (ToCell (Decide k)) = refl
stale_body o x s (ToCoordinator (Cast (Yes g))) = refl
stale_body o x s (ToCoordinator (Cast No)) = refl
stale_body o x s (ToCoordinator Ack) = refl

body_next : {P : Type 0} (v : LineView P) (h : History P) → Good v h → (x : ℕ) (s : Site) → h.live x ≡ true → (b : Body) → Means (h.seen.transaction x).stage (h.life s x) b →
    Next (if_some h.seen (see_body h.seen x s b) (delivery_in {P = P} (delivered (body_told v x s (h.seen.transaction x) b)))) (body_done v x s (h.seen.transaction x) b)
body_next v h g x s l (ToCell o) m = order_next v h g x s l o m
body_next v h g x s l (ToCoordinator r) m = report_next v h g x s l r m

pub keeps_deliver : {P : Type 0} (k : ℕ) → Keeps {P = P} (Deliver k)
keeps_deliver {P} k v h g = subst (λ ms. Next (see_arrival h.seen (nth_in ms k) (delivery_in {P = P} (delivered (deliver_by v k (nth_in v.post k))))) (deliver_done_by v (nth_in v.post k))) g.post (go (nth_in v.post k) refl)
  where
    by : (m : Message) → Fits h m → Next (if_some h.seen (see_body h.seen m.tx m.site m.body) (delivery_in {P = P} (delivered (live_told v m (transaction_of v m.tx))))) (live_done v m (transaction_of v m.tx))
    by m f = by_live v h m.tx g (λ q. Next (if_some h.seen (see_body h.seen m.tx m.site m.body) (delivery_in {P = P} (delivered (live_told v m q)))) (live_done v m q))
        (λ l. subst (λ o. Next o v) (sym (stale_body h.seen m.tx m.site m.body)) (stay v h g))
        (λ l. body_next v h g m.tx m.site l m.body f)

    go : (q : Option Message) → nth_in v.post k ≡ q → Next (see_arrival h.seen q (delivery_in {P = P} (delivered (deliver_by v k q)))) (deliver_done_by v q)
    go None e = stay v h g
    go (Some m) e = by m (all_nth (Fits h) h.seen.post k m (ap (λ ms. nth_in ms k) (sym g.post) ∙ e) g.sound.mails)
