-- A delivered report: the coordinator records it, may decide, and may close the transaction.
use Rattle.std.proofs.Common.{◌≡◌, ℕ, Bool, true, false, cond, not, List, ◌++◌, is_some, Some, Ok, Err, Result, sym, refl, ap, ◌∙◌, subst, inl, inr, arith}
use Rattle.std.proofs.lemmas.Bool.{cases_Bool, cond-true, cond-false}
use Rattle.protocol.specs.declared.sites.Site.{Site}
use Rattle.protocol.specs.declared.messages.Range.{Range}
use Rattle.protocol.specs.declared.messages.Vote.TheVariants.{Yes, No}
use Rattle.protocol.specs.declared.messages.Decision.{Decision}
use Rattle.protocol.specs.declared.messages.Decision.TheVariants.{Commit, Abort}
use Rattle.protocol.specs.declared.messages.Order.TheVariants.{Decide}
use Rattle.protocol.specs.declared.messages.Report.{Report}
use Rattle.protocol.specs.declared.messages.Report.TheVariants.{Cast, Ack}
use Rattle.protocol.specs.declared.messages.Body.TheVariants.{ToCoordinator}
use Rattle.protocol.specs.declared.messages.Message.{Message}
use Rattle.protocol.specs.declared.answers.Stage.{Stage}
use Rattle.protocol.specs.declared.answers.Stage.TheVariants.{Open, Polling, Decided}
use Rattle.protocol.specs.declared.answers.Delivery.{Delivery}
use Rattle.protocol.specs.declared.answers.Delivery.TheVariants.{Noted, Aborted, Stale, Closed}
use Rattle.protocol.specs.declared.faults.Fault.{Fault}
use Rattle.protocol.specs.Formulas.{tallied}
use Rattle.protocol.specs.Sites.{at, how_many}
use Rattle.coordinator.specs.declared.kinds.Transaction.{Transaction}
use Rattle.coordinator.specs.declared.kinds.Event.{Event}
use Rattle.coordinator.specs.declared.kinds.Event.TheVariants.{Receive}
use Rattle.coordinator.specs.Steps.{number_in, at_stage, with_vote, with_ack, all_voted, all_acked, awaits, decision_answer, counted, count_answer, heard_answer, step_to, announced, sends_for}
use Rattle.model.specs.Lines.{LineView, with_transactions, coordinated, sending, fits, no_room, orders_to, announcing, concluded, report_told, report_done}
use Rattle.model.specs.Calls.{delivered}
use Rattle.serial.specs.Observer.{see_post, see_tx, see_body, if_some, delivery_in}
use Rattle.serial.proofs.Lives.{Life, Prepared, is_unknown, is_holding, is_over}
use Rattle.serial.proofs.Histories.{History, is_decided, Means, Sound, Good, Next}
use Rattle.serial.proofs.Sites.{each_put, with_here}
use Rattle.serial.proofs.Steps.{same_stepped}
use Rattle.serial.proofs.Moves.{stay}
use Rattle.serial.proofs.Turns.{there, length_orders, turned, good_turn, sound_ack, closed_as, good_shut}
use Rattle.serial.proofs.Decisions.{none_lacks, unknown_free, sound_abort, sound_commit, sound_record}
use Rattle.serial.proofs.TurnsKeep.{room_for}

awaits_yet : (d : Transaction) (t : Stage) (s : Site) → awaits d t s ≡ true → is_decided t ≡ false
awaits_yet d Open s e = refl
awaits_yet d Polling s e = refl
awaits_yet d (Decided k) s e = absurd (grind (arith, e))

over_free : (p : Life) → is_over p ≡ true → is_holding p ≡ false
over_free p e = grind arith

module _ {P : Type 0} (v : LineView P) (h : History P) (g : Good v h) (x : ℕ) (s : Site) (l : h.live x ≡ true) where
  abbrev tx : Transaction
  tx = h.seen.transaction x

  -- an event that changes nothing
  still : (e : Event) → step_to tx e ≡ tx → Next h.seen (coordinated v x e)
  still e q = subst (Next h.seen) (sym (ap (λ ds. with_transactions v ds) (same_stepped number_in step_to e v.transactions x tx (there v h x g l) q))) (stay v h g)

  -- one that is recorded
  noted_good : (e : Event) (n : Transaction) → step_to tx e ≡ n → ((z : Site) → at n.joined z ≡ at tx.joined z) → Sound (turned h x n h.seen.post) → Good (coordinated v x e) (turned h x n h.seen.post)
  noted_good e n q jn so = good_turn v h x e n v.post h.seen.post g l q jn g.post g.light so

  -- one that decides
  announces : (e : Event) (n : Transaction) (k : Decision) → step_to tx e ≡ n → ((z : Site) → at n.joined z ≡ at tx.joined z) → fits v (how_many tx.joined) ≡ true →
      Sound (turned h x n (h.seen.post ++ orders_to tx.joined x (Decide k))) →
      Next (see_post (see_tx h.seen x n) (h.seen.post ++ orders_to tx.joined x (Decide k))) (announcing (coordinated v x e) x tx.joined k)
  announces e n k q jn f so =
      let ms : List Message = orders_to tx.joined x (Decide k) in
      let w : LineView P = coordinated v x e in (
        turned h x n (h.seen.post ++ ms),
        refl,
        subst (λ u. Good u (turned h x n (h.seen.post ++ ms))) (sym (cond-true (fits w (how_many tx.joined)) (sending w ms) w f))
            (good_turn v h x e n (v.post ++ ms) (h.seen.post ++ ms) g l q jn (ap (λ y. y ++ ms) g.post) (room_for v ms (how_many tx.joined) (length_orders tx.joined x (Decide k)) f) so),
      )

  -- by the answer, where the post has room for what it announces
  abbrev Heard : Report → Delivery → Type 0
  Heard r a = fits v (cond (is_some (announced a)) (how_many (h.seen.transaction x).joined) 0) ≡ true → Next (see_body h.seen x s (ToCoordinator r) a) (concluded (coordinated v x (Receive s r)) x (h.seen.transaction x).joined a)

  -- a yes vote that was awaited
  module _ (r : Range) (m : Means tx.stage (h.life s x) (ToCoordinator (Cast (Yes r)))) (w : awaits tx tx.stage s ≡ true) where
    yet : is_decided tx.stage ≡ false
    yet = awaits_yet tx tx.stage s w

    abbrev more : Transaction
    more = with_vote (h.seen.transaction x) s r

    cast : (z : Site) (n : Range) → at more.votes z ≡ Some n → h.life z x ≡ Prepared n.earliest n.latest
    cast = each_put (λ z q. (n : Range) → q ≡ Some n → h.life z x ≡ Prepared n.earliest n.latest) tx.votes s (Some r)
        (λ n q. let k : r ≡ n = cc in m.1 yet ∙ ap (λ y. Prepared y.earliest y.latest) k) (λ z n q. g.sound.cast x z n q yet)

    to_count : step_to tx (Receive s (Cast (Yes r))) ≡ counted more
    to_count = cond-true (awaits tx tx.stage s) (counted more) tx w

    tally : all_voted more ≡ true → (k : Decision) → tallied more.votes ≡ k → Heard (Cast (Yes r)) (decision_answer k)
    tally a (Commit t) e f = announces (Receive s (Cast (Yes r))) (at_stage more (Decided (Commit t))) (Commit t)
        (to_count ∙ (cond-true (all_voted more) (at_stage more (Decided (tallied more.votes))) more a ∙ ap (λ k. at_stage more (Decided k)) e)) (λ z. refl) f
        (sound_commit h g.sound x yet more (λ z. refl) (λ z. refl) cast t a e)
    tally a Abort e f = announces (Receive s (Cast (Yes r))) (at_stage more (Decided Abort)) Abort
        (to_count ∙ (cond-true (all_voted more) (at_stage more (Decided (tallied more.votes))) more a ∙ ap (λ k. at_stage more (Decided k)) e)) (λ z. refl) f
        (sound_abort h g.sound x yet more (λ z. refl) (λ z. refl) cast)

    count : (b : Bool) → all_voted more ≡ b → Heard (Cast (Yes r)) (count_answer more)
    count true a = subst (Heard (Cast (Yes r))) (sym (cond-true (all_voted more) (decision_answer (tallied more.votes)) Noted a)) (tally a (tallied more.votes) refl)
    count false a = subst (Heard (Cast (Yes r))) (sym (cond-false (all_voted more) (decision_answer (tallied more.votes)) Noted a))
        (λ f. (
          turned h x more h.seen.post,
          refl,
          noted_good (Receive s (Cast (Yes r))) more (to_count ∙ cond-false (all_voted more) (at_stage more (Decided (tallied more.votes))) more a) (λ z. refl)
              (sound_record h g.sound x yet more (λ z. refl) (λ z. refl) cast refl),
        ))

  yes_heard : (r : Range) → Means tx.stage (h.life s x) (ToCoordinator (Cast (Yes r))) → (b : Bool) → awaits tx tx.stage s ≡ b → Heard (Cast (Yes r)) (heard_answer tx s (Cast (Yes r)))
  yes_heard r m true w = subst (Heard (Cast (Yes r))) (sym (cond-true (awaits tx tx.stage s) (count_answer (with_vote tx s r)) Stale w)) (count r m w (all_voted (with_vote tx s r)) refl)
  yes_heard r m false w = subst (Heard (Cast (Yes r))) (sym (cond-false (awaits tx tx.stage s) (count_answer (with_vote tx s r)) Stale w))
      (λ f. still (Receive s (Cast (Yes r))) (cond-false (awaits tx tx.stage s) (counted (with_vote tx s r)) tx w))

  no_heard : (b : Bool) → awaits tx tx.stage s ≡ b → Heard (Cast No) (heard_answer tx s (Cast No))
  no_heard true w = let yet = awaits_yet tx tx.stage s w in
      subst (Heard (Cast No)) (sym (cond-true (awaits tx tx.stage s) Aborted Stale w))
      (λ f. announces (Receive s (Cast No)) (at_stage tx (Decided Abort)) Abort (cond-true (awaits tx tx.stage s) (at_stage tx (Decided Abort)) tx w) (λ z. refl) f
      (sound_abort h g.sound x yet tx (λ z. refl) (λ z. refl) (λ z n q. g.sound.cast x z n q yet)))
  no_heard false w = subst (Heard (Cast No)) (sym (cond-false (awaits tx tx.stage s) Aborted Stale w)) (λ f. still (Receive s (Cast No)) (cond-false (awaits tx tx.stage s) (at_stage tx (Decided Abort)) tx w))

  -- an acknowledgement that is new
  module _ (m : is_over (h.life s x) ≡ true) (w : at tx.acks s ≡ false) where
    abbrev acked : Transaction
    acked = with_ack (h.seen.transaction x) s

    abbrev after : History P
    after = turned h x (with_ack (h.seen.transaction x) s) h.seen.post

    ack_sound : Sound after
    ack_sound = sound_ack h x s g.sound m

    ack_good : Good (coordinated v x (Receive s Ack)) after
    ack_good = noted_good (Receive s Ack) acked (cond-false (at tx.acks s) tx acked w) (λ z. refl) ack_sound

    -- all have acknowledged: it holds nothing
    free : all_acked acked ≡ true → (z : Site) → is_holding (h.life z x) ≡ false
    free a z = elim (cases_Bool (is_unknown (h.life z x))) [
      | inl u ↦ unknown_free (h.life z x) u
      | inr n ↦ over_free (h.life z x) (ack_sound.acks x z (ap (λ k. at k.acks z) (with_here h.seen.transaction x acked) ∙ none_lacks acked.joined acked.acks a z (g.sound.joined x z ∙ ap not n)))
    ]

    ack_all : (b : Bool) → all_acked acked ≡ b → Heard Ack (cond b Closed Noted)
    ack_all true a f = (closed_as after x, refl, good_shut (coordinated v x (Receive s Ack)) after x ack_good (free a))
    ack_all false a f = (after, refl, ack_good)

  ack_heard : is_over (h.life s x) ≡ true → (b : Bool) → at tx.acks s ≡ b → Heard Ack (heard_answer tx s Ack)
  ack_heard m true w = subst (Heard Ack) (sym (cond-true (at tx.acks s) Stale (cond (all_acked (with_ack tx s)) Closed Noted) w)) (λ f. still (Receive s Ack) (cond-true (at tx.acks s) tx (with_ack tx s) w))
  ack_heard m false w = subst (Heard Ack) (sym (cond-false (at tx.acks s) Stale (cond (all_acked (with_ack tx s)) Closed Noted) w)) (ack_all m w (all_acked (with_ack tx s)) refl)

  by_report : (r : Report) → Means tx.stage (h.life s x) (ToCoordinator r) → Heard r (heard_answer tx s r)
  by_report (Cast (Yes n)) m = yes_heard n m (awaits tx tx.stage s) refl
  by_report (Cast No) m = no_heard (awaits tx tx.stage s) refl
  by_report Ack m = ack_heard m (at tx.acks s) refl

  abbrev or_full : Report → Bool → Result Delivery Fault
  or_full r b = cond b (Ok (heard_answer (h.seen.transaction x) s r)) (Err (no_room v (sends_for (h.seen.transaction x) s r)))

  pub report_next : (r : Report) → Means tx.stage (h.life s x) (ToCoordinator r) →
      Next (if_some h.seen (see_body h.seen x s (ToCoordinator r)) (delivery_in {P = P} (delivered (report_told v tx s r)))) (report_done v x tx s r)
  report_next r m = go (fits v (sends_for tx s r)) refl
    where
      go : (b : Bool) → fits v (sends_for tx s r) ≡ b →
          Next (if_some h.seen (see_body h.seen x s (ToCoordinator r)) (delivery_in {P = P} (delivered (or_full r b)))) (cond b (concluded (coordinated v x (Receive s r)) x tx.joined (heard_answer tx s r)) v)
      go true e = by_report r m e
      go false e = stay v h g
