-- The calls to the coordinator: open, submit, give up and resend.
use Rattle.std.proofs.Common.{◌≡◌, ℕ, ◌+◌, ◌≤◌, Bool, true, false, cond, ltb, List, [], ◌∷◌, ◌++◌, length, is_ok, Ok, Err, Result, sym, refl, ap, ◌∙◌, subst, append-nil, arith, length-append}
use Rattle.std.proofs.lemmas.Bool.{eqb-true, ltb-true, leb-true, and_parts}
use Rattle.protocol.specs.declared.sites.Site.{Site}
use Rattle.protocol.specs.declared.sites.Site.TheVariants.{Cell0, Cell1, Cell2, Cell3}
use Rattle.protocol.specs.declared.sites.PerSite.{PerSite}
use Rattle.protocol.specs.declared.messages.Decision.TheVariants.{Abort}
use Rattle.protocol.specs.declared.messages.Order.{Order}
use Rattle.protocol.specs.declared.messages.Order.TheVariants.{Prepare, Decide}
use Rattle.protocol.specs.declared.messages.Body.TheVariants.{ToCell}
use Rattle.protocol.specs.declared.messages.Message.{Message}
use Rattle.protocol.specs.declared.answers.Stage.{Stage}
use Rattle.protocol.specs.declared.answers.Stage.TheVariants.{Open, Polling, Decided}
use Rattle.protocol.specs.declared.faults.Fault.{Fault}
use Rattle.protocol.specs.declared.faults.Fault.TheVariants.{NoneJoined, TooManyLive, NumbersUsed}
use Rattle.protocol.specs.declared.calls.Call.TheVariants.{Open as Opens, Submit as Submits, GiveUp as GivesUp, Resend}
use Rattle.protocol.specs.Limits.{live_limit, opened_limit}
use Rattle.protocol.specs.Sites.{at, how_many}
use Rattle.coordinator.specs.declared.kinds.Transaction.{Transaction}
use Rattle.coordinator.specs.declared.kinds.Event.TheVariants.{Submit, GiveUp}
use Rattle.coordinator.specs.declared.kinds.Allowed.TheVariants.{OnlyOpen, Undecided, Submitted}
use Rattle.coordinator.specs.Steps.{cast_by, number_in, at_stage, missing, repeated, is_empty, step_to}
use Rattle.model.specs.Lines.{LineView, coordinated, sending, orders_to, fits, no_room, open_by, submit_by, submit_done_by, shut, give_up_by, given_up, give_up_done_by, resend_by, resend_done_by}
use Rattle.model.specs.Calls.{accepted, numbered}
use Rattle.serial.specs.Observer.{note, see_post, see_turn}
use Rattle.serial.proofs.Lives.{Life, is_unknown}
use Rattle.serial.proofs.Histories.{History, is_decided, Means, Fits, Good, Next, Keeps}
use Rattle.serial.proofs.Sites.{all_app}
use Rattle.serial.proofs.Steps.{cut_stepped}
use Rattle.serial.proofs.Moves.{stay}
use Rattle.serial.proofs.CallsKeep.{good_post}
use Rattle.serial.proofs.Decisions.{empty_at, lacking_at, joined_known, unknown_free, sound_poll, sound_abort}
use Rattle.serial.proofs.Admits.{by_tx, open_is, undecided_is}
use Rattle.serial.proofs.Turns.{all_orders, length_orders, turned, same_number, good_turn, closed_as, good_shut, opened_as, good_open}

-- open
abbrev open_as : ℕ → Bool → Bool → Result ℕ Fault
open_as n a b = cond a (cond b (Ok (n + 1)) (Err NumbersUsed)) (Err TooManyLive)

pub keeps_open : {P : Type 0} → Keeps {P = P} Opens
keeps_open {P} v h g = go (ltb (length v.transactions) live_limit) (ltb v.opens opened_limit) refl
  where
    go : (a b : Bool) → ltb (length v.transactions) live_limit ≡ a → Next h.seen (open_by v (open_as v.opens a b))
    go true true e = (opened_as h (v.opens + 1), refl, good_open v h (v.opens + 1) g refl (ltb-true (length v.transactions) 16 e))
    go true false e = stay v h g
    go false b e = stay v h g

-- there is room in the post
pub room_for : {P : Type 0} (v : LineView P) (ms : List Message) (n : ℕ) → length ms ≡ n → fits v n ≡ true → length (v.post ++ ms) ≤ 64
room_for v ms n e f = let a = length-append v.post ms in let b = leb-true (length v.post + n) 64 f in omega (arith, a, b, e)

-- no order goes to no cell
none_sent : (ms : List Message) → length ms ≡ 0 → ms ≡ []
none_sent [] e = refl
none_sent (m ∷ ms) e = absurd (omega (arith, e))

orders_none : (e : PerSite Bool) (x : ℕ) (o : Order) → is_empty e ≡ true → orders_to e x o ≡ []
orders_none e x o h = none_sent (orders_to e x o) (length_orders e x o ∙ eqb-true (how_many e) 0 h)

-- submit
module _ {P : Type 0} (v : LineView P) (h : History P) (g : Good v h) (x : ℕ) where
  abbrev polled : Transaction
  polled = h.seen.transaction x

  abbrev submit_as : Bool → Bool → Result ℕ Fault
  submit_as a b = cond a (Err (NoneJoined (h.seen.transaction x).number)) (cond b (Ok (how_many (h.seen.transaction x).joined)) (Err (no_room v (how_many (h.seen.transaction x).joined))))

  submits : h.live x ≡ true → polled.stage ≡ Open → (a b : Bool) → fits v (how_many polled.joined) ≡ b →
      Next (note h.seen (Submits x) (numbered (submit_as a b))) (cond (is_ok (submit_as a b)) (sending (coordinated v x Submit) (orders_to polled.joined x Prepare)) v)
  submits l e true b f = stay v h g
  submits l e false true f =
      let ms = orders_to polled.joined x Prepare in
      let yet = ap is_decided e in (
        turned h x (at_stage polled Polling) (h.seen.post ++ ms),
        refl,
        good_turn v h x Submit (at_stage polled Polling) (v.post ++ ms) (h.seen.post ++ ms) g l refl (λ z. refl) (ap (λ y. y ++ ms) g.post)
            (room_for v ms (how_many polled.joined) (length_orders polled.joined x Prepare) f) (sound_poll h g.sound x yet polled (λ z. refl) (λ z. refl) (λ z r k. g.sound.cast x z r k yet)),
      )
  submits l e false false f = stay v h g

pub keeps_submit : {P : Type 0} (x : ℕ) → Keeps {P = P} (Submits x)
keeps_submit {P} x v h g = by_tx v h x g OnlyOpen (λ m. Next (note h.seen (Submits x) (numbered (submit_by v m))) (submit_done_by v x m)) (λ f. stay v h g)
    (λ l e. submits v h g x l (open_is (h.seen.transaction x).stage e) (is_empty (h.seen.transaction x).joined) (fits v (how_many (h.seen.transaction x).joined)) refl)

-- give up: with no cell joined, the transaction is decided and closes at once
module _ {P : Type 0} (v : LineView P) (h : History P) (g : Good v h) (x : ℕ) (l : h.live x ≡ true) (yet : is_decided (h.seen.transaction x).stage ≡ false) where
  abbrev tx : Transaction
  tx = h.seen.transaction x

  abbrev orders : List Message
  orders = orders_to (h.seen.transaction x).joined x (Decide Abort)

  abbrev aborted : History P
  aborted = turned h x (at_stage (h.seen.transaction x) (Decided Abort)) (h.seen.post ++ orders_to (h.seen.transaction x).joined x (Decide Abort))

  abort_good : fits v (how_many tx.joined) ≡ true → Good (sending (coordinated v x GiveUp) orders) aborted
  abort_good f = good_turn v h x GiveUp (at_stage tx (Decided Abort)) (v.post ++ orders) (h.seen.post ++ orders) g l refl (λ z. refl) (ap (λ ms. ms ++ orders) g.post)
      (room_for v orders (how_many tx.joined) (length_orders tx.joined x (Decide Abort)) f)
      (sound_abort h g.sound x yet tx (λ z. refl) (λ z. refl) (λ z r k. g.sound.cast x z r k yet))

  shut_same : is_empty tx.joined ≡ true → shut (sending (coordinated v x GiveUp) orders) x ≡ shut v x
  shut_same e = ap (λ ds. record { cells = (shut v x).cells; transactions = ds; post = v.post ++ orders; opens = v.opens }) (cut_stepped number_in step_to GiveUp (same_number GiveUp) v.transactions x)
      ∙ ap (λ ms. record { cells = (shut v x).cells; transactions = (shut v x).transactions; post = ms; opens = v.opens }) (ap (λ ms. v.post ++ ms) (orders_none tx.joined x (Decide Abort) e) ∙ append-nil v.post)

  give_up_lem : fits v (how_many tx.joined) ≡ true → (b : Bool) → is_empty tx.joined ≡ b → Next (see_turn h.seen x tx (Decided Abort) (Decide Abort)) (cond b (shut v x) (sending (coordinated v x GiveUp) orders))
  give_up_lem f true e = (
    closed_as aborted x,
    refl,
    subst (λ w. Good w (closed_as aborted x)) (shut_same e)
        (good_shut (sending (coordinated v x GiveUp) orders) aborted x (abort_good f) (λ z. unknown_free (h.life z x) (let a = g.sound.joined x z in let b = empty_at tx.joined e z in grind (arith, a, b)))),
  )
  give_up_lem f false e = (aborted, refl, abort_good f)

  abbrev give_up_as : Bool → Result Unit Fault
  give_up_as b = cond b (Ok tt) (Err (no_room v (how_many (h.seen.transaction x).joined)))

  gives_up : (b : Bool) → fits v (how_many tx.joined) ≡ b → Next (note h.seen (GivesUp x) (accepted (give_up_as b))) (cond b (given_up v x tx) v)
  gives_up true f = give_up_lem f (is_empty tx.joined) refl
  gives_up false f = stay v h g

pub keeps_give_up : {P : Type 0} (x : ℕ) → Keeps {P = P} (GivesUp x)
keeps_give_up {P} x v h g = by_tx v h x g Undecided (λ m. Next (note h.seen (GivesUp x) (accepted (give_up_by v m))) (give_up_done_by v x m)) (λ f. stay v h g)
    (λ l e. gives_up v h g x l (undecided_is (h.seen.transaction x).stage e) (fits v (how_many (h.seen.transaction x).joined)) refl)

-- resend: to joined cells, what the stage says
missing_joined : (d : Transaction) (t : Stage) (z : Site) → at (missing d t) z ≡ true → at d.joined z ≡ true
missing_joined d Open z e = absurd (unmarked z e)
  where
    unmarked : (z : Site) → at (missing d Open) z ≡ true → ⊥
    unmarked z k = elim z as (λ z. at (missing d Open) z ≡ true → ⊥) [ Cell0 ↦ (λ u. grind (arith, u)) | Cell1 ↦ (λ u. grind (arith, u)) | Cell2 ↦ (λ u. grind (arith, u)) | Cell3 ↦ (λ u. grind (arith, u)) ] k
missing_joined d Polling z e = (and_parts (at d.joined z) _ (sym (lacking_at d.joined (cast_by d.votes) z) ∙ e)).0
missing_joined d (Decided k) z e = (and_parts (at d.joined z) _ (sym (lacking_at d.joined d.acks z) ∙ e)).0

repeated_means : (t : Stage) (p : Life) → is_unknown p ≡ false → Means t p (ToCell (repeated t))
repeated_means Open p e = e
repeated_means Polling p e = e
repeated_means (Decided k) p e = (e, refl)

module _ {P : Type 0} (v : LineView P) (h : History P) (g : Good v h) (x : ℕ) where
  abbrev lacks : PerSite Bool
  lacks = missing (h.seen.transaction x) (h.seen.transaction x).stage

  abbrev again : List Message
  again = orders_to (missing (h.seen.transaction x) (h.seen.transaction x).stage) x (repeated (h.seen.transaction x).stage)

  abbrev resend_as : Bool → Result ℕ Fault
  resend_as b = cond b (Ok (how_many (missing (h.seen.transaction x) (h.seen.transaction x).stage))) (Err (no_room v (how_many (missing (h.seen.transaction x) (h.seen.transaction x).stage))))

  resends : (b : Bool) → fits v (how_many lacks) ≡ b → Next (note h.seen (Resend x) (numbered (resend_as b))) (cond b (sending v again) v)
  resends true f =
      let d = h.seen.transaction x in (
        record { seen = see_post h.seen (h.seen.post ++ again); life = h.life; live = h.live },
        refl,
        good_post v h (v.post ++ again) (h.seen.post ++ again) g (ap (λ y. y ++ again) g.post) (room_for v again (how_many lacks) (length_orders lacks x (repeated d.stage)) f)
            (all_app (Fits h) h.seen.post again g.sound.mails
            (all_orders (Fits h) lacks x (repeated d.stage) (λ z e. repeated_means d.stage (h.life z x) (joined_known h g.sound x z (missing_joined d d.stage z e))))),
      )
  resends false f = stay v h g

pub keeps_resend : {P : Type 0} (x : ℕ) → Keeps {P = P} (Resend x)
keeps_resend {P} x v h g = by_tx v h x g Submitted (λ m. Next (note h.seen (Resend x) (numbered (resend_by v m))) (resend_done_by v x m)) (λ f. stay v h g)
    (λ l e. resends v h g x (fits v (how_many (missing (h.seen.transaction x) (h.seen.transaction x).stage))) refl)
