-- A line: four cells, the coordinator's transactions, the post, and how many transactions were opened.
use Rattle.std.specs.Prelude.{ℕ, ◌+◌, ◌-◌, Bool, cond, List, [], ◌∷◌, ◌++◌, length, is_some, is_ok, Some, None, Ok, Err, Option, Result, nat_le, nat_lt}
use Rattle.std.specs.List.{remove}
use Rattle.protocol.specs.declared.sites.Site.{Site}
use Rattle.protocol.specs.declared.sites.Site.TheVariants.{Cell0, Cell1, Cell2, Cell3}
use Rattle.protocol.specs.declared.sites.PerSite.{PerSite}
use Rattle.protocol.specs.declared.messages.Vote.TheVariants.{Yes, No}
use Rattle.protocol.specs.declared.messages.Decision.{Decision}
use Rattle.protocol.specs.declared.messages.Decision.TheVariants.{Commit, Abort}
use Rattle.protocol.specs.declared.messages.Order.{Order}
use Rattle.protocol.specs.declared.messages.Order.TheVariants.{Prepare, Decide}
use Rattle.protocol.specs.declared.messages.Report.{Report}
use Rattle.protocol.specs.declared.messages.Report.TheVariants.{Cast, Ack}
use Rattle.protocol.specs.declared.messages.Body.{Body}
use Rattle.protocol.specs.declared.messages.Body.TheVariants.{ToCell, ToCoordinator}
use Rattle.protocol.specs.declared.messages.Message.{Message}
use Rattle.protocol.specs.declared.answers.Stage.{Stage}
use Rattle.protocol.specs.declared.answers.Delivery.{Delivery}
use Rattle.protocol.specs.declared.answers.Delivery.TheVariants.{Ranged, Declined, Noted, Committed, Aborted, Settled, Stale, Closed}
use Rattle.protocol.specs.declared.faults.CellFault.{CellFault}
use Rattle.protocol.specs.declared.faults.Fault.{Fault}
use Rattle.protocol.specs.declared.faults.Fault.TheVariants.{NotLive, NoCell, WrongStage, NoneJoined, AtCell, NoRoom, TooManyLive, NumbersUsed, NoMessage, TooLate}
use Rattle.protocol.specs.Limits.{last_tick, live_limit, opened_limit, post_limit}
use Rattle.protocol.specs.Sites.{site_of, at, put_at, one, how_many}
use Rattle.table.specs.Contents.{find_in, without, stepped}
use Rattle.coordinator.specs.declared.kinds.Transaction.{Transaction}
use Rattle.coordinator.specs.declared.kinds.Event.{Event}
use Rattle.coordinator.specs.declared.kinds.Event.TheVariants.{Join, Submit, GiveUp, Receive}
use Rattle.coordinator.specs.Steps.{number_in, opened, step_to, heard_answer, sends_for, missing, repeated, is_empty}
use Rattle.coordinator.specs.Allowing.{allows}
use Rattle.coordinator.specs.declared.kinds.Allowed.{Allowed}
use Rattle.model.specs.Cells.{CellView, at_clock, join_told, join_done, read_told, read_done, write_told, write_done, leave_told, leave_done, report_of, receive_done, close_done}

pub record LineView (P : Type 0) : Type 0 where
  pub cells : PerSite (CellView P)
  pub transactions : List Transaction
  pub post : List Message
  pub opens : ℕ

abbrev pub with_cell : {P : Type 0} → LineView P → Site → CellView P → LineView P
with_cell v s c = record { cells = put_at v.cells s c; transactions = v.transactions; post = v.post; opens = v.opens }

abbrev pub with_transactions : {P : Type 0} → LineView P → List Transaction → LineView P
with_transactions v ds = record { cells = v.cells; transactions = ds; post = v.post; opens = v.opens }

abbrev pub with_post : {P : Type 0} → LineView P → List Message → LineView P
with_post v ms = record { cells = v.cells; transactions = v.transactions; post = ms; opens = v.opens }

abbrev pub transaction_of : {P : Type 0} → LineView P → ℕ → Option Transaction
transaction_of v x = find_in number_in v.transactions x

-- an event of x at the coordinator
abbrev pub coordinated : {P : Type 0} → LineView P → ℕ → Event → LineView P
coordinated v x e = with_transactions v (stepped number_in step_to v.transactions x e)

-- the post: an order to each marked cell, in rising order
abbrev pub letter : ℕ → Site → Body → Message
letter x s b = record { tx = x; site = s; body = b }

abbrev pub letter_if : Bool → Message → List Message
letter_if b m = cond b (m ∷ []) []

abbrev pub orders_to : PerSite Bool → ℕ → Order → List Message
orders_to e x o =
    letter_if e.cell0 (letter x Cell0 (ToCell o)) ++ (letter_if e.cell1 (letter x Cell1 (ToCell o))
    ++ (letter_if e.cell2 (letter x Cell2 (ToCell o)) ++ letter_if e.cell3 (letter x Cell3 (ToCell o))))

abbrev pub sending : {P : Type 0} → LineView P → List Message → LineView P
sending v ms = with_post v (v.post ++ ms)

-- whether the post has room for so many more
abbrev pub fits : {P : Type 0} → LineView P → ℕ → Bool
fits v n = nat_le (length v.post + n) post_limit

abbrev pub no_room : {P : Type 0} → LineView P → ℕ → Fault
no_room v n = NoRoom (length v.post + n - post_limit)

-- x, if it is live and at a stage that the call allows
abbrev pub admit_by : ℕ → Allowed → Option Transaction → Result Transaction Fault
admit_by x a None = Err (NotLive x)
admit_by x a (Some d) = cond (allows a d.stage) (Ok d) (Err (WrongStage x))

abbrev pub admit : {P : Type 0} → LineView P → ℕ → Allowed → Result Transaction Fault
admit v x a = admit_by x a (transaction_of v x)

-- the site of a cell at which x may be used: the upper one of not live, no such cell, the wrong stage
abbrev pub admit_site : ℕ → ℕ → Allowed → Transaction → Option Site → Result Site Fault
admit_site x c a d None = Err (NoCell c)
admit_site x c a d (Some s) = cond (allows a d.stage) (Ok s) (Err (WrongStage x))

abbrev pub admit_at_by : ℕ → ℕ → Allowed → Option Transaction → Result Site Fault
admit_at_by x c a None = Err (NotLive x)
admit_at_by x c a (Some d) = admit_site x c a d (site_of c)

abbrev pub admit_at : {P : Type 0} → LineView P → ℕ → ℕ → Allowed → Result Site Fault
admit_at v x c a = admit_at_by x c a (transaction_of v x)

-- a cell's refusal, as the line's
abbrev pub from_cell : {X : Type 0} → Site → Result X CellFault → Result X Fault
from_cell s (Ok x) = Ok x
from_cell s (Err f) = Err (AtCell s f)

-- open
abbrev pub open_told : {P : Type 0} → LineView P → Result ℕ Fault
open_told v = cond (nat_lt (length v.transactions) live_limit) (cond (nat_lt v.opens opened_limit) (Ok (v.opens + 1)) (Err NumbersUsed)) (Err TooManyLive)

abbrev pub open_by : {P : Type 0} → LineView P → Result ℕ Fault → LineView P
open_by v (Ok x) = record { cells = v.cells; transactions = v.transactions ++ (opened x ∷ []); post = v.post; opens = x }
open_by v (Err f) = v

abbrev pub open_done : {P : Type 0} → LineView P → LineView P
open_done v = open_by v (open_told v)

-- join
abbrev pub join_by : {P : Type 0} → LineView P → ℕ → Result Site Fault → Result Unit Fault
join_by v x (Ok s) = from_cell s (join_told (at v.cells s) x)
join_by v x (Err f) = Err f

abbrev pub join_done_by : {P : Type 0} → LineView P → ℕ → Result Site Fault → LineView P
join_done_by v x (Ok s) = cond (is_ok (join_told (at v.cells s) x)) (coordinated (with_cell v s (join_done (at v.cells s) x)) x (Join s)) v
join_done_by v x (Err f) = v

-- read
abbrev pub read_by : {P : Type 0} → LineView P → ℕ → ℕ → Result Site Fault → Result (Option P) Fault
read_by v x i (Ok s) = from_cell s (read_told (at v.cells s) x i)
read_by v x i (Err f) = Err f

abbrev pub read_done_by : {P : Type 0} → LineView P → ℕ → ℕ → Result Site Fault → LineView P
read_done_by v x i (Ok s) = with_cell v s (read_done (at v.cells s) x i)
read_done_by v x i (Err f) = v

-- write
abbrev pub write_by : {P : Type 0} → LineView P → ℕ → ℕ → Result Site Fault → Result Unit Fault
write_by v x i (Ok s) = from_cell s (write_told (at v.cells s) x i)
write_by v x i (Err f) = Err f

abbrev pub write_done_by : {P : Type 0} → LineView P → ℕ → ℕ → P → Result Site Fault → LineView P
write_done_by v x i p (Ok s) = with_cell v s (write_done (at v.cells s) x i p)
write_done_by v x i p (Err f) = v

-- leave
abbrev pub leave_by : {P : Type 0} → LineView P → ℕ → Result Site Fault → Result Unit Fault
leave_by v x (Ok s) = from_cell s (leave_told (at v.cells s) x)
leave_by v x (Err f) = Err f

abbrev pub leave_done_by : {P : Type 0} → LineView P → ℕ → Result Site Fault → LineView P
leave_done_by v x (Ok s) = with_cell v s (leave_done (at v.cells s) x)
leave_done_by v x (Err f) = v

-- submit: PREPARE goes to each joined cell
abbrev pub submit_some : {P : Type 0} → LineView P → Transaction → Result ℕ Fault
submit_some v d = cond (is_empty d.joined) (Err (NoneJoined d.number)) (cond (fits v (how_many d.joined)) (Ok (how_many d.joined)) (Err (no_room v (how_many d.joined))))

abbrev pub submit_by : {P : Type 0} → LineView P → Result Transaction Fault → Result ℕ Fault
submit_by v (Ok d) = submit_some v d
submit_by v (Err f) = Err f

abbrev pub submit_done_by : {P : Type 0} → LineView P → ℕ → Result Transaction Fault → LineView P
submit_done_by v x (Ok d) = cond (is_ok (submit_some v d)) (sending (coordinated v x Submit) (orders_to d.joined x Prepare)) v
submit_done_by v x (Err f) = v

-- each cell forgets x
abbrev pub all_close : {P : Type 0} → PerSite (CellView P) → ℕ → PerSite (CellView P)
all_close e x = record { cell0 = close_done e.cell0 x; cell1 = close_done e.cell1 x; cell2 = close_done e.cell2 x; cell3 = close_done e.cell3 x }

-- a transaction closes: everything of it is forgotten, but for what it committed
abbrev pub shut : {P : Type 0} → LineView P → ℕ → LineView P
shut v x =
    record {
      cells = all_close v.cells x;
      transactions = without number_in v.transactions x;
      post = v.post;
      opens = v.opens;
    }

-- give up: an abort goes to each joined cell, and with no cell joined it closes
abbrev pub give_up_by : {P : Type 0} → LineView P → Result Transaction Fault → Result Unit Fault
give_up_by v (Ok d) = cond (fits v (how_many d.joined)) (Ok tt) (Err (no_room v (how_many d.joined)))
give_up_by v (Err f) = Err f

abbrev pub given_up : {P : Type 0} → LineView P → ℕ → Transaction → LineView P
given_up v x d = cond (is_empty d.joined) (shut v x) (sending (coordinated v x GiveUp) (orders_to d.joined x (Decide Abort)))

abbrev pub give_up_done_by : {P : Type 0} → LineView P → ℕ → Result Transaction Fault → LineView P
give_up_done_by v x (Ok d) = cond (fits v (how_many d.joined)) (given_up v x d) v
give_up_done_by v x (Err f) = v

-- resend
abbrev pub resend_some : {P : Type 0} → LineView P → PerSite Bool → Result ℕ Fault
resend_some v e = cond (fits v (how_many e)) (Ok (how_many e)) (Err (no_room v (how_many e)))

abbrev pub resend_by : {P : Type 0} → LineView P → Result Transaction Fault → Result ℕ Fault
resend_by v (Ok d) = resend_some v (missing d d.stage)
resend_by v (Err f) = Err f

abbrev pub resend_done_by : {P : Type 0} → LineView P → ℕ → Result Transaction Fault → LineView P
resend_done_by v x (Ok d) = cond (fits v (how_many (missing d d.stage))) (sending v (orders_to (missing d d.stage) x (repeated d.stage))) v
resend_done_by v x (Err f) = v

-- deliver an order: the cell acts on it, and may report
abbrev pub order_delivery : Option Report → Delivery
order_delivery None = Stale
order_delivery (Some (Cast (Yes g))) = Ranged g
order_delivery (Some (Cast No)) = Declined
order_delivery (Some Ack) = Settled

abbrev pub report_mail : ℕ → Site → Option Report → List Message
report_mail x s None = []
report_mail x s (Some r) = letter x s (ToCoordinator r) ∷ []

abbrev pub order_fits : {P : Type 0} → LineView P → ℕ → Site → Order → Bool
order_fits v x s o = fits v (one (is_some (report_of (at v.cells s) x o)))

abbrev pub order_told : {P : Type 0} → LineView P → ℕ → Site → Order → Result Delivery Fault
order_told v x s o = cond (order_fits v x s o) (Ok (order_delivery (report_of (at v.cells s) x o))) (Err (no_room v 1))

abbrev pub order_done : {P : Type 0} → LineView P → ℕ → Site → Order → LineView P
order_done v x s o = cond (order_fits v x s o) (sending (with_cell v s (receive_done (at v.cells s) x o)) (report_mail x s (report_of (at v.cells s) x o))) v

-- deliver a report: the coordinator records it, a decision goes to each joined cell, and the last acknowledgement closes
abbrev pub announcing : {P : Type 0} → LineView P → ℕ → PerSite Bool → Decision → LineView P
announcing v x e k = cond (fits v (how_many e)) (sending v (orders_to e x (Decide k))) v

abbrev pub concluded : {P : Type 0} → LineView P → ℕ → PerSite Bool → Delivery → LineView P
concluded v x e (Ranged g) = v
concluded v x e Declined = v
concluded v x e Noted = v
concluded v x e (Committed t) = announcing v x e (Commit t)
concluded v x e Aborted = announcing v x e Abort
concluded v x e Settled = v
concluded v x e Stale = v
concluded v x e Closed = shut v x

abbrev pub report_told : {P : Type 0} → LineView P → Transaction → Site → Report → Result Delivery Fault
report_told v d s r = cond (fits v (sends_for d s r)) (Ok (heard_answer d s r)) (Err (no_room v (sends_for d s r)))

abbrev pub report_done : {P : Type 0} → LineView P → ℕ → Transaction → Site → Report → LineView P
report_done v x d s r = cond (fits v (sends_for d s r)) (concluded (coordinated v x (Receive s r)) x d.joined (heard_answer d s r)) v

abbrev pub body_told : {P : Type 0} → LineView P → ℕ → Site → Transaction → Body → Result Delivery Fault
body_told v x s d (ToCell o) = order_told v x s o
body_told v x s d (ToCoordinator r) = report_told v d s r

abbrev pub body_done : {P : Type 0} → LineView P → ℕ → Site → Transaction → Body → LineView P
body_done v x s d (ToCell o) = order_done v x s o
body_done v x s d (ToCoordinator r) = report_done v x d s r

-- a message of a transaction that is no longer live is stale
abbrev pub live_told : {P : Type 0} → LineView P → Message → Option Transaction → Result Delivery Fault
live_told v m None = Ok Stale
live_told v m (Some d) = body_told v m.tx m.site d m.body

abbrev pub live_done : {P : Type 0} → LineView P → Message → Option Transaction → LineView P
live_done v m None = v
live_done v m (Some d) = body_done v m.tx m.site d m.body

abbrev pub deliver_by : {P : Type 0} → LineView P → ℕ → Option Message → Result Delivery Fault
deliver_by v k None = Err (NoMessage k)
deliver_by v k (Some m) = live_told v m (transaction_of v m.tx)

abbrev pub deliver_done_by : {P : Type 0} → LineView P → Option Message → LineView P
deliver_done_by v None = v
deliver_done_by v (Some m) = live_done v m (transaction_of v m.tx)

-- lose
abbrev pub lose_told : {P : Type 0} → LineView P → ℕ → Result Unit Fault
lose_told v k = cond (nat_lt k (length v.post)) (Ok tt) (Err (NoMessage k))

abbrev pub lose_done : {P : Type 0} → LineView P → ℕ → LineView P
lose_done v k = cond (nat_lt k (length v.post)) (with_post v (remove v.post k)) v

-- clock
abbrev pub clock_told : ℕ → ℕ → Option Site → Result Unit Fault
clock_told c t None = Err (NoCell c)
clock_told c t (Some s) = cond (nat_le t last_tick) (Ok tt) (Err (TooLate t))

abbrev pub clock_done : {P : Type 0} → LineView P → ℕ → Option Site → LineView P
clock_done v t None = v
clock_done v t (Some s) = cond (nat_le t last_tick) (with_cell v s (at_clock (at v.cells s) t)) v

-- fate
abbrev pub fate_by : ℕ → Option Transaction → Result Stage Fault
fate_by x None = Err (NotLive x)
fate_by x (Some d) = Ok d.stage
