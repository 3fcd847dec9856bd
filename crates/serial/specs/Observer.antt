-- What an observer knows who is told each call with its answer, and nothing of the line's records. It forgets nothing.
use Rattle.std.specs.Prelude.{ℕ, Bool, true, false, cond, ◌||◌, List, [], ◌∷◌, ◌++◌, Some, None, Option, Ok, Err, is_ok, ◌==◌}
use Rattle.std.specs.List.{remove}
use Rattle.protocol.specs.declared.sites.Site.{Site}
use Rattle.protocol.specs.declared.messages.Vote.TheVariants.{Yes, No}
use Rattle.protocol.specs.declared.messages.Decision.TheVariants.{Commit, Abort}
use Rattle.protocol.specs.declared.messages.Order.{Order}
use Rattle.protocol.specs.declared.messages.Order.TheVariants.{Prepare, Decide}
use Rattle.protocol.specs.declared.messages.Report.TheVariants.{Cast, Ack}
use Rattle.protocol.specs.declared.messages.Body.{Body}
use Rattle.protocol.specs.declared.messages.Body.TheVariants.{ToCell, ToCoordinator}
use Rattle.protocol.specs.declared.messages.Message.{Message}
use Rattle.protocol.specs.declared.answers.Stage.{Stage}
use Rattle.protocol.specs.declared.answers.Stage.TheVariants.{Polling, Decided}
use Rattle.protocol.specs.declared.answers.Delivery.{Delivery}
use Rattle.protocol.specs.declared.answers.Delivery.TheVariants.{Ranged, Declined, Noted, Committed, Aborted, Settled, Stale, Closed}
use Rattle.protocol.specs.declared.calls.Call.{Call}
use Rattle.protocol.specs.declared.calls.Call.TheVariants.{Open, Join, Read, Write, Leave, Submit, GiveUp, Resend, Deliver, Lose, Clock, Fate}
use Rattle.protocol.specs.declared.calls.Answer.{Answer}
use Rattle.protocol.specs.declared.calls.Answer.TheVariants.{Accepted, Number, Payload, Delivered, Stands}
use Rattle.protocol.specs.Sites.{site_of, number_at}
use Rattle.table.specs.Contents.{nth_in}
use Rattle.store.specs.Meaning.{with}
use Rattle.coordinator.specs.declared.kinds.Transaction.{Transaction}
use Rattle.coordinator.specs.Steps.{opened, at_stage, with_join, with_vote, with_ack, missing, repeated}
use Rattle.model.specs.Lines.{letter, orders_to}
use Rattle.model.specs.Calls.{Outcome}

abbrev pub same_site : Site → Site → Bool
same_site s z = number_at s == number_at z

-- an accepted read of an item, with what it gave, or an accepted write
pub data Act (P : Type 0) : Type 0 where
  Got : ℕ → Option P → Act P
  Put : ℕ → P → Act P

-- a transaction's use of a cell
pub record Use (P : Type 0) : Type 0 where
  pub tx : ℕ
  pub site : Site
  pub act : Act P

pub record Seen (P : Type 0) : Type 0 where
  -- the messages that wait
  pub post : List Message
  -- who joined, voted and acknowledged, and what was decided, for each number
  pub transaction : ℕ → Transaction
  -- the accepted reads and writes, in call order
  pub uses : List (Use P)
  -- at which cells a decision was carried out
  pub settled : ℕ → Site → Bool

abbrev pub see_post : {P : Type 0} → Seen P → List Message → Seen P
see_post o ms = record { post = ms; transaction = o.transaction; uses = o.uses; settled = o.settled }

abbrev pub see_tx : {P : Type 0} → Seen P → ℕ → Transaction → Seen P
see_tx o x d = record { post = o.post; transaction = with o.transaction x d; uses = o.uses; settled = o.settled }

abbrev pub see_use : {P : Type 0} → Seen P → ℕ → Site → Act P → Seen P
see_use o x s a = record { post = o.post; transaction = o.transaction; uses = o.uses ++ (record { tx = x; site = s; act = a } ∷ []); settled = o.settled }

abbrev pub see_settled : {P : Type 0} → Seen P → ℕ → Site → Seen P
see_settled o x s = record { post = o.post; transaction = o.transaction; uses = o.uses; settled = with o.settled x (λ z. same_site s z || o.settled x z) }

-- a message more
abbrev pub see_sent : {P : Type 0} → Seen P → List Message → Seen P
see_sent o ms = see_post o (o.post ++ ms)

-- a new stage, told to each joined cell
abbrev pub see_turn : {P : Type 0} → Seen P → ℕ → Transaction → Stage → Order → Seen P
see_turn o x d t k = see_post (see_tx o x (at_stage d t)) (o.post ++ orders_to d.joined x k)

-- a delivered PREPARE: the cell's vote is on its way
abbrev pub see_prepare : {P : Type 0} → Seen P → ℕ → Site → Delivery → Seen P
see_prepare o x s (Ranged g) = see_sent o (letter x s (ToCoordinator (Cast (Yes g))) ∷ [])
see_prepare o x s Declined = see_sent o (letter x s (ToCoordinator (Cast No)) ∷ [])
see_prepare o x s Noted = o
see_prepare o x s (Committed t) = o
see_prepare o x s Aborted = o
see_prepare o x s Settled = o
see_prepare o x s Stale = o
see_prepare o x s Closed = o

-- a delivered DECISION: the transaction is settled at the cell, and its acknowledgement is on its way
abbrev pub see_decision : {P : Type 0} → Seen P → ℕ → Site → Delivery → Seen P
see_decision o x s (Ranged g) = o
see_decision o x s Declined = o
see_decision o x s Noted = o
see_decision o x s (Committed t) = o
see_decision o x s Aborted = o
see_decision o x s Settled = see_sent (see_settled o x s) (letter x s (ToCoordinator Ack) ∷ [])
see_decision o x s Stale = o
see_decision o x s Closed = o

-- a delivered VOTE, where d has it recorded: it commits at the tick that the answer names
abbrev pub see_vote : {P : Type 0} → Seen P → ℕ → Transaction → Delivery → Seen P
see_vote o x d (Ranged g) = o
see_vote o x d Declined = o
see_vote o x d Noted = see_tx o x d
see_vote o x d (Committed t) = see_turn o x d (Decided (Commit t)) (Decide (Commit t))
see_vote o x d Aborted = see_turn o x d (Decided Abort) (Decide Abort)
see_vote o x d Settled = o
see_vote o x d Stale = o
see_vote o x d Closed = o

-- a delivered ACK
abbrev pub see_ack : {P : Type 0} → Seen P → ℕ → Site → Delivery → Seen P
see_ack o x s (Ranged g) = o
see_ack o x s Declined = o
see_ack o x s Noted = see_tx o x (with_ack (o.transaction x) s)
see_ack o x s (Committed t) = o
see_ack o x s Aborted = o
see_ack o x s Settled = o
see_ack o x s Stale = o
see_ack o x s Closed = see_tx o x (with_ack (o.transaction x) s)

abbrev pub see_body : {P : Type 0} → Seen P → ℕ → Site → Body → Delivery → Seen P
see_body o x s (ToCell Prepare) a = see_prepare o x s a
see_body o x s (ToCell (Decide k)) a = see_decision o x s a
see_body o x s (ToCoordinator (Cast (Yes g))) a = see_vote o x (with_vote (o.transaction x) s g) a
see_body o x s (ToCoordinator (Cast No)) a = see_vote o x (o.transaction x) a
see_body o x s (ToCoordinator Ack) a = see_ack o x s a

abbrev pub if_some : {X Y : Type 0} → Y → (X → Y) → Option X → Y
if_some y f None = y
if_some y f (Some x) = f x

abbrev pub see_arrival : {P : Type 0} → Seen P → Option Message → Option Delivery → Seen P
see_arrival o None a = o
see_arrival o (Some m) a = if_some o (see_body o m.tx m.site m.body) a

-- what an answer says
abbrev pub payload_given : {P : Type 0} → Answer P → Option (Option P)
payload_given Accepted = None
payload_given (Number n) = None
payload_given (Payload p) = Some p
payload_given (Delivered d) = None
payload_given (Stands t) = None

abbrev pub delivery_given : {P : Type 0} → Answer P → Option Delivery
delivery_given Accepted = None
delivery_given (Number n) = None
delivery_given (Payload p) = None
delivery_given (Delivered d) = Some d
delivery_given (Stands t) = None

abbrev pub payload_in : {P : Type 0} → Outcome P → Option (Option P)
payload_in (Ok a) = payload_given a
payload_in (Err f) = None

abbrev pub delivery_in : {P : Type 0} → Outcome P → Option Delivery
delivery_in (Ok a) = delivery_given a
delivery_in (Err f) = None

-- a call and its answer
abbrev pub note : {P : Type 0} → Seen P → Call P → Outcome P → Seen P
note o Open a = o
note o (Join x c) a = cond (is_ok a) (if_some o (λ s. see_tx o x (with_join (o.transaction x) s)) (site_of c)) o
note o (Read x c i) a = if_some o (λ p. if_some o (λ s. see_use o x s (Got i p)) (site_of c)) (payload_in a)
note o (Write x c i p) a = cond (is_ok a) (if_some o (λ s. see_use o x s (Put i p)) (site_of c)) o
note o (Leave x c) a = o
note o (Submit x) a = cond (is_ok a) (see_turn o x (o.transaction x) Polling Prepare) o
note o (GiveUp x) a = cond (is_ok a) (see_turn o x (o.transaction x) (Decided Abort) (Decide Abort)) o
note o (Resend x) a = cond (is_ok a) (see_sent o (orders_to (missing (o.transaction x) (o.transaction x).stage) x (repeated (o.transaction x).stage))) o
note o (Deliver k) a = see_arrival o (nth_in o.post k) (delivery_in a)
note o (Lose k) a = cond (is_ok a) (see_post o (remove o.post k)) o
note o (Clock c t) a = o
note o (Fate x) a = o

-- before the first call
abbrev pub nothing : {P : Type 0} → Seen P
nothing = record { post = []; transaction = opened; uses = []; settled = λ x s. false }
