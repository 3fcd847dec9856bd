-- What the coordinator does with a transaction at an event, and what it answers.
use Rattle.std.specs.Prelude.{ℕ, Bool, true, false, cond, not, is_some, Some, None, Option, ◌==◌}
use Rattle.protocol.specs.declared.sites.Site.{Site}
use Rattle.protocol.specs.declared.sites.PerSite.{PerSite}
use Rattle.protocol.specs.declared.messages.Range.{Range}
use Rattle.protocol.specs.declared.messages.Vote.TheVariants.{Yes, No}
use Rattle.protocol.specs.declared.messages.Decision.{Decision}
use Rattle.protocol.specs.declared.messages.Decision.TheVariants.{Commit, Abort}
use Rattle.protocol.specs.declared.messages.Order.{Order}
use Rattle.protocol.specs.declared.messages.Order.TheVariants.{Prepare, Decide}
use Rattle.protocol.specs.declared.messages.Report.{Report}
use Rattle.protocol.specs.declared.messages.Report.TheVariants.{Cast, Ack}
use Rattle.protocol.specs.declared.answers.Stage.{Stage}
use Rattle.protocol.specs.declared.answers.Stage.TheVariants.{Open, Polling, Decided}
use Rattle.protocol.specs.declared.answers.Delivery.{Delivery}
use Rattle.protocol.specs.declared.answers.Delivery.TheVariants.{Ranged, Declined, Noted, Committed, Aborted, Settled, Stale, Closed}
use Rattle.protocol.specs.Sites.{at, put_at, of_all, how_many, lacking}
use Rattle.protocol.specs.Formulas.{tallied}
use Rattle.coordinator.specs.declared.kinds.Transaction.{Transaction}
use Rattle.coordinator.specs.declared.kinds.Event.{Event}
use Rattle.coordinator.specs.declared.kinds.Event.TheVariants.{Join, Submit, GiveUp, Receive}

abbrev pub number_in : Transaction → ℕ
number_in d = d.number

-- one that was just opened
abbrev pub opened : ℕ → Transaction
opened x = record { number = x; stage = Open; joined = of_all false; votes = of_all None; acks = of_all false }

abbrev pub at_stage : Transaction → Stage → Transaction
at_stage d t = record { number = d.number; stage = t; joined = d.joined; votes = d.votes; acks = d.acks }

abbrev pub with_join : Transaction → Site → Transaction
with_join d s = record { number = d.number; stage = d.stage; joined = put_at d.joined s true; votes = d.votes; acks = d.acks }

abbrev pub with_vote : Transaction → Site → Range → Transaction
with_vote d s g = record { number = d.number; stage = d.stage; joined = d.joined; votes = put_at d.votes s (Some g); acks = d.acks }

abbrev pub with_ack : Transaction → Site → Transaction
with_ack d s = record { number = d.number; stage = d.stage; joined = d.joined; votes = d.votes; acks = put_at d.acks s true }

-- the cells whose vote is recorded
abbrev pub cast_by : PerSite (Option Range) → PerSite Bool
cast_by v = record { cell0 = is_some v.cell0; cell1 = is_some v.cell1; cell2 = is_some v.cell2; cell3 = is_some v.cell3 }

abbrev pub is_empty : PerSite Bool → Bool
is_empty e = how_many e == 0

-- whether every joined cell's vote is recorded
abbrev pub all_voted : Transaction → Bool
all_voted d = is_empty (lacking d.joined (cast_by d.votes))

abbrev pub all_acked : Transaction → Bool
all_acked d = is_empty (lacking d.joined d.acks)

-- whether the coordinator waits for the cell's vote
abbrev pub awaits : Transaction → Stage → Site → Bool
awaits d Open s = false
awaits d Polling s = not (is_some (at d.votes s))
awaits d (Decided k) s = false

abbrev pub decision_answer : Decision → Delivery
decision_answer (Commit t) = Committed t
decision_answer Abort = Aborted

-- with one more vote: tallied if it was the last one missing
abbrev pub counted : Transaction → Transaction
counted d = cond (all_voted d) (at_stage d (Decided (tallied d.votes))) d

abbrev pub count_answer : Transaction → Delivery
count_answer d = cond (all_voted d) (decision_answer (tallied d.votes)) Noted

-- a report: the first vote of a cell is recorded while polling, a no decides abort, the last yes is tallied; the first
-- acknowledgement of a cell is recorded, and the last one missing closes the transaction
abbrev pub heard : Transaction → Site → Report → Transaction
heard d s (Cast (Yes g)) = cond (awaits d d.stage s) (counted (with_vote d s g)) d
heard d s (Cast No) = cond (awaits d d.stage s) (at_stage d (Decided Abort)) d
heard d s Ack = cond (at d.acks s) d (with_ack d s)

abbrev pub heard_answer : Transaction → Site → Report → Delivery
heard_answer d s (Cast (Yes g)) = cond (awaits d d.stage s) (count_answer (with_vote d s g)) Stale
heard_answer d s (Cast No) = cond (awaits d d.stage s) Aborted Stale
heard_answer d s Ack = cond (at d.acks s) Stale (cond (all_acked (with_ack d s)) Closed Noted)

abbrev pub step_to : Transaction → Event → Transaction
step_to d (Join s) = with_join d s
step_to d Submit = at_stage d Polling
step_to d GiveUp = at_stage d (Decided Abort)
step_to d (Receive s r) = heard d s r

abbrev pub step_reply : Transaction → Event → Delivery
step_reply d (Join s) = Noted
step_reply d Submit = Noted
step_reply d GiveUp = Noted
step_reply d (Receive s r) = heard_answer d s r

-- the decision that an answer announces, which goes to each joined cell
abbrev pub announced : Delivery → Option Decision
announced (Ranged g) = None
announced Declined = None
announced Noted = None
announced (Committed t) = Some (Commit t)
announced Aborted = Some Abort
announced Settled = None
announced Stale = None
announced Closed = None

-- how many messages a report makes the coordinator send
abbrev pub sends_for : Transaction → Site → Report → ℕ
sends_for d s r = cond (is_some (announced (heard_answer d s r))) (how_many d.joined) 0

-- whom a resend goes to: while polling to the cells whose vote is missing, once decided to those whose acknowledgement is
abbrev pub missing : Transaction → Stage → PerSite Bool
missing d Open = of_all false
missing d Polling = lacking d.joined (cast_by d.votes)
missing d (Decided k) = lacking d.joined d.acks

-- and what it repeats
abbrev pub repeated : Stage → Order
repeated Open = Prepare
repeated Polling = Prepare
repeated (Decided k) = Decide k
