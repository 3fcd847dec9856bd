-- What a cohort does at an event, and what it is then.
use Rattle.std.specs.Prelude.{ℕ, Some, None, Option}
use Rattle.items.specs.Sets.{none, inserted}
use Rattle.protocol.specs.declared.messages.Vote.{Vote}
use Rattle.protocol.specs.declared.messages.Vote.TheVariants.{Yes, No}
use Rattle.protocol.specs.declared.messages.Decision.{Decision}
use Rattle.protocol.specs.declared.messages.Decision.TheVariants.{Commit, Abort}
use Rattle.protocol.specs.declared.messages.Order.{Order}
use Rattle.protocol.specs.declared.messages.Order.TheVariants.{Prepare, Decide}
use Rattle.protocol.specs.declared.messages.Report.{Report}
use Rattle.protocol.specs.declared.messages.Report.TheVariants.{Cast, Ack}
use Rattle.cohort.specs.declared.kinds.State.{State}
use Rattle.cohort.specs.declared.kinds.State.TheVariants.{Active, Voted, Out, Done}
use Rattle.cohort.specs.declared.kinds.Cohort.{Cohort}
use Rattle.cohort.specs.declared.kinds.Event.{Event}
use Rattle.cohort.specs.declared.kinds.Event.TheVariants.{Read, Write, Leave, Receive}
use Rattle.cohort.specs.declared.kinds.Ending.{Ending}
use Rattle.cohort.specs.declared.kinds.Ending.TheVariants.{Keep, Unstage, Install}
use Rattle.cohort.specs.declared.kinds.Reaction.{Reaction}

abbrev pub tx_of : Cohort → ℕ
tx_of c = c.tx

-- one that has just joined
abbrev pub joiner : ℕ → ℕ → Cohort
joiner x start = record { tx = x; state = Active start; reads = none; writes = none }

-- in another state, with its holds
abbrev pub turned : Cohort → State → Cohort
turned c s = record { tx = c.tx; state = s; reads = c.reads; writes = c.writes }

-- in another state, without holds
abbrev pub ended : Cohort → State → Cohort
ended c s = record { tx = c.tx; state = s; reads = none; writes = none }

abbrev pub reading : Cohort → ℕ → Cohort
reading c i = record { tx = c.tx; state = c.state; reads = inserted c.reads i; writes = c.writes }

abbrev pub writing : Cohort → ℕ → Cohort
writing c i = record { tx = c.tx; state = c.state; reads = c.reads; writes = inserted c.writes i }

abbrev pub reacts : Option Report → Ending → Reaction
reacts r e = record { report = r; ending = e }

-- an Active one casts the vote, and a no ends its holds
abbrev pub voted : Cohort → Vote → Cohort
voted c (Yes g) = turned c (Voted g)
voted c No = ended c Out

abbrev pub vote_reaction : Cohort → Vote → Reaction
vote_reaction c (Yes g) = reacts (Some (Cast (Yes g))) Keep
vote_reaction c No = reacts (Some (Cast No)) (Unstage c.writes)

-- a decision installs or unstages what was staged
abbrev pub ending_of : Cohort → Decision → Ending
ending_of c (Commit t) = Install c.writes t
ending_of c Abort = Unstage c.writes

-- an order to a cohort in a state: PREPARE asks for the vote, and each later one repeats it; a decision is carried out once, and
-- acknowledged each time
abbrev pub received : Cohort → State → Order → Vote → Cohort
received c (Active s) Prepare b = voted c b
received c (Voted g) Prepare b = c
received c Out Prepare b = c
received c Done Prepare b = c
received c (Active s) (Decide d) b = ended c Done
received c (Voted g) (Decide d) b = ended c Done
received c Out (Decide d) b = ended c Done
received c Done (Decide d) b = c

abbrev pub reaction : Cohort → State → Order → Vote → Reaction
reaction c (Active s) Prepare b = vote_reaction c b
reaction c (Voted g) Prepare b = reacts (Some (Cast (Yes g))) Keep
reaction c Out Prepare b = reacts (Some (Cast No)) Keep
reaction c Done Prepare b = reacts None Keep
reaction c (Active s) (Decide d) b = reacts (Some Ack) (ending_of c d)
reaction c (Voted g) (Decide d) b = reacts (Some Ack) (ending_of c d)
reaction c Out (Decide d) b = reacts (Some Ack) (ending_of c d)
reaction c Done (Decide d) b = reacts (Some Ack) Keep

abbrev pub step_to : Cohort → Event → Cohort
step_to c (Read i) = reading c i
step_to c (Write i) = writing c i
step_to c Leave = ended c Out
step_to c (Receive o b) = received c c.state o b

abbrev pub step_reply : Cohort → Event → Reaction
step_reply c (Read i) = reacts None Keep
step_reply c (Write i) = reacts None Keep
step_reply c Leave = reacts None (Unstage c.writes)
step_reply c (Receive o b) = reaction c c.state o b
