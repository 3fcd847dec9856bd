-- A cell: its store by its meaning, its clock, spread and LAST, and the cohorts that joined it. What it answers and becomes.
use Rattle.std.specs.Prelude.{ℕ, max, Bool, true, false, cond, List, is_some, is_ok, Some, None, Ok, Err, Option, Result, nat_lt}
use Rattle.items.specs.Sets.{has}
use Rattle.protocol.specs.declared.faults.CellFault.{CellFault}
use Rattle.protocol.specs.declared.faults.CellFault.TheVariants.{NotActive, NoItem, Held, NoRow}
use Rattle.protocol.specs.declared.messages.Vote.{Vote}
use Rattle.protocol.specs.declared.messages.Vote.TheVariants.{No}
use Rattle.protocol.specs.declared.messages.Order.{Order}
use Rattle.protocol.specs.declared.messages.Report.{Report}
use Rattle.protocol.specs.Limits.{live_limit}
use Rattle.protocol.specs.Formulas.{vote_of}
use Rattle.table.specs.Contents.{find_in, pushed, without, reply_in, stepped}
use Rattle.store.specs.declared.Version.{Version}
use Rattle.store.specs.Meaning.{with, last_of, stage_answer}
use Rattle.endings.specs.After.{versions_to, staged_to, cleared_to}
use Rattle.cohort.specs.declared.kinds.State.{State}
use Rattle.cohort.specs.declared.kinds.State.TheVariants.{Active, Voted, Out, Done}
use Rattle.cohort.specs.declared.kinds.Cohort.{Cohort}
use Rattle.cohort.specs.declared.kinds.Event.{Event}
use Rattle.cohort.specs.declared.kinds.Event.TheVariants.{Read, Write, Leave, Receive}
use Rattle.cohort.specs.declared.kinds.Ending.{Ending}
use Rattle.cohort.specs.declared.kinds.Ending.TheVariants.{Keep, Unstage, Install}
use Rattle.cohort.specs.declared.kinds.Reaction.{Reaction}
use Rattle.cohort.specs.Steps.{tx_of, joiner, step_to, step_reply}
use Rattle.cohort.specs.Holds.{is_active, blockers, smallest, delays}

pub record CellView (P : Type 0) : Type 0 where
  pub width : ℕ
  pub capacity : ℕ
  pub versions : ℕ → List (Version P)
  pub stagings : ℕ → Option P
  pub clock : ℕ
  pub spread : ℕ
  pub last : ℕ
  pub cohorts : List Cohort

abbrev pub with_parts : {P : Type 0} → CellView P → (ℕ → List (Version P)) → (ℕ → Option P) → ℕ → List Cohort → CellView P
with_parts v versions stagings last cohorts =
    record { width = v.width; capacity = v.capacity; versions = versions; stagings = stagings; clock = v.clock; spread = v.spread; last = last; cohorts = cohorts }

abbrev pub with_cohorts : {P : Type 0} → CellView P → List Cohort → CellView P
with_cohorts v cohorts = with_parts v v.versions v.stagings v.last cohorts

abbrev pub cohort_of : {P : Type 0} → CellView P → ℕ → Option Cohort
cohort_of v x = find_in tx_of v.cohorts x

-- the clock is set, forward or back
abbrev pub at_clock : {P : Type 0} → CellView P → ℕ → CellView P
at_clock v t = record { width = v.width; capacity = v.capacity; versions = v.versions; stagings = v.stagings; clock = t; spread = v.spread; last = v.last; cohorts = v.cohorts }

-- an event of x: its cohort changes, and its staged payloads may end. A commit raises LAST
abbrev pub ended_by : {P : Type 0} → CellView P → Ending → CellView P
ended_by v Keep = v
ended_by v (Unstage w) = with_parts v v.versions (cleared_to v.width v.stagings w v.width) v.last v.cohorts
ended_by v (Install w t) =
    with_parts v (versions_to v.width v.versions v.stagings w t v.width) (staged_to v.width v.versions v.stagings w t v.width) (max v.last t) v.cohorts

abbrev pub ended_if : {P : Type 0} → CellView P → Option Reaction → CellView P
ended_if v None = v
ended_if v (Some r) = ended_by v r.ending

abbrev pub acted : {P : Type 0} → CellView P → ℕ → Event → CellView P
acted v x e = ended_if (with_cohorts v (stepped tx_of step_to v.cohorts x e)) (reply_in step_reply (cohort_of v x) e)

-- join
abbrev pub join_told : {P : Type 0} → CellView P → ℕ → Result Unit CellFault
join_told v x = cond (is_some (cohort_of v x)) (Err NotActive) (Ok tt)

abbrev pub join_done : {P : Type 0} → CellView P → ℕ → CellView P
join_done v x = cond (is_some (cohort_of v x)) v (with_cohorts v (pushed live_limit v.cohorts (joiner x v.clock)))

-- the cohort of x, if it may use the item; else the upper one of: not Active, no such item, the smallest transaction in the way
abbrev pub or_held : Option ℕ → Cohort → Result Cohort CellFault
or_held None c = Ok c
or_held (Some y) c = Err (Held y)

abbrev pub may_use_by : {P : Type 0} → CellView P → ℕ → ℕ → Bool → Option Cohort → Result Cohort CellFault
may_use_by v x i for_writing None = Err NotActive
may_use_by v x i for_writing (Some c) =
    cond (is_active c.state) (cond (nat_lt i v.width) (or_held (smallest None (blockers x i for_writing v.cohorts)) c) (Err (NoItem i))) (Err NotActive)

abbrev pub may_use : {P : Type 0} → CellView P → ℕ → ℕ → Bool → Result Cohort CellFault
may_use v x i for_writing = may_use_by v x i for_writing (cohort_of v x)

-- read: the reader's own staged payload, else the newest version's, else absent
abbrev pub payload_of : {P : Type 0} → Option (Version P) → Option P
payload_of None = None
payload_of (Some u) = Some u.payload

abbrev pub newest_at : {P : Type 0} → CellView P → ℕ → Option P
newest_at v i = payload_of (last_of (v.versions i))

abbrev pub value_for : {P : Type 0} → CellView P → Cohort → ℕ → Option P
value_for v c i = cond (has c.writes i) (v.stagings i) (newest_at v i)

abbrev pub read_by : {P : Type 0} → CellView P → ℕ → Result Cohort CellFault → Result (Option P) CellFault
read_by v i (Ok c) = Ok (value_for v c i)
read_by v i (Err f) = Err f

abbrev pub read_told : {P : Type 0} → CellView P → ℕ → ℕ → Result (Option P) CellFault
read_told v x i = read_by v i (may_use v x i false)

abbrev pub read_done_by : {P : Type 0} → CellView P → ℕ → ℕ → Result Cohort CellFault → CellView P
read_done_by v x i (Ok c) = acted v x (Read i)
read_done_by v x i (Err f) = v

abbrev pub read_done : {P : Type 0} → CellView P → ℕ → ℕ → CellView P
read_done v x i = read_done_by v x i (may_use v x i false)

-- write
abbrev pub has_row : {P : Type 0} → CellView P → ℕ → Bool
has_row v i = is_ok (stage_answer v.width v.capacity v.versions v.stagings i)

abbrev pub staging : {P : Type 0} → CellView P → ℕ → P → CellView P
staging v i p = with_parts v v.versions (with v.stagings i (Some p)) v.last v.cohorts

abbrev pub write_by : {P : Type 0} → CellView P → ℕ → Result Cohort CellFault → Result Unit CellFault
write_by v i (Ok c) = cond (has_row v i) (Ok tt) (Err (NoRow i))
write_by v i (Err f) = Err f

abbrev pub write_told : {P : Type 0} → CellView P → ℕ → ℕ → Result Unit CellFault
write_told v x i = write_by v i (may_use v x i true)

abbrev pub write_done_by : {P : Type 0} → CellView P → ℕ → ℕ → P → Result Cohort CellFault → CellView P
write_done_by v x i p (Ok c) = cond (has_row v i) (acted (staging v i p) x (Write i)) v
write_done_by v x i p (Err f) = v

abbrev pub write_done : {P : Type 0} → CellView P → ℕ → ℕ → P → CellView P
write_done v x i p = write_done_by v x i p (may_use v x i true)

-- leave
abbrev pub is_active_in : Option Cohort → Bool
is_active_in None = false
is_active_in (Some c) = is_active c.state

abbrev pub leave_told : {P : Type 0} → CellView P → ℕ → Result Unit CellFault
leave_told v x = cond (is_active_in (cohort_of v x)) (Ok tt) (Err NotActive)

abbrev pub leave_done : {P : Type 0} → CellView P → ℕ → CellView P
leave_done v x = cond (is_active_in (cohort_of v x)) (acted v x Leave) v

-- the vote that x would cast now
abbrev pub ballot_in : {P : Type 0} → CellView P → Cohort → State → Vote
ballot_in v c (Active start) = vote_of v.last (delays c.tx c.writes v.cohorts) start v.clock v.spread
ballot_in v c (Voted g) = No
ballot_in v c Out = No
ballot_in v c Done = No

abbrev pub ballot_by : {P : Type 0} → CellView P → Option Cohort → Vote
ballot_by v None = No
ballot_by v (Some c) = ballot_in v c c.state

abbrev pub ballot_for : {P : Type 0} → CellView P → ℕ → Vote
ballot_for v x = ballot_by v (cohort_of v x)

-- an order: what is reported back, if anything, and the cell after it
abbrev pub report_in : Option Reaction → Option Report
report_in None = None
report_in (Some r) = r.report

abbrev pub report_of : {P : Type 0} → CellView P → ℕ → Order → Option Report
report_of v x o = report_in (reply_in step_reply (cohort_of v x) (Receive o (ballot_for v x)))

abbrev pub receive_done : {P : Type 0} → CellView P → ℕ → Order → CellView P
receive_done v x o = acted v x (Receive o (ballot_for v x))

-- a transaction that closed is forgotten
abbrev pub close_done : {P : Type 0} → CellView P → ℕ → CellView P
close_done v x = with_cohorts v (without tx_of v.cohorts x)
