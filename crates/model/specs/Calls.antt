-- What each of the twelve calls answers, and the line after it.
use Rattle.std.specs.Prelude.{ℕ, Ok, Err, Option, Result}
use Rattle.protocol.specs.declared.faults.Fault.{Fault}
use Rattle.protocol.specs.declared.answers.Stage.{Stage}
use Rattle.protocol.specs.declared.answers.Delivery.{Delivery}
use Rattle.protocol.specs.declared.calls.Call.{Call}
use Rattle.protocol.specs.declared.calls.Call.TheVariants.{Open, Join, Read, Write, Leave, Submit, GiveUp, Resend, Deliver, Lose, Clock, Fate}
use Rattle.protocol.specs.declared.calls.Answer.{Answer}
use Rattle.protocol.specs.declared.calls.Answer.TheVariants.{Accepted, Number, Payload, Delivered, Stands}
use Rattle.protocol.specs.Sites.{site_of}
use Rattle.table.specs.Contents.{nth_in}
use Rattle.coordinator.specs.declared.kinds.Allowed.TheVariants.{OnlyOpen, Undecided, Submitted, AnyStage}
use Rattle.model.specs.Lines.{LineView, transaction_of, admit, admit_at, open_told, open_done, join_by, join_done_by, read_by, read_done_by, write_by, write_done_by, leave_by, leave_done_by, submit_by, submit_done_by, give_up_by, give_up_done_by, resend_by, resend_done_by, deliver_by, deliver_done_by, lose_told, lose_done, clock_told, clock_done, fate_by}

-- what a call comes to: an answer, or why it is refused
abbrev pub Outcome : Type 0 → Type 0
Outcome P = Result (Answer P) Fault

abbrev pub accepted : {P : Type 0} → Result Unit Fault → Outcome P
accepted (Ok u) = Ok Accepted
accepted (Err f) = Err f

abbrev pub numbered : {P : Type 0} → Result ℕ Fault → Outcome P
numbered (Ok n) = Ok (Number n)
numbered (Err f) = Err f

abbrev pub gave : {P : Type 0} → Result (Option P) Fault → Outcome P
gave (Ok p) = Ok (Payload p)
gave (Err f) = Err f

abbrev pub delivered : {P : Type 0} → Result Delivery Fault → Outcome P
delivered (Ok d) = Ok (Delivered d)
delivered (Err f) = Err f

abbrev pub stands : {P : Type 0} → Result Stage Fault → Outcome P
stands (Ok t) = Ok (Stands t)
stands (Err f) = Err f

abbrev pub told : {P : Type 0} → LineView P → Call P → Outcome P
told v Open = numbered (open_told v)
told v (Join x c) = accepted (join_by v x (admit_at v x c OnlyOpen))
told v (Read x c i) = gave (read_by v x i (admit_at v x c Undecided))
told v (Write x c i p) = accepted (write_by v x i (admit_at v x c Undecided))
told v (Leave x c) = accepted (leave_by v x (admit_at v x c AnyStage))
told v (Submit x) = numbered (submit_by v (admit v x OnlyOpen))
told v (GiveUp x) = accepted (give_up_by v (admit v x Undecided))
told v (Resend x) = numbered (resend_by v (admit v x Submitted))
told v (Deliver k) = delivered (deliver_by v k (nth_in v.post k))
told v (Lose k) = accepted (lose_told v k)
told v (Clock c t) = accepted (clock_told c t (site_of c))
told v (Fate x) = stands (fate_by x (transaction_of v x))

abbrev pub did : {P : Type 0} → LineView P → Call P → LineView P
did v Open = open_done v
did v (Join x c) = join_done_by v x (admit_at v x c OnlyOpen)
did v (Read x c i) = read_done_by v x i (admit_at v x c Undecided)
did v (Write x c i p) = write_done_by v x i p (admit_at v x c Undecided)
did v (Leave x c) = leave_done_by v x (admit_at v x c AnyStage)
did v (Submit x) = submit_done_by v x (admit v x OnlyOpen)
did v (GiveUp x) = give_up_done_by v x (admit v x Undecided)
did v (Resend x) = resend_done_by v x (admit v x Submitted)
did v (Deliver k) = deliver_done_by v (nth_in v.post k)
did v (Lose k) = lose_done v k
did v (Clock c t) = clock_done v t (site_of c)
did v (Fate x) = v
