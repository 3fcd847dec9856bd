-- The printed text of an answer.
use Rattle.std.specs.Prelude.{ℕ, List, ◌∷◌, ◌++◌, Some, None, Ok, Err, codes, decimal, Option, Result}
use Rattle.protocol.specs.Faults.{number_of, layer_of, detail_of}
use Rattle.protocol.specs.declared.messages.Decision.{Decision}
use Rattle.protocol.specs.declared.messages.Decision.TheVariants.{Commit, Abort}
use Rattle.protocol.specs.declared.answers.Stage.{Stage}
use Rattle.protocol.specs.declared.answers.Stage.TheVariants.{Open, Polling, Decided}
use Rattle.protocol.specs.declared.answers.Delivery.{Delivery}
use Rattle.protocol.specs.declared.answers.Delivery.TheVariants.{Ranged, Declined, Noted, Committed, Aborted, Settled, Stale, Closed}
use Rattle.protocol.specs.declared.faults.Fault.{Fault}
use Rattle.protocol.specs.declared.faults.Layer.{Layer}
use Rattle.protocol.specs.declared.faults.Layer.TheVariants.{Line, Cell, Store}
use Rattle.protocol.specs.declared.calls.Answer.{Answer}
use Rattle.protocol.specs.declared.calls.Answer.TheVariants.{Accepted, Number, Payload, Delivered, Stands}
use Rattle.answer_text.specs.declared.faults.ScriptFault.{ScriptFault}
use Rattle.answer_text.specs.declared.faults.ScriptFault.TheVariants.{Malformed, TooLong}

abbrev pub decision_text : Decision → List ℕ
decision_text (Commit t) = codes "commit " ++ decimal t
decision_text Abort = codes "abort"

abbrev pub stage_text : Stage → List ℕ
stage_text Open = codes "open"
stage_text Polling = codes "polling"
stage_text (Decided d) = decision_text d

abbrev pub delivery_text : Delivery → List ℕ
delivery_text (Ranged g) = codes "range " ++ (decimal g.earliest ++ (32 ∷ decimal g.latest))
delivery_text Declined = codes "out"
delivery_text Noted = codes "noted"
delivery_text (Committed t) = codes "commit " ++ decimal t
delivery_text Aborted = codes "abort"
delivery_text Settled = codes "done"
delivery_text Stale = codes "stale"
delivery_text Closed = codes "closed"

abbrev pub layer_text : Layer → List ℕ
layer_text Line = codes "line"
layer_text Cell = codes "cell"
layer_text Store = codes "store"

-- "no", who refuses, the number of the cause and its detail
abbrev pub refusal_text : List ℕ → ℕ → ℕ → List ℕ
refusal_text layer number detail = codes "no " ++ (layer ++ (32 ∷ (decimal number ++ (32 ∷ decimal detail))))

-- what a read gave
abbrev pub read_text : {P : Type 0} → (P → List ℕ) → Option P → List ℕ
read_text shown None = codes "absent"
read_text shown (Some p) = shown p

abbrev pub accepted_text : {P : Type 0} → (P → List ℕ) → Answer P → List ℕ
accepted_text shown Accepted = codes "ok"
accepted_text shown (Number n) = codes "ok " ++ decimal n
accepted_text shown (Payload o) = codes "ok " ++ read_text shown o
accepted_text shown (Delivered d) = codes "ok " ++ delivery_text d
accepted_text shown (Stands s) = codes "ok " ++ stage_text s

abbrev pub fault_text : Fault → List ℕ
fault_text f = refusal_text (layer_text (layer_of f)) (number_of f) (detail_of f)

-- what a call answers
abbrev pub text_of : {P : Type 0} → (P → List ℕ) → Result (Answer P) Fault → List ℕ
text_of shown (Ok a) = accepted_text shown a
text_of shown (Err f) = fault_text f

-- what the script layer refuses by itself
abbrev pub script_text : ScriptFault → List ℕ
script_text (Malformed line) = refusal_text (codes "script") 14 line
script_text TooLong = refusal_text (codes "script") 15 65536
