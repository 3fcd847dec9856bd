-- What is printed of an answer is UTF-8 where what is printed of its payload is.
use Rattle.std.proofs.Common.{◌≡◌, ℕ, zero, suc, Bool, true, false, ◌&&◌, nat_lt, List, [], ◌∷◌, ◌++◌, ℤ, pos, negsuc, Some, None, Ok, Err, Option, Result, IsUtf8, IsAscii, codes, decimal, refl, arith, ltb-true}
use Rattle.std.proofs.DigitsParse.{digits-IsUtf8}
use Rattle.std.proofs.lemmas.Bool.{and_parts}
use Rattle.std.proofs.lemmas.Str.{IsUtf8-append, IsUtf8-from_ascii}
use Rattle.std.specs.Fmt.{signed_decimal}
use Rattle.pose.specs.declared.poses.PoseBits.{PoseBits}
use Rattle.pose.specs.Texts.{degrees_text, joint_text, pose_text}
use Rattle.protocol.specs.declared.messages.Decision.{Decision}
use Rattle.protocol.specs.declared.messages.Decision.TheVariants.{Commit, Abort}
use Rattle.protocol.specs.declared.answers.Stage.{Stage}
use Rattle.protocol.specs.declared.answers.Stage.TheVariants.{Open, Polling, Decided}
use Rattle.protocol.specs.declared.answers.Delivery.{Delivery}
use Rattle.protocol.specs.declared.answers.Delivery.TheVariants.{Ranged, Declined, Noted, Committed, Aborted, Settled, Stale, Closed}
use Rattle.protocol.specs.declared.faults.Fault.{Fault}
use Rattle.protocol.specs.declared.faults.Layer.{Layer}
use Rattle.protocol.specs.declared.faults.Layer.TheVariants.{Line, Cell, Store}
use Rattle.protocol.specs.declared.calls.Answer.{Answer}
use Rattle.protocol.specs.declared.calls.Answer.TheVariants.{Accepted, Number, Payload, Delivered, Stands}
use Rattle.protocol.specs.Faults.{number_of, layer_of, detail_of}
use Rattle.answer_text.specs.declared.faults.ScriptFault.{ScriptFault}
use Rattle.answer_text.specs.declared.faults.ScriptFault.TheVariants.{Malformed, TooLong}
use Rattle.answer_text.specs.Texts.{decision_text, stage_text, delivery_text, layer_text, refusal_text, read_text, accepted_text, fault_text, text_of, script_text}

-- a text of ASCII bytes that are written out
abbrev are_ascii : List ℕ → Bool
are_ascii [] = true
are_ascii (c ∷ cs) = nat_lt c 128 && are_ascii cs

letters : (text : List ℕ) → are_ascii text ≡ true → IsUtf8 text
letters text e = IsUtf8-from_ascii text (each text e)
  where
    each : (cs : List ℕ) → are_ascii cs ≡ true → IsAscii cs
    each [] e i = omega arith
    each (c ∷ cs) e zero = ltb-true c 128 (and_parts _ _ e).0
    each (c ∷ cs) e (suc i) = each cs (and_parts _ _ e).1 i

pub utf8_decimal : (n : ℕ) → IsUtf8 (decimal n)
utf8_decimal n = digits-IsUtf8 10 false n (omega arith) (omega arith)

utf8_signed : (z : ℤ) → IsUtf8 (signed_decimal z)
utf8_signed (pos n) = utf8_decimal n
utf8_signed (negsuc n) = IsUtf8-append (45 ∷ []) (decimal (suc n)) (letters (45 ∷ []) refl) (utf8_decimal (suc n))

spaced : (text : List ℕ) → IsUtf8 text → IsUtf8 (32 ∷ text)
spaced text u = IsUtf8-append (32 ∷ []) text (letters (32 ∷ []) refl) u

-- a text and its newline
pub utf8_line : (text : List ℕ) → IsUtf8 text → IsUtf8 (text ++ (10 ∷ []))
utf8_line text u = IsUtf8-append text (10 ∷ []) u (letters (10 ∷ []) refl)

-- payloads

utf8_degrees : (o : Option ℤ) → IsUtf8 (degrees_text o)
utf8_degrees (Some z) = utf8_signed z
utf8_degrees None = letters (63 ∷ []) refl

pub utf8_pose : (b : PoseBits) → IsUtf8 (pose_text b)
utf8_pose b =
    joined b.joint0 _ (joined b.joint1 _ (joined b.joint2 _ (utf8_degrees _)))
  where
    joined : (bits : ℕ) (text : List ℕ) → IsUtf8 text → IsUtf8 (joint_text bits ++ 32 ∷ text)
    joined bits text u = IsUtf8-append (joint_text bits) (32 ∷ text) (utf8_degrees _) (spaced text u)

-- answers

utf8_decision : (d : Decision) → IsUtf8 (decision_text d)
utf8_decision (Commit t) = IsUtf8-append (codes "commit ") (decimal t) (letters (codes "commit ") refl) (utf8_decimal t)
utf8_decision Abort = letters (codes "abort") refl

utf8_stage : (s : Stage) → IsUtf8 (stage_text s)
utf8_stage Open = letters (codes "open") refl
utf8_stage Polling = letters (codes "polling") refl
utf8_stage (Decided d) = utf8_decision d

utf8_delivery : (d : Delivery) → IsUtf8 (delivery_text d)
utf8_delivery (Ranged g) =
    IsUtf8-append (codes "range ") _ (letters (codes "range ") refl) (IsUtf8-append (decimal g.earliest) _ (utf8_decimal g.earliest) (spaced _ (utf8_decimal g.latest)))
utf8_delivery Declined = letters (codes "out") refl
utf8_delivery Noted = letters (codes "noted") refl
utf8_delivery (Committed t) = IsUtf8-append (codes "commit ") (decimal t) (letters (codes "commit ") refl) (utf8_decimal t)
utf8_delivery Aborted = letters (codes "abort") refl
utf8_delivery Settled = letters (codes "done") refl
utf8_delivery Stale = letters (codes "stale") refl
utf8_delivery Closed = letters (codes "closed") refl

utf8_read : {P : Type 0} (shown : P → List ℕ) → ((p : P) → IsUtf8 (shown p)) → (o : Option P) → IsUtf8 (read_text shown o)
utf8_read shown u None = letters (codes "absent") refl
utf8_read shown u (Some p) = u p

pub utf8_accepted : {P : Type 0} (shown : P → List ℕ) → ((p : P) → IsUtf8 (shown p)) → (a : Answer P) → IsUtf8 (accepted_text shown a)
utf8_accepted shown u Accepted = letters (codes "ok") refl
utf8_accepted shown u (Number n) = IsUtf8-append (codes "ok ") (decimal n) (letters (codes "ok ") refl) (utf8_decimal n)
utf8_accepted shown u (Payload o) = IsUtf8-append (codes "ok ") (read_text shown o) (letters (codes "ok ") refl) (utf8_read shown u o)
utf8_accepted shown u (Delivered d) = IsUtf8-append (codes "ok ") (delivery_text d) (letters (codes "ok ") refl) (utf8_delivery d)
utf8_accepted shown u (Stands s) = IsUtf8-append (codes "ok ") (stage_text s) (letters (codes "ok ") refl) (utf8_stage s)

utf8_layer : (l : Layer) → IsUtf8 (layer_text l)
utf8_layer Line = letters (codes "line") refl
utf8_layer Cell = letters (codes "cell") refl
utf8_layer Store = letters (codes "store") refl

utf8_refusal : (layer : List ℕ) (number detail : ℕ) → IsUtf8 layer → IsUtf8 (refusal_text layer number detail)
utf8_refusal layer number detail u =
    IsUtf8-append (codes "no ") _ (letters (codes "no ") refl)
    (IsUtf8-append layer _ u (spaced _ (IsUtf8-append (decimal number) _ (utf8_decimal number) (spaced _ (utf8_decimal detail)))))

pub utf8_fault : (f : Fault) → IsUtf8 (fault_text f)
utf8_fault f = utf8_refusal (layer_text (layer_of f)) (number_of f) (detail_of f) (utf8_layer (layer_of f))

-- whatever a call answers
pub utf8_text : {P : Type 0} (shown : P → List ℕ) → ((p : P) → IsUtf8 (shown p)) → (r : Result (Answer P) Fault) → IsUtf8 (text_of shown r)
utf8_text shown u (Ok a) = utf8_accepted shown u a
utf8_text shown u (Err f) = utf8_fault f

pub utf8_script : (f : ScriptFault) → IsUtf8 (script_text f)
utf8_script (Malformed n) = utf8_refusal (codes "script") 14 n (letters (codes "script") refl)
utf8_script TooLong = utf8_refusal (codes "script") 15 65536 (letters (codes "script") refl)
