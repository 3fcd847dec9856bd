-- Whatever a script prints is UTF-8.
use Rattle.std.proofs.Common.{◌≡◌, ℕ, ◌+◌, ◌<◌, ◌≤◌, List, [], ◌∷◌, ◌++◌, length, Some, None, Ok, Option, IsUtf8, decimal, inl, inr, sym, subst}
use Rattle.std.proofs.lemmas.Bool.{cases_lt}
use Rattle.std.proofs.lemmas.Str.{IsUtf8-nil, IsUtf8-append}
use Rattle.pose.specs.Texts.{pose_text}
use Rattle.protocol.specs.declared.calls.Call.{Call}
use Rattle.protocol.specs.declared.calls.Answer.TheVariants.{Accepted}
use Rattle.command.specs.declared.kinds.Kind.{Kind}
use Rattle.answer_text.specs.declared.faults.ScriptFault.TheVariants.{Malformed, TooLong}
use Rattle.answer_text.specs.Texts.{script_text}
use Rattle.answer_text.proofs.Utf8.{utf8_decimal, utf8_pose, utf8_line, utf8_text, utf8_script}
use Rattle.model.specs.Lines.{LineView}
use Rattle.model.specs.Calls.{told}
use Rattle.script.specs.Answers.{printed}
use Rattle.script.specs.Sessions.{SessionView, Unset, OfCounts, OfPoses, kind_printed, Replies}
use Rattle.script.specs.Scripts.{Transcript, PrintedFor}

utf8_printed : {P : Type 0} (shown : P → List ℕ) → ((p : P) → IsUtf8 (shown p)) → (v : LineView P) (n : ℕ) (c : Option (Call P)) → IsUtf8 (printed shown v n c)
utf8_printed shown u v n None = utf8_line _ (utf8_script (Malformed n))
utf8_printed shown u v n (Some c) = utf8_line _ (utf8_text shown u (told v c))

utf8_kind : (n : ℕ) (k : Option Kind) → IsUtf8 (kind_printed n k)
utf8_kind n None = utf8_line _ (utf8_script (Malformed n))
utf8_kind n (Some k) = utf8_line _ (utf8_text decimal utf8_decimal (Ok Accepted))

-- for a line
pub utf8_reply : (s : SessionView) (n : ℕ) (text bytes : List ℕ) (t : SessionView) → Replies s n text bytes t → IsUtf8 bytes
utf8_reply Unset n text bytes t r = subst IsUtf8 (sym r.prints) (utf8_kind n r.kind)
utf8_reply (OfCounts v) n text bytes t r = subst IsUtf8 (sym r.1.1.prints) (utf8_printed decimal utf8_decimal v n r.1.1.call)
utf8_reply (OfPoses v) n text bytes t r = subst IsUtf8 (sym r.1.1.prints) (utf8_printed pose_text utf8_pose v n r.1.1.call)

-- for the lines of a script
utf8_transcript : (s : SessionView) (n : ℕ) (ls : List (List ℕ)) (bytes : List ℕ) → Transcript s n ls bytes → IsUtf8 bytes
utf8_transcript s n [] bytes e = subst IsUtf8 (sym e) IsUtf8-nil
utf8_transcript s n (l ∷ ls) bytes (first, rest, t, r, e, k) =
    subst IsUtf8 (sym e) (IsUtf8-append first rest (utf8_reply s n l first t r) (utf8_transcript t (n + 1) ls rest k))

-- for a script that is run
utf8_lines : (script bytes : List ℕ) → PrintedFor script bytes → IsUtf8 bytes
utf8_lines script bytes (ls, cut, k) = utf8_transcript Unset 1 ls bytes k

-- for a script of whatever length
pub utf8_run : (script bytes : List ℕ) → (65536 < length script → bytes ≡ script_text TooLong ++ (10 ∷ [])) → (length script ≤ 65536 → PrintedFor script bytes) → IsUtf8 bytes
utf8_run script bytes long lines = elim (cases_lt 65536 (length script)) [
  | inl h ↦ subst IsUtf8 (sym (long h)) (utf8_line _ (utf8_script TooLong))
  | inr h ↦ utf8_lines script bytes (lines h)
]
