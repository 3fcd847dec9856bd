-- A script from its first line on: until a kind line is accepted, every other line is malformed.
use Rattle.std.specs.Prelude.{◌≡◌, ℕ, ◌^◌, ◌<◌, List, [], ◌∷◌, ◌++◌, Some, None, codes, decimal, Option}
use Rattle.pose.specs.declared.poses.PoseBits.{PoseBits}
use Rattle.pose.specs.Texts.{PlainPose, pose_text}
use Rattle.command.specs.declared.kinds.Kind.{Kind}
use Rattle.command.specs.declared.kinds.Kind.TheVariants.{Count, Pose}
use Rattle.command.specs.Words.{Reads}
use Rattle.command.specs.Grammar.{kind_text}
use Rattle.answer_text.specs.Texts.{script_text}
use Rattle.answer_text.specs.declared.faults.ScriptFault.TheVariants.{Malformed}
use Rattle.model.specs.Lines.{LineView}
use Rattle.serial.specs.Runs.{Reached}
use Rattle.script.specs.declared.session.Session.{Session}
use Rattle.script.specs.declared.session.Session.TheVariants.{NoKind, Counts, Poses}
use Rattle.script.specs.Running.{script_view, fresh_script}
use Rattle.script.specs.Answers.{Answered}

pub data SessionView : Type 0 where
  Unset : SessionView
  OfCounts : LineView ℕ → SessionView
  OfPoses : LineView PoseBits → SessionView

abbrev pub session_view : Session → SessionView
session_view NoKind = Unset
session_view (Counts l) = OfCounts (script_view l)
session_view (Poses l) = OfPoses (script_view l)

-- the kind line
abbrev pub kind_printed : ℕ → Option Kind → List ℕ
kind_printed n None = script_text (Malformed n) ++ (10 ∷ [])
kind_printed n (Some k) = codes "ok" ++ (10 ∷ [])

abbrev pub kind_after : Option Kind → SessionView
kind_after None = Unset
kind_after (Some Count) = OfCounts fresh_script
kind_after (Some Pose) = OfPoses fresh_script

-- the line that the script runs on begins a run
abbrev pub Begins : SessionView → Type 0
Begins Unset = Unit {0}
Begins (OfCounts v) = Reached v []
Begins (OfPoses v) = Reached v []

pub record Chooses (n : ℕ) (text bytes : List ℕ) (after : SessionView) : Type 0 where
  pub kind : Option Kind
  pub reads : Reads (λ _. Unit {0}) kind_text text kind
  pub prints : bytes ≡ kind_printed n kind
  pub next : after ≡ kind_after kind
  pub begins : Begins after

-- what is printed for the line with the number n, and the session after it
abbrev pub Replies : SessionView → ℕ → List ℕ → List ℕ → SessionView → Type 0
Replies Unset n text bytes after = Chooses n text bytes after
Replies (OfCounts v) n text bytes after = (w : LineView ℕ) × ((after ≡ OfCounts w) × Answered (λ c. c < 2 ^ 64) decimal decimal v w n text bytes)
Replies (OfPoses v) n text bytes after = (w : LineView PoseBits) × ((after ≡ OfPoses w) × Answered PlainPose pose_text pose_text v w n text bytes)
