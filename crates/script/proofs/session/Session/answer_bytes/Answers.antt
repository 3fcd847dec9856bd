use Rattle.std.proofs.Common.{sym, refl, subst}
use Rattle.script.specs.Running.{script_view}
use Rattle.script.specs.declared.session.Session.{Session}
use Rattle.script.specs.Sessions.{OfCounts, OfPoses, session_view, Replies}
use Rattle.script.proofs.session.Session.answer_bytes.Goals as goal

pub returns-in-Counts : goal.returns-in-Counts
returns-in-Counts c =
    let w = script_view c.answer.new.line in
    let Q : Session → Type 0 = λ z. Replies (session_view z) c.args.number c.args.text.now c.answer.result.items (OfCounts w) in
    subst Q (sym c.in-Counts.is) (w, (refl, c.answer.ensures))

pub returns-in-Poses : goal.returns-in-Poses
returns-in-Poses c =
    let w = script_view c.answer-in-Poses.new.line in
    let Q : Session → Type 0 = λ z. Replies (session_view z) c.args.number c.args.text.now c.answer-in-Poses.result.items (OfPoses w) in
    subst Q (sym c.in-Poses.is) (w, (refl, c.answer-in-Poses.ensures))
