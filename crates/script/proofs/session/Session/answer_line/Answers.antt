use Rattle.std.proofs.Common.{IsUtf8, sym, subst, rules}
use Rattle.script.proofs.Utf8.{utf8_reply}
use Rattle.script.proofs.session.Session.answer_line.Goals as goal

pub unwrap-requires : goal.unwrap-requires
unwrap-requires c =
    let read : IsUtf8 c.deref.result.now = subst IsUtf8 (sym c.deref.ensures.0) (utf8_reply _ _ _ _ _ c.in_ok-bytes.ensures) in
    search rules
