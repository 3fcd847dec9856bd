use Rattle.std.proofs.Common.{IsUtf8, decimal, sym, subst, arith}
use Rattle.answer_text.proofs.Utf8.{utf8_decimal, utf8_line, utf8_accepted}
use Rattle.answer_text.proofs.answers.accepted_text_line.Goals as goal

pub as_text-requires : goal.as_text-requires
as_text-requires g c = (omega arith, (omega arith, subst IsUtf8 (sym c.accepted_line.ensures) (utf8_line _ (utf8_accepted decimal utf8_decimal _))))
