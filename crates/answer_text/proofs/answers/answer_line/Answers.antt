use Rattle.std.proofs.Common.{IsUtf8, sym, subst, arith}
use Rattle.answer_text.proofs.Utf8.{utf8_line, utf8_fault}
use Rattle.answer_text.proofs.answers.answer_line.Goals as goal

pub as_text-requires : goal.as_text-requires
as_text-requires g c = (omega arith, (omega arith, subst IsUtf8 (sym c.fault_line.ensures) (utf8_line _ (utf8_fault _))))
