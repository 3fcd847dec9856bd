use Rattle.std.proofs.Common.{IsUtf8, sym, subst, arith}
use Rattle.answer_text.proofs.Utf8.{utf8_line, utf8_script}
use Rattle.answer_text.proofs.faults.script_fault_line.Goals as goal

pub as_text-requires : goal.as_text-requires
as_text-requires c = (omega arith, (omega arith, subst IsUtf8 (sym c.script_fault_bytes.ensures) (utf8_line _ (utf8_script _))))
