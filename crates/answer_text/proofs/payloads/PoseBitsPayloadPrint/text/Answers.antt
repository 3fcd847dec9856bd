use Rattle.std.proofs.Common.{IsUtf8, sym, subst, arith}
use Rattle.answer_text.proofs.Utf8.{utf8_pose}
use Rattle.answer_text.proofs.payloads.PoseBitsPayloadPrint.text.Goals as goal

pub as_text-requires : goal.as_text-requires
as_text-requires c = (omega arith, (omega arith, subst IsUtf8 (sym c.bytes-angles.ensures) (utf8_pose _)))
