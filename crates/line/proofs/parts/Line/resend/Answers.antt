use Rattle.serial.proofs.Theorem.{does}
use Rattle.line.proofs.parts.Line.resend.Goals as goal

pub returns : goal.returns
returns g c = does _ _ _ _ c.resend_step.ensures.value c.resend_step.ensures.after
