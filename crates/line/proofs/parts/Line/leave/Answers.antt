use Rattle.serial.proofs.Theorem.{does}
use Rattle.line.proofs.parts.Line.leave.Goals as goal

pub returns : goal.returns
returns g c = does _ _ _ _ c.leave_step.ensures.value c.leave_step.ensures.after
