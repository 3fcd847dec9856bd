use Rattle.serial.proofs.Theorem.{does}
use Rattle.line.proofs.parts.Line.call.Goals as goal

pub returns : goal.returns
returns g c = does _ _ _ _ c.call_step.ensures.value c.call_step.ensures.after
