use Rattle.serial.proofs.Theorem.{does}
use Rattle.line.proofs.parts.Line.submit.Goals as goal

pub returns : goal.returns
returns g c = does _ _ _ _ c.submit_step.ensures.value c.submit_step.ensures.after
