use Rattle.serial.proofs.Theorem.{does}
use Rattle.line.proofs.parts.Line.write.Goals as goal

pub returns : goal.returns
returns g c = does _ _ _ _ c.write_step.ensures.value c.write_step.ensures.after
