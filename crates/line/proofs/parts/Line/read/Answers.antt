use Rattle.serial.proofs.Theorem.{does}
use Rattle.line.proofs.parts.Line.read.Goals as goal

pub returns : goal.returns
returns g c = does _ _ _ _ c.read_step.ensures.value c.read_step.ensures.after
