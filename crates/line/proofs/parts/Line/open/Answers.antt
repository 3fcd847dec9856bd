use Rattle.serial.proofs.Theorem.{does}
use Rattle.line.proofs.parts.Line.open.Goals as goal

pub returns : goal.returns
returns g c = does _ _ _ _ c.open_step.ensures.value c.open_step.ensures.after
