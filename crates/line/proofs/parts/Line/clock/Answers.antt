use Rattle.serial.proofs.Theorem.{does}
use Rattle.line.proofs.parts.Line.clock.Goals as goal

pub returns : goal.returns
returns g c = does _ _ _ _ c.clock_step.ensures.value c.clock_step.ensures.after
