use Rattle.serial.proofs.Theorem.{does}
use Rattle.line.proofs.parts.Line.join.Goals as goal

pub returns : goal.returns
returns g c = does _ _ _ _ c.join_step.ensures.value c.join_step.ensures.after
