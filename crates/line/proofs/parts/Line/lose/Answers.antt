use Rattle.serial.proofs.Theorem.{does}
use Rattle.line.proofs.parts.Line.lose.Goals as goal

pub returns : goal.returns
returns g c = does _ _ _ _ c.lose_step.ensures.value c.lose_step.ensures.after
